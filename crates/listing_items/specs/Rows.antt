-- The segment records of a worked file, a statement about the definitions. The bytes are made from field values
-- (tests/handmade), the records are the second reader's (tests/second): tests/listing/worked_records.py.
-- Assumes nothing.
use Rattle.std.specs.Prelude.{ℕ, ◌≡◌, Bool, true, false, List, [], ◌∷◌, map, pos}
use Rattle.base_types.specs.declared.header.Header.{Header}
use Rattle.segment_records.specs.declared.Segmentation.{Segmentation}
use Rattle.listing_items.specs.Items.{Item, columns, frame, refused, file_refused, last, long_form}

abbrev made : List ℕ → ℕ → ℕ → ℕ → ℕ → Bool → ℕ → Bool → Segmentation
made levels luma_ac luma_dc chroma_ac chroma_dc reference_enabled reference skip =
    record {
      lvl_lookup = levels;
      luma_ac_quant_scale = pos luma_ac;
      luma_dc_quant_scale = pos luma_dc;
      chroma_ac_quant_scale = pos chroma_ac;
      chroma_dc_quant_scale = pos chroma_dc;
      reference_frame_enabled = reference_enabled;
      reference_frame = pos reference;
      reference_skip_enabled = skip;
    }

-- those of a frame
abbrev pub item_records : Item → List Segmentation
item_records columns = []
item_records (frame c i at size h records) = records
item_records (refused c number i) = []
item_records (file_refused number) = []
item_records (last chunks n) = []

-- a frame after which all levels are set; a refused chunk whose first frame is good; a frame that keeps intra's second
-- level; a show-existing frame, which sets all levels to 0, and behind it one that keeps intra's second
abbrev pub recorded_file : List ℕ
recorded_file =
    0x44 ∷ 0x4B ∷ 0x49 ∷ 0x46 ∷ 0x00 ∷ 0x00 ∷ 0x20 ∷ 0x00 ∷ 0x56 ∷ 0x50 ∷ 0x39 ∷ 0x30 ∷ 0x40 ∷ 0x00 ∷ 0x30 ∷ 0x00 ∷
    0x1E ∷ 0x00 ∷ 0x00 ∷ 0x00 ∷ 0x01 ∷ 0x00 ∷ 0x00 ∷ 0x00 ∷ 0x00 ∷ 0x00 ∷ 0x00 ∷ 0x00 ∷ 0x00 ∷ 0x00 ∷ 0x00 ∷ 0x00 ∷
    0x15 ∷ 0x00 ∷ 0x00 ∷ 0x00 ∷ 0x00 ∷ 0x00 ∷ 0x00 ∷ 0x00 ∷ 0x00 ∷ 0x00 ∷ 0x00 ∷ 0x00 ∷ 0x82 ∷ 0x49 ∷ 0x83 ∷ 0x42 ∷
    0x20 ∷ 0x00 ∷ 0xF0 ∷ 0x00 ∷ 0x74 ∷ 0x28 ∷ 0x07 ∷ 0x82 ∷ 0x81 ∷ 0x14 ∷ 0x47 ∷ 0x80 ∷ 0xA1 ∷ 0x00 ∷ 0x00 ∷ 0x00 ∷
    0x28 ∷ 0x13 ∷ 0x00 ∷ 0x00 ∷ 0x00 ∷ 0x01 ∷ 0x00 ∷ 0x00 ∷ 0x00 ∷ 0x00 ∷ 0x00 ∷ 0x00 ∷ 0x00 ∷ 0x82 ∷ 0x49 ∷ 0x83 ∷
    0x42 ∷ 0x20 ∷ 0x00 ∷ 0x70 ∷ 0x00 ∷ 0xF4 ∷ 0x00 ∷ 0x07 ∷ 0x80 ∷ 0x00 ∷ 0x05 ∷ 0x00 ∷ 0xC1 ∷ 0x0E ∷ 0x01 ∷ 0xC1 ∷
    0x0C ∷ 0x00 ∷ 0x00 ∷ 0x00 ∷ 0x02 ∷ 0x00 ∷ 0x00 ∷ 0x00 ∷ 0x00 ∷ 0x00 ∷ 0x00 ∷ 0x00 ∷ 0x86 ∷ 0x00 ∷ 0x40 ∷ 0x02 ∷
    0x60 ∷ 0xA1 ∷ 0xC3 ∷ 0x00 ∷ 0xF0 ∷ 0x00 ∷ 0x00 ∷ 0xA0 ∷ 0x0F ∷ 0x00 ∷ 0x00 ∷ 0x00 ∷ 0x03 ∷ 0x00 ∷ 0x00 ∷ 0x00 ∷
    0x00 ∷ 0x00 ∷ 0x00 ∷ 0x00 ∷ 0x89 ∷ 0x86 ∷ 0x00 ∷ 0x40 ∷ 0x02 ∷ 0x62 ∷ 0x11 ∷ 0x1E ∷ 0x00 ∷ 0x00 ∷ 0x14 ∷ 0xC1 ∷
    0x01 ∷ 0x0A ∷ 0xC1 ∷ []

abbrev pub worked_records : List (List Segmentation)
worked_records =
    []
    ∷ (made (20 ∷ 20 ∷ 20 ∷ 20 ∷ 20 ∷ 20 ∷ 20 ∷ 20 ∷ []) 67 57 67 57 false 0 false
    ∷ made (25 ∷ 25 ∷ 25 ∷ 25 ∷ 25 ∷ 25 ∷ 25 ∷ 25 ∷ []) 67 57 67 57 false 0 false
    ∷ made (20 ∷ 20 ∷ 20 ∷ 20 ∷ 20 ∷ 20 ∷ 20 ∷ 20 ∷ []) 97 81 97 81 false 0 false
    ∷ made (20 ∷ 20 ∷ 20 ∷ 20 ∷ 20 ∷ 20 ∷ 20 ∷ 20 ∷ []) 67 57 67 57 true 1 false
    ∷ made (20 ∷ 20 ∷ 20 ∷ 20 ∷ 20 ∷ 20 ∷ 20 ∷ 20 ∷ []) 67 57 67 57 false 0 true
    ∷ made (20 ∷ 20 ∷ 20 ∷ 20 ∷ 20 ∷ 20 ∷ 20 ∷ 20 ∷ []) 67 57 67 57 false 0 false
    ∷ made (20 ∷ 20 ∷ 20 ∷ 20 ∷ 20 ∷ 20 ∷ 20 ∷ 20 ∷ []) 67 57 67 57 false 0 false
    ∷ made (20 ∷ 20 ∷ 20 ∷ 20 ∷ 20 ∷ 20 ∷ 20 ∷ 20 ∷ []) 67 57 67 57 false 0 false ∷ [])
    ∷ []
    ∷ (made (13 ∷ 20 ∷ 10 ∷ 10 ∷ 9 ∷ 9 ∷ 9 ∷ 9 ∷ []) 67 57 67 57 false 0 false
    ∷ made (13 ∷ 25 ∷ 10 ∷ 10 ∷ 9 ∷ 9 ∷ 9 ∷ 9 ∷ []) 67 57 67 57 false 0 false
    ∷ made (13 ∷ 20 ∷ 10 ∷ 10 ∷ 9 ∷ 9 ∷ 9 ∷ 9 ∷ []) 67 57 67 57 false 0 false
    ∷ made (13 ∷ 20 ∷ 10 ∷ 10 ∷ 9 ∷ 9 ∷ 9 ∷ 9 ∷ []) 67 57 67 57 true 1 false
    ∷ made (13 ∷ 20 ∷ 10 ∷ 10 ∷ 9 ∷ 9 ∷ 9 ∷ 9 ∷ []) 67 57 67 57 false 0 true
    ∷ made (13 ∷ 20 ∷ 10 ∷ 10 ∷ 9 ∷ 9 ∷ 9 ∷ 9 ∷ []) 67 57 67 57 false 0 false
    ∷ made (13 ∷ 20 ∷ 10 ∷ 10 ∷ 9 ∷ 9 ∷ 9 ∷ 9 ∷ []) 67 57 67 57 false 0 false
    ∷ made (13 ∷ 20 ∷ 10 ∷ 10 ∷ 9 ∷ 9 ∷ 9 ∷ 9 ∷ []) 67 57 67 57 false 0 false ∷ [])
    ∷ (made (0 ∷ 0 ∷ 0 ∷ 0 ∷ 0 ∷ 0 ∷ 0 ∷ 0 ∷ []) 4 4 4 4 false 0 false
    ∷ made (0 ∷ 0 ∷ 0 ∷ 0 ∷ 0 ∷ 0 ∷ 0 ∷ 0 ∷ []) 4 4 4 4 false 0 false
    ∷ made (0 ∷ 0 ∷ 0 ∷ 0 ∷ 0 ∷ 0 ∷ 0 ∷ 0 ∷ []) 4 4 4 4 false 0 false
    ∷ made (0 ∷ 0 ∷ 0 ∷ 0 ∷ 0 ∷ 0 ∷ 0 ∷ 0 ∷ []) 4 4 4 4 false 0 false
    ∷ made (0 ∷ 0 ∷ 0 ∷ 0 ∷ 0 ∷ 0 ∷ 0 ∷ 0 ∷ []) 4 4 4 4 false 0 false
    ∷ made (0 ∷ 0 ∷ 0 ∷ 0 ∷ 0 ∷ 0 ∷ 0 ∷ 0 ∷ []) 4 4 4 4 false 0 false
    ∷ made (0 ∷ 0 ∷ 0 ∷ 0 ∷ 0 ∷ 0 ∷ 0 ∷ 0 ∷ []) 4 4 4 4 false 0 false
    ∷ made (0 ∷ 0 ∷ 0 ∷ 0 ∷ 0 ∷ 0 ∷ 0 ∷ 0 ∷ []) 4 4 4 4 false 0 false ∷ [])
    ∷ (made (39 ∷ 0 ∷ 33 ∷ 33 ∷ 31 ∷ 31 ∷ 31 ∷ 31 ∷ []) 67 57 67 57 false 0 false
    ∷ made (39 ∷ 0 ∷ 33 ∷ 33 ∷ 31 ∷ 31 ∷ 31 ∷ 31 ∷ []) 67 57 67 57 false 0 false
    ∷ made (39 ∷ 0 ∷ 33 ∷ 33 ∷ 31 ∷ 31 ∷ 31 ∷ 31 ∷ []) 67 57 67 57 false 0 false
    ∷ made (39 ∷ 0 ∷ 33 ∷ 33 ∷ 31 ∷ 31 ∷ 31 ∷ 31 ∷ []) 67 57 67 57 true 1 false
    ∷ made (39 ∷ 0 ∷ 33 ∷ 33 ∷ 31 ∷ 31 ∷ 31 ∷ 31 ∷ []) 67 57 67 57 false 0 true
    ∷ made (39 ∷ 0 ∷ 33 ∷ 33 ∷ 31 ∷ 31 ∷ 31 ∷ 31 ∷ []) 67 57 67 57 false 0 false
    ∷ made (39 ∷ 0 ∷ 33 ∷ 33 ∷ 31 ∷ 31 ∷ 31 ∷ 31 ∷ []) 67 57 67 57 false 0 false
    ∷ made (39 ∷ 0 ∷ 33 ∷ 33 ∷ 31 ∷ 31 ∷ 31 ∷ 31 ∷ []) 67 57 67 57 false 0 false ∷ [])
    ∷ []
    ∷ []

abbrev pub Recorded : Type 0
Recorded = map item_records (long_form recorded_file) ≡ worked_records
