-- docs/RULES.md, "Numbers on each side of the line": the cases marked P, in its order, each a statement about the
-- definitions; then cases that tell the slots apart, since K fills all of them, and refusals from a state that isn't
-- fresh. Those of the rules have the rules' numbers. The bytes of the others are written by tests/handmade from field
-- values, and their numbers are what the Rust and the second reader answer: tests/cases holds every row to both.
-- Assumes nothing.
use Rattle.std.specs.Prelude.{ℕ, zero, suc, ◌+◌, ◌≡◌, Bool, true, false, List, [], ◌∷◌, ◌++◌, length, get_or, replicate}
use Rattle.base_syntax.specs.Syntax.{flat}
use Rattle.base_size.specs.declared.FrameSize.{FrameSize}
use Rattle.base_enums.specs.declared.FrameType.{FrameType}
use Rattle.base_enums.specs.declared.FrameType.TheVariants.{KeyFrame, InterFrame}
use Rattle.base_loop_filter.specs.declared.LoopFilterParams.{LoopFilterParams}
use Rattle.base_types.specs.declared.state.ReaderState.{ReaderState}
use Rattle.base_loop_filter.specs.LoopFilterParams.{default_filter, reset_filter}
use Rattle.base_segmentation.specs.SegmentationParams.{default_segmentation}
use Rattle.base_types.specs.Header.{default_header}
use Rattle.base_types.specs.ReaderState.{fresh_state}
use Rattle.grammar_tables.specs.Tables.{superblocks, least, most}
use Rattle.grammar_tables.specs.Header.{HeaderValues, header_fields, Spelled}
use Rattle.chunk_answer.specs.declared.ChunkRead.{ChunkRead}
use Rattle.chunk_answer.specs.declared.Answer.TheVariants as answer
use Rattle.chunk_answer.specs.Answer.{chunk_number, chunk_frame}
use Rattle.chunk_parser.specs.Answer.{chunk_of}
use Rattle.segment_features.specs.Features.{features_of}
use Rattle.segment_records.specs.Segmentation.{grid_after}

infix 80 ◌by◌
abbrev pub ◌by◌ : ℕ → ℕ → FrameSize
w by h = record { width = w; height = h }

-- what is said of a frame: its place, and of its header whether it is show-existing, the type, whether it is intra_only,
-- the size, the refresh bits, the length and the quantizer's base
pub record Frame : Type 0 where
  pub at : ℕ
  pub bytes : ℕ
  pub shows : Bool
  pub kind : FrameType
  pub intra_only : Bool
  pub size : FrameSize
  pub refresh : ℕ
  pub header_bytes : ℕ
  pub base : ℕ

abbrev pub the_frame : ChunkRead → ℕ → Frame
the_frame r i =
    let h = get_or r.headers i default_header in
    record {
      at = get_or r.at i 0;
      bytes = get_or r.size i 0;
      shows = h.show_existing_frame;
      kind = h.frame_type;
      intra_only = h.intra_only;
      size = h.width by h.height;
      refresh = h.refresh_frame_flags;
      header_bytes = h.uncompressed_header_size_in_bytes;
      base = h.quant.base_q_idx;
    }

-- n frames from number j on
unfoldable pub frames_from : ChunkRead → ℕ → ℕ → List Frame
frames_from r j zero = []
frames_from r j (suc n) = the_frame r j ∷ frames_from r (j + 1) n

-- the chunk is accepted, with these frames, and leaves these sizes
abbrev pub Accepted : ChunkRead → List Frame → List FrameSize → Type 0
Accepted r fs slots = (r.answer ≡ answer.Frames (length fs)) × (frames_from r 0 (length fs) ≡ fs) × (r.state.reference_frame_sz ≡ slots)

-- the chunk is refused with docs/RULES.md's number n and frame number i: no frames, and the state before
abbrev pub Refused : ChunkRead → ReaderState → ℕ → ℕ → Type 0
Refused r st n i =
    (chunk_number r.answer ≡ n)
    × (chunk_frame r.answer ≡ i)
    × (r.at ≡ replicate 8 0)
    × (r.size ≡ replicate 8 0)
    × (r.headers ≡ replicate 8 default_header)
    × (r.state ≡ st)

-- the frame's bits begin with the spelling of some field values, which has n bits; no other values fit (`one_set` of
-- header_parser)
abbrev pub Bits : List ℕ → List FrameSize → ℕ → Type 0
Bits s slots n = (v : HeaderValues) × Spelled slots s v × (length (flat (header_fields slots v)) ≡ n)

-- a frame's filter at a level, with the deltas that a reset leaves
abbrev pub reset_at : ℕ → LoopFilterParams
reset_at l =
    record {
      level = l;
      sharpness = 0;
      delta_enabled = true;
      delta_update = false;
      update_ref_delta = default_filter.update_ref_delta;
      ref_deltas = (reset_filter default_filter).ref_deltas;
      update_mode_delta = default_filter.update_mode_delta;
      mode_deltas = (reset_filter default_filter).mode_deltas;
    }

-- the level of a reference in mode 0, from records of 0
abbrev pub level_at : ℕ → ℕ → ℕ
level_at l reference = get_or (get_or (grid_after (reset_at l) (features_of default_segmentation 0) (replicate 4 (replicate 2 0))) reference []) 0 0

pub data Case : Type 0 where
  -- a chunk from a state: its frames, and the sizes remembered after
  chunk : List ℕ → ReaderState → List Frame → List FrameSize → Case
  -- a chunk from a state: the number and the frame number of its refusal
  refused : List ℕ → ReaderState → ℕ → ℕ → Case
  -- a frame from a state: the bits of its header
  bits : List ℕ → ReaderState → ℕ → Case
  -- a width, and the least and the most tile columns
  columns : ℕ → ℕ → ℕ → Case
  -- a frame's level, and those of intra, last and golden
  levels : ℕ → ℕ → ℕ → ℕ → Case

abbrev pub Holds : Case → Type 0
Holds (chunk s st fs slots) = Accepted (chunk_of s st) fs slots
Holds (refused s st n i) = Refused (chunk_of s st) st n i
Holds (bits s st n) = Bits s st.reference_frame_sz n
Holds (columns width lo hi) = (least (superblocks width) ≡ lo) × (most (superblocks width) ≡ hi)
Holds (levels l intra last golden) = (level_at l 0 ≡ intra) × (level_at l 1 ≡ last) × (level_at l 2 ≡ golden)

-- docs/RULES.md's chunks: K, all of it but the last byte, I and F
abbrev pub k13 : List ℕ
k13 = 0x82 ∷ 0x49 ∷ 0x83 ∷ 0x42 ∷ 0x20 ∷ 0x03 ∷ 0xF0 ∷ 0x03 ∷ 0xF4 ∷ 0x00 ∷ 0x07 ∷ 0x80 ∷ 0x00 ∷ []

abbrev pub k : List ℕ
k = k13 ++ (0x05 ∷ [])

abbrev pub i : List ℕ
i = 0x86 ∷ 0x00 ∷ 0x40 ∷ 0x02 ∷ 0x60 ∷ 0x00 ∷ 0x3C ∷ 0x00 ∷ 0x00 ∷ 0x28 ∷ []

abbrev pub f : List ℕ
f = k ++ (0x88 ∷ 0xC1 ∷ 0x0E ∷ 0x01 ∷ 0xC1 ∷ [])

-- a key frame of 64 by 48; an intra_only frame of 96 by 40 for slot 1, refresh 0x02; an inter frame for slot 4, refresh
-- 0x10, that names the slots 4, 1 and 0 and takes the size of the second, its size flags being 0 and 1
abbrev pub key48 : List ℕ
key48 = 0x82 ∷ 0x49 ∷ 0x83 ∷ 0x42 ∷ 0x20 ∷ 0x03 ∷ 0xF0 ∷ 0x02 ∷ 0xF4 ∷ 0x00 ∷ 0x07 ∷ 0x80 ∷ 0x00 ∷ 0x05 ∷ []

abbrev pub intra40 : List ℕ
intra40 = 0x84 ∷ 0x89 ∷ 0x30 ∷ 0x68 ∷ 0x40 ∷ 0x40 ∷ 0x0B ∷ 0xE0 ∷ 0x04 ∷ 0xE8 ∷ 0x00 ∷ 0x0F ∷ 0x00 ∷ 0x00 ∷ 0x0A ∷ []

abbrev pub second : List ℕ
second = 0x86 ∷ 0x04 ∷ 0x20 ∷ 0x81 ∷ 0x30 ∷ 0x00 ∷ 0x1E ∷ 0x00 ∷ 0x00 ∷ 0x14 ∷ []

-- the three in one chunk; and K with a second frame whose marker is wrong
abbrev pub three : List ℕ
three = key48 ++ intra40 ++ second ++ (0xC2 ∷ 0x0E ∷ 0x0F ∷ 0x0A ∷ 0xC2 ∷ [])

abbrev pub half_good : List ℕ
half_good = k ++ (0x00 ∷ 0xC1 ∷ 0x0E ∷ 0x01 ∷ 0xC1 ∷ [])

abbrev pub after_k : ReaderState
after_k = (chunk_of k fresh_state).state

-- eight sizes, and the state after K with these in its slots
abbrev pub sizes : List FrameSize
sizes = 16 by 24 ∷ 32 by 40 ∷ 48 by 56 ∷ 64 by 72 ∷ 80 by 88 ∷ 96 by 104 ∷ 112 by 120 ∷ 128 by 136 ∷ []

abbrev pub eight : ReaderState
eight =
    record {
      bit_depth = after_k.bit_depth;
      subsampling_x = after_k.subsampling_x;
      subsampling_y = after_k.subsampling_y;
      color_space = after_k.color_space;
      color_range = after_k.color_range;
      lf = after_k.lf;
      seg = after_k.seg;
      reference_frame_sz = sizes;
    }

-- frames with the base 60, by place, bytes, size, refresh bits and length; and show-existing, else the default header
abbrev pub coded : FrameType → Bool → ℕ → ℕ → FrameSize → ℕ → ℕ → Frame
coded kind intra_only at bytes size refresh header_bytes =
    record { at = at; bytes = bytes; shows = false; kind = kind; intra_only = intra_only; size = size; refresh = refresh; header_bytes = header_bytes; base = 60 }

abbrev pub key : ℕ → ℕ → FrameSize → ℕ → ℕ → Frame
key = coded KeyFrame false

abbrev pub intra : ℕ → ℕ → FrameSize → ℕ → ℕ → Frame
intra = coded InterFrame true

abbrev pub inter : ℕ → ℕ → FrameSize → ℕ → ℕ → Frame
inter = coded InterFrame false

abbrev pub show : ℕ → ℕ → Frame
show at bytes =
    record { at = at; bytes = bytes; shows = true; kind = KeyFrame; intra_only = false; size = 0 by 0; refresh = 0; header_bytes = 0; base = 0 }

abbrev pub table : List Case
table =
    chunk k fresh_state (key 0 14 (64 by 64) 255 14 ∷ []) (replicate 8 (64 by 64))
    ∷ refused k13 fresh_state 6 0
    ∷ chunk i after_k (inter 0 10 (64 by 64) 1 10 ∷ []) (replicate 8 (64 by 64))
    ∷ bits i after_k 77
    ∷ chunk i fresh_state (inter 0 10 (0 by 0) 1 10 ∷ []) (replicate 8 (0 by 0))
    ∷ chunk f fresh_state (key 0 14 (64 by 64) 255 14 ∷ show 14 1 ∷ []) (replicate 8 (64 by 64))
    ∷ refused (0xC1 ∷ []) fresh_state 2 0
    ∷ refused (0xC0 ∷ 0x01 ∷ 0xC0 ∷ []) fresh_state 3 0
    ∷ refused (0xC0 ∷ 0x00 ∷ 0xC0 ∷ []) fresh_state 6 0
    ∷ refused (0x00 ∷ 0x00 ∷ 0xC0 ∷ []) fresh_state 4 0
    ∷ columns 448 0 0
    ∷ columns 449 0 1
    ∷ columns 4096 0 4
    ∷ columns 4097 1 4
    ∷ levels 31 32 31 30
    ∷ levels 32 34 32 30
    ∷ chunk i eight (inter 0 10 (16 by 24) 1 10 ∷ []) sizes
    ∷ chunk second eight (inter 0 10 (32 by 40) 16 10 ∷ []) (16 by 24 ∷ 32 by 40 ∷ 48 by 56 ∷ 64 by 72 ∷ 32 by 40 ∷ 96 by 104 ∷ 112 by 120 ∷ 128 by 136 ∷ [])
    ∷ chunk three fresh_state (key 0 14 (64 by 48) 255 14 ∷ intra 14 15 (96 by 40) 2 15 ∷ inter 29 10 (96 by 40) 16 10 ∷ []) (64 by 48 ∷ 96 by 40 ∷ 64 by 48 ∷ 64 by 48 ∷ 96 by 40 ∷ 64 by 48 ∷ 64 by 48 ∷ 64 by 48 ∷ [])
    ∷ refused k13 eight 6 0
    ∷ refused half_good eight 4 1
    ∷ []

abbrev pub AllHold : List Case → Type 0
AllHold [] = Unit
AllHold (c ∷ others) = Holds c × AllHold others
