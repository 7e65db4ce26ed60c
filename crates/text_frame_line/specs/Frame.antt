-- What a frame is called, and its line: docs/RULES.md, "IVF, picture choice, listing".
-- Assumes nothing.
use Rattle.std.specs.Prelude.{ℕ, Bool, List, [], ◌∷◌}
use Prim.Native.String.{String}
use Rattle.base_shared.specs.Choice.{pick}
use Rattle.base_enums.specs.declared.FrameType.{FrameType}
use Rattle.base_enums.specs.declared.FrameType.TheVariants.{KeyFrame, InterFrame}
use Rattle.base_types.specs.declared.header.Header.{Header}
use Rattle.text_line.specs.Line.{Word, number, word}
use Rattle.text_frame_line.specs.declared.Kind.{Kind}
use Rattle.text_frame_line.specs.declared.Kind.TheVariants.{Key, Intra, Inter, Show}

abbrev pub kind_by : FrameType → Bool → Kind
kind_by KeyFrame intra_only = Key
kind_by InterFrame intra_only = pick intra_only Intra Inter

abbrev pub frame_kind : Header → Kind
frame_kind h = pick h.show_existing_frame Show (kind_by h.frame_type h.intra_only)

abbrev pub kind_word : Kind → String
kind_word Key = "key"
kind_word Intra = "intra"
kind_word Inter = "inter"
kind_word Show = "show"

-- chunk frame kind at size width height refresh hdr
abbrev pub frame_line : ℕ → ℕ → ℕ → ℕ → Header → List Word
frame_line chunk frame at size h =
    number chunk
    ∷ number frame
    ∷ word (kind_word (frame_kind h))
    ∷ number at
    ∷ number size
    ∷ number h.width
    ∷ number h.height
    ∷ number h.refresh_frame_flags
    ∷ number h.uncompressed_header_size_in_bytes
    ∷ []
