-- The lines of a chunk: docs/RULES.md, "IVF, picture choice, listing".
-- Assumes nothing.
use Rattle.std.specs.Prelude.{ℕ, List, [], ◌∷◌, get_or}
use Rattle.base_shared.specs.Lists.{values_of}
use Rattle.base_bits.specs.Refusal.{refusal_number}
use Rattle.base_types.specs.declared.header.Header.{Header}
use Rattle.base_types.specs.Header.{default_header}
use Rattle.chunk_answer.specs.declared.Answer.{Answer}
use Rattle.chunk_answer.specs.declared.Answer.TheVariants as answer
use Rattle.chunk_answer.specs.declared.ChunkRead.{ChunkRead}
use Rattle.text_line.specs.Line.{Word}
use Rattle.text_listing.specs.Lines.{refused_line}
use Rattle.text_frame_line.specs.Frame.{frame_line}

-- of frame i, by the frames' places, sizes and headers
abbrev pub line_from : ℕ → List ℕ → List ℕ → List Header → ℕ → List Word
line_from chunk places sizes headers i = frame_line chunk i (get_or places i 0) (get_or sizes i 0) (get_or headers i default_header)

abbrev pub line_of_frame : ℕ → ChunkRead → ℕ → List Word
line_of_frame chunk r = line_from chunk r.at r.size r.headers

-- a line for each frame, or one for the refusal
abbrev pub answer_lines : ℕ → ChunkRead → Answer → List (List Word)
answer_lines chunk r (answer.Frames n) = values_of (line_of_frame chunk r) n
answer_lines chunk r answer.Empty = refused_line chunk 1 0 ∷ []
answer_lines chunk r answer.Short = refused_line chunk 2 0 ∷ []
answer_lines chunk r (answer.Past i) = refused_line chunk 3 i ∷ []
answer_lines chunk r (answer.Header i e) = refused_line chunk (refusal_number e) i ∷ []

abbrev pub chunk_lines : ℕ → ChunkRead → List (List Word)
chunk_lines chunk r = answer_lines chunk r r.answer

-- how many refused chunks that is
abbrev pub refusals : Answer → ℕ
refusals (answer.Frames n) = 0
refusals answer.Empty = 1
refusals answer.Short = 1
refusals (answer.Past i) = 1
refusals (answer.Header i e) = 1
