-- The lines of a listing besides those of frames: docs/RULES.md, "IVF, picture choice, listing".
-- Assumes nothing.
use Rattle.std.specs.Prelude.{ℕ, List, [], ◌∷◌}
use Rattle.text_line.specs.Line.{Word, number, word}

abbrev pub column_line : List Word
column_line =
    word "chunk"
    ∷ word "frame"
    ∷ word "kind"
    ∷ word "at"
    ∷ word "size"
    ∷ word "width"
    ∷ word "height"
    ∷ word "refresh"
    ∷ word "hdr"
    ∷ []

-- a refused chunk, with docs/RULES.md's number and the frame number
abbrev pub refused_line : ℕ → ℕ → ℕ → List Word
refused_line chunk refusal frame = number chunk ∷ word "refused" ∷ number refusal ∷ word "frame" ∷ number frame ∷ []

abbrev pub file_refused_line : ℕ → List Word
file_refused_line refusal = word "file" ∷ word "refused" ∷ number refusal ∷ []

abbrev pub last_line : ℕ → ℕ → List Word
last_line chunks refused = number chunks ∷ word "chunks" ∷ number refused ∷ word "refused" ∷ []
