-- The listing of a file: docs/RULES.md, "IVF, picture choice, listing".
-- Assumes nothing.
use Rattle.std.specs.Prelude.{ℕ, ◌+◌, List, [], ◌∷◌, ◌++◌}
use Rattle.base_types.specs.declared.state.ReaderState.{ReaderState}
use Rattle.base_types.specs.ReaderState.{fresh_state}
use Rattle.chunk_answer.specs.declared.ChunkRead.{ChunkRead}
use Rattle.chunk_parser.specs.Answer.{chunk_of}
use Rattle.ivf_file.specs.File.{file_frame}
use Rattle.ivf_walk.specs.Said.{Said, no_file, opened, chunk, too_long, cut, end, file_said}
use Rattle.text_line.specs.Line.{Word, text_of}
use Rattle.text_listing.specs.Lines.{column_line, refused_line, file_refused_line, last_line}
use Rattle.listing_file.specs.Chunk.{chunk_lines, refusals}

-- after so many chunks, of which so many were refused, under the remembered state: 7 and 8 are no chunks, 9 is one
unfoldable pub lines_of : ℕ → ℕ → ReaderState → List Said → List (List Word)
lines_of chunks refused st [] = []
lines_of chunks refused st (no_file ∷ others) = file_refused_line 7 ∷ lines_of chunks refused st others
lines_of chunks refused st (opened ∷ others) = column_line ∷ lines_of chunks refused st others
lines_of chunks refused st (chunk bytes ∷ others) =
    let r = chunk_of bytes st in
    chunk_lines chunks r ++ lines_of (chunks + 1) (refused + refusals r.answer) r.state others
lines_of chunks refused st (too_long ∷ others) = refused_line chunks 9 file_frame ∷ lines_of (chunks + 1) (refused + 1) st others
lines_of chunks refused st (cut ∷ others) = file_refused_line 8 ∷ last_line chunks refused ∷ lines_of chunks refused st others
lines_of chunks refused st (end ∷ others) = last_line chunks refused ∷ lines_of chunks refused st others

unfoldable pub listing : List ℕ → List ℕ
listing file = text_of (lines_of 0 0 fresh_state (file_said file))
