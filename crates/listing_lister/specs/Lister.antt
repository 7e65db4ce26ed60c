-- A lister, and what becomes of it.
-- Assumes nothing.
use Rattle.std.specs.Prelude.{ℕ, ◌+◌, ◌≤◌, min}
use Rattle.base_types.specs.ReaderState.{fresh_state}
use Rattle.chunk_answer.specs.declared.Answer.{Answer}
use Rattle.chunk_answer.specs.declared.Answer.TheVariants as answer
use Rattle.chunk_answer.specs.declared.ChunkRead.{ChunkRead}
use Rattle.ivf_walk.specs.declared.Stage.{Stage}
use Rattle.ivf_walk.specs.declared.Stage.TheVariants.{Start}
use Rattle.listing_lister.specs.declared.Lister.{Lister}

abbrev pub fresh_lister : Lister
fresh_lister = record { stage = Start; chunks = 0; refused = 0; state = fresh_state }

-- a count of 64 bits, which stays where it can't grow
unfoldable pub one_more : ℕ → ℕ
one_more n = min (n + 1) 18446744073709551615

abbrev pub at_stage : Lister → Stage → Lister
at_stage l stage = record { stage = stage; chunks = l.chunks; refused = l.refused; state = l.state }

abbrev pub after_too_long : Lister → Stage → Lister
after_too_long l stage = record { stage = stage; chunks = one_more l.chunks; refused = one_more l.refused; state = l.state }

abbrev pub refused_after : ℕ → Answer → ℕ
refused_after n (answer.Frames m) = n
refused_after n answer.Empty = one_more n
refused_after n answer.Short = one_more n
refused_after n (answer.Past i) = one_more n
refused_after n (answer.Header i e) = one_more n

abbrev pub after_chunk : Lister → Stage → ChunkRead → Lister
after_chunk l stage r = record { stage = stage; chunks = one_more l.chunks; refused = refused_after l.refused r.answer; state = r.state }

-- a chunk's answer never has more
abbrev pub FewFrames : Answer → Type 0
FewFrames (answer.Frames n) = n ≤ 8
FewFrames answer.Empty = Unit
FewFrames answer.Short = Unit
FewFrames (answer.Past i) = Unit
FewFrames (answer.Header i e) = Unit
