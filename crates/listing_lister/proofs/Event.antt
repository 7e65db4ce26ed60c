-- What isn't a record's data, and what isn't an accepted chunk.
-- Assumes nothing.
use Prim.Native.Nat.{ℕ, ◌≤◌}
use mathlib.Core.Path.{◌≡◌, refl}
use mathlib.Core.List.{[], ◌∷◌}
use Rattle.base_shared.proofs.Other.{NotOne}
use Rattle.chunk_answer.specs.declared.Answer.{Answer}
use Rattle.chunk_answer.specs.declared.Answer.TheVariants as answer
use Rattle.chunk_answer.specs.declared.ChunkRead.{ChunkRead}
use Rattle.chunk_answer.specs.Answer.{chunk_number, chunk_frame}
use Rattle.ivf_walk.specs.declared.Event.{Event}
use Rattle.ivf_walk.specs.declared.Event.TheVariants.{More, Pass, NoFile, Opened, Data, TooLong, Cut, End, Over}
use Rattle.text_listing.specs.Lines.{refused_line}
use Rattle.listing_file.specs.Chunk.{answer_lines}
use Rattle.listing_lister.specs.Feed.{by_data, NoData}

pub no_data_lem : {A : Type 0} (e : Event) → NoData e → (a : ℕ → A) (b : A) → by_data e a b ≡ b
no_data_lem (Data n) h a b = absurd h
no_data_lem More h a b = refl
no_data_lem Pass h a b = refl
no_data_lem NoFile h a b = refl
no_data_lem Opened h a b = refl
no_data_lem TooLong h a b = refl
no_data_lem Cut h a b = refl
no_data_lem End h a b = refl
no_data_lem Over h a b = refl

-- as the code tells them apart
pub other_event : (e : Event) → NotOne Data e → NoData e
other_event (Data n) h = absurd (h n refl)
other_event More h = tt
other_event Pass h = tt
other_event NoFile h = tt
other_event Opened h = tt
other_event TooLong h = tt
other_event Cut h = tt
other_event End h = tt
other_event Over h = tt

pub other_answer : (c : ℕ) (r : ChunkRead) (a : Answer) → NotOne answer.Frames a → answer_lines c r a ≡ refused_line c (chunk_number a) (chunk_frame a) ∷ []
other_answer c r (answer.Frames n) h = absurd (h n refl)
other_answer c r answer.Empty h = refl
other_answer c r answer.Short h = refl
other_answer c r (answer.Past i) h = refl
other_answer c r (answer.Header i e) h = refl
