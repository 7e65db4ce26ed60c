-- Every turn takes no more than is at hand, and brings the walk on: it leaves less to do with what is at hand, or ends
-- the walk, or asks for more, which it never does at the file's end, nor with much at hand.
-- Assumes nothing.
use Prim.Native.Nat.{ℕ, ◌+◌, ◌-◌, ◌*◌, ◌<◌, ◌≤◌}
use mathlib.Core.Path.{◌≡◌, refl}
use mathlib.Core.Logic.{◌⊎◌, inl, inr}
use mathlib.Core.Bool.{Bool, true, false, ◌&&◌}
use mathlib.Core.List.{List}
use native.Mathlib.Omega.{arith}
use lib.Dec.{leb, ltb}
use lib.ListN.{length}
use borrow.Author.Tests.{ltb-true, ltb-false, leb-true, leb-false}
use Rattle.base_shared.specs.Choice.{pick, pick_t}
use Rattle.std.specs.Prelude.{Ok, Err}
use Rattle.ivf_file.specs.File.{is_ivf, file_of, file_header_of}
use Rattle.ivf_arriving.specs.declared.Next.{Next}
use Rattle.ivf_arriving.specs.declared.Next.TheVariants as next
use Rattle.ivf_arriving.specs.Next.{next_record}
use Rattle.ivf_walk.specs.declared.Stage.{Stage}
use Rattle.ivf_walk.specs.declared.Stage.TheVariants.{Start, Records, Skip, Over}
use Rattle.ivf_walk.specs.declared.Event.{Event}
use Rattle.ivf_walk.specs.declared.Event.TheVariants.{More, Pass, NoFile, Opened, Data, TooLong, Cut, End}
use Rattle.ivf_walk.specs.declared.Event.TheVariants as event
use Rattle.ivf_walk.specs.declared.Turn.{Turn}
use Rattle.ivf_walk.specs.Turn.{takes, file_turn, start_turn, turn_by, skip_turn, turn_of}
use Rattle.ivf_walk.specs.Rest.{FromStart}
use Rattle.ivf_walk.proofs.Steps.{all_there, too_few, enough, all_passed, cut_inside, part_passed, AtHand, next_there}

-- how many turns are left at most where nothing is at hand
abbrev pub turns_left : Stage → ℕ
turns_left Start = 1
turns_left Records = 1
turns_left (Skip left) = 2
turns_left Over = 0

-- what is at hand may be enough for another turn
abbrev pub goes_on : Event → Bool
goes_on More = false
goes_on Pass = true
goes_on NoFile = false
goes_on Opened = true
goes_on (Data n) = true
goes_on TooLong = true
goes_on Cut = false
goes_on End = false
goes_on event.Over = false

-- records that are said, and one whose header is passed and which isn't said yet
abbrev pub counted : Event → ℕ
counted More = 0
counted Pass = 0
counted NoFile = 0
counted Opened = 0
counted (Data n) = 1
counted TooLong = 1
counted Cut = 0
counted End = 0
counted event.Over = 0

abbrev pub passing : Stage → ℕ
passing Start = 0
passing Records = 0
passing (Skip left) = 1
passing Over = 0

abbrev pub DataFits : ℕ → Event → Type 0
DataFits m (Data n) = 12 + n ≤ m
DataFits m More = Unit
DataFits m Pass = Unit
DataFits m NoFile = Unit
DataFits m Opened = Unit
DataFits m TooLong = Unit
DataFits m Cut = Unit
DataFits m End = Unit
DataFits m event.Over = Unit

-- of a turn with m bytes at hand
pub record Moves (stage : Stage) (ended : Bool) (m : ℕ) (t : Turn) : Type 0 where
  pub within : t.used ≤ m
  pub fits : DataFits m t.event
  pub brings : pick_t (goes_on t.event) (turns_left t.stage + (m - t.used) < turns_left stage + m) ((t.stage ≡ Over) ⊎ ((ended ≡ false) × (m - t.used < 65548)))
  -- each record takes two bytes or more
  pub pays : 2 * (counted t.event + passing t.stage) ≤ 2 * passing stage + t.used
  pub stands : (p : ℕ) → FromStart stage p → FromStart t.stage (p + t.used)

-- a turn that ends the walk
ends : (stage : Stage) (ended : Bool) (m used : ℕ) (e : Event) → used ≤ m → DataFits m e → goes_on e ≡ false → counted e ≡ 0 → Moves stage ended m (takes e used Over)
ends stage ended m used e h d g z = record { within = h; fits = d; brings = rw g (inl refl); pays = omega (arith, z); stands = λ p k. tt }

file_moves : (ended : Bool) (s : List ℕ) → Moves Start ended (length s) (file_turn (file_of s))
unfolding file_of is_ivf
file_moves ended s = go (leb 32 (length s)) refl _
  where
    go : (b : Bool) → leb 32 (length s) ≡ b → (others : Bool) → Moves Start ended (length s) (file_turn (pick (b && others) (Ok (file_header_of s)) (Err (record {}))))
    go true e true = let h = leb-true 32 (length s) e in record { within = h; fits = tt; brings = omega arith; pays = omega arith; stands = λ p k. tt }
    go true e false = ends Start ended (length s) 0 NoFile (omega arith) tt refl refl
    go false e others = ends Start ended (length s) 0 NoFile (omega arith) tt refl refl

start_moves : (ended : Bool) (s : List ℕ) → Moves Start ended (length s) (start_turn s ended)
start_moves true s = rw (← all_there s) (file_moves true s)
start_moves false s = go (ltb (length s) 32) refl
  where
    go : (b : Bool) → ltb (length s) 32 ≡ b → Moves Start false (length s) (start_turn s false)
    go true e =
        let h = ltb-true (length s) 32 e in
        rw (← too_few s h) (record { within = omega arith; fits = tt; brings = inr (refl, omega arith); pays = omega arith; stands = λ p k. omega arith })
    go false e = rw (← enough s (ltb-false (length s) 32 e)) (file_moves false s)

record_moves : (ended : Bool) (m : ℕ) (n : Next) → AtHand ended m n → Moves Records ended m (turn_by n)
record_moves ended m next.End h = ends Records ended m 0 End (omega arith) tt refl refl
record_moves ended m next.More h = record { within = omega arith; fits = tt; brings = inr (h.0, omega (arith, h.1)); pays = omega arith; stands = λ p k. tt }
record_moves ended m next.Cut h = ends Records ended m 0 Cut (omega arith) tt refl refl
record_moves ended m (next.Data n) h = record { within = h; fits = h; brings = omega arith; pays = omega arith; stands = λ p k. tt }
record_moves ended m (next.Long n) h = record { within = h; fits = tt; brings = omega arith; pays = omega arith; stands = λ p k. tt }

skip_moves : (left : ℕ) (ended : Bool) (s : List ℕ) → Moves (Skip left) ended (length s) (skip_turn left s ended)
skip_moves left ended s = go (leb left (length s)) refl ended
  where
    go : (b : Bool) → leb left (length s) ≡ b → (ended : Bool) → Moves (Skip left) ended (length s) (skip_turn left s ended)
    go true e ended =
        let h = leb-true left (length s) e in
        rw (← all_passed left s ended h) (record { within = h; fits = tt; brings = omega arith; pays = omega arith; stands = λ p k. tt })
    go false e true = rw (← cut_inside left s (leb-false left (length s) e)) (ends (Skip left) true (length s) (length s) Cut (omega arith) tt refl refl)
    go false e false =
        rw (← part_passed left s (leb-false left (length s) e))
        (record { within = omega arith; fits = tt; brings = inr (refl, omega arith); pays = omega arith; stands = λ p k. tt })

pub turn_moves : (stage : Stage) (ended : Bool) (s : List ℕ) → Moves stage ended (length s) (turn_of stage s ended)
turn_moves Start ended s = start_moves ended s
turn_moves Records ended s = record_moves ended (length s) (next_record s ended) (next_there s ended)
turn_moves (Skip left) ended s = skip_moves left ended s
turn_moves Over ended s = ends Over ended (length s) 0 event.Over (omega arith) tt refl refl

pub data_at_hand : (stage : Stage) (ended : Bool) (s : List ℕ) (t : Turn) → t ≡ turn_of stage s ended → (n : ℕ) → t.event ≡ Data n → 12 + n ≤ length s
data_at_hand stage ended s t e n d = (rw d at (rw (← e) at (turn_moves stage ended s))).fits
