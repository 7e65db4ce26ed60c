-- A file that arrives in blocks, and the items of a tracer that is called on each as it comes. proofs/Whole.antt shows
-- that they are the long form of the whole file.
-- Assumes nothing.
use Rattle.std.specs.Prelude.{ℕ, zero, suc, ◌+◌, ◌*◌, Bool, true, false, List, [], ◌∷◌, ◌++◌, length, drop}
use Rattle.base_shared.specs.Choice.{pick}
use Rattle.listing_items.specs.Items.{Item}
use Rattle.listing_tracer.specs.declared.Tracer.{Tracer}
use Rattle.listing_tracer.specs.declared.Yields.{Yields}
use Rattle.listing_tracer.specs.declared.Yields.TheVariants.{More, Again, Columns, Frame, Refused, NoFile, Cut, Last, Over}
use Rattle.listing_tracer.specs.Tracer.{fresh_tracer}
use Rattle.listing_tracer.specs.Traced.{traced_of, items_in}

-- what calls yield, the tracer after them, what is left of what was at hand, and whether another call is wanted
pub record Outcome : Type 0 where
  pub items : List Item
  pub tracer : Tracer
  pub kept : List ℕ
  pub again : Bool

abbrev pub goes_again : Yields → Bool
goes_again More = false
goes_again Again = true
goes_again Columns = true
goes_again (Frame c i at size) = true
goes_again (Refused c number i) = true
goes_again NoFile = false
goes_again (Cut chunks n) = false
goes_again (Last chunks n) = false
goes_again Over = false

unfoldable pub one_call : Tracer → List ℕ → Bool → Outcome
one_call t s ended = let r = traced_of t s ended in record { items = items_in r; tracer = r.tracer; kept = drop r.used s; again = goes_again r.yields }

abbrev pub following : List Item → Outcome → Outcome
following items c = record { items = items ++ c.items; tracer = c.tracer; kept = c.kept; again = c.again }

-- call after call as long as another is wanted, at most n
unfoldable pub many_calls : ℕ → Tracer → List ℕ → Bool → Outcome
many_calls zero t s ended = record { items = []; tracer = t; kept = s; again = true }
many_calls (suc n) t s ended = let c = one_call t s ended in pick c.again (following c.items (many_calls n c.tracer c.kept ended)) c

-- all that are wanted: each but two uses a byte, or yields a frame, of which a chunk has eight at most
abbrev pub handed_in : Tracer → List ℕ → Bool → Outcome
handed_in t s ended = many_calls (9 * (length s + 3)) t s ended

-- each block is handed in behind what was kept of those before it, and last the file's end
unfoldable pub arrives_traced : Tracer → List ℕ → List (List ℕ) → List Item
arrives_traced t kept [] = (handed_in t kept true).items
arrives_traced t kept (block ∷ others) = let c = handed_in t (kept ++ block) false in c.items ++ arrives_traced c.tracer c.kept others

abbrev pub yielded : List (List ℕ) → List Item
yielded blocks = arrives_traced fresh_tracer [] blocks
