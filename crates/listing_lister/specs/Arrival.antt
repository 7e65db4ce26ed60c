-- A file that arrives in blocks, and what a lister puts out that is fed each as it comes. proofs/Whole.antt shows that
-- it is the listing of the whole file.
-- Assumes nothing.
use Rattle.std.specs.Prelude.{ℕ, zero, suc, ◌+◌, ◌<◌, ◌≡◌, ◌⊎◌, Bool, true, false, List, [], ◌∷◌, ◌++◌, length, drop}
use Rattle.base_shared.specs.Choice.{pick}
use Rattle.ivf_walk.specs.declared.Stage.TheVariants.{Over}
use Rattle.text_line.specs.Line.{text_of}
use Rattle.listing_lister.specs.declared.Lister.{Lister}
use Rattle.listing_lister.specs.declared.Wants.{Wants}
use Rattle.listing_lister.specs.declared.Wants.TheVariants.{Room, Input, Again, Whole, Refused, Nothing}
use Rattle.listing_lister.specs.Lister.{fresh_lister}
use Rattle.listing_lister.specs.Feed.{wants_of, lines_by, lister_by, turn_at}

-- what calls put out, the lister after them, what is left of what was at hand, and whether another call is wanted
pub record Calls : Type 0 where
  pub text : List ℕ
  pub lister : Lister
  pub kept : List ℕ
  pub again : Bool

abbrev pub is_again : Wants → Bool
is_again Again = true
is_again Room = false
is_again Input = false
is_again Whole = false
is_again Refused = false
is_again Nothing = false

-- one call, with room
unfoldable pub called : Lister → List ℕ → Bool → Calls
called l s ended =
    let t = turn_at l s ended in
    record { text = text_of (lines_by l s t.event); lister = lister_by l s t.stage t.event; kept = drop t.used s; again = is_again (wants_of t.event) }

abbrev pub behind : List ℕ → Calls → Calls
behind text c = record { text = text ++ c.text; lister = c.lister; kept = c.kept; again = c.again }

-- call after call as long as another is wanted, at most n
unfoldable pub calls : ℕ → Lister → List ℕ → Bool → Calls
calls zero l s ended = record { text = []; lister = l; kept = s; again = true }
calls (suc n) l s ended = let c = called l s ended in pick c.again (behind c.text (calls n c.lister c.kept ended)) c

-- all that are wanted: each but two uses a byte
abbrev pub fed : Lister → List ℕ → Bool → Calls
fed l s ended = calls (length s + 3) l s ended

-- after which all is said, or, where the file hasn't ended, more is wanted and little is kept
abbrev pub Little : Bool → Calls → Type 0
Little ended c = (c.lister.stage ≡ Over) ⊎ ((ended ≡ false) × (length c.kept < 65548))

-- each block is fed behind what was kept of those before it, and last the file's end
unfoldable pub arrives : Lister → List ℕ → List (List ℕ) → List ℕ
arrives l kept [] = (fed l kept true).text
arrives l kept (block ∷ others) = let c = fed l (kept ++ block) false in c.text ++ arrives c.lister c.kept others

abbrev pub put_out : List (List ℕ) → List ℕ
put_out blocks = arrives fresh_lister [] blocks

-- the file
unfoldable pub joined : List (List ℕ) → List ℕ
joined [] = []
joined (block ∷ others) = block ++ joined others
