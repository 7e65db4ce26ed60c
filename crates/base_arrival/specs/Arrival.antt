-- A file that arrives in blocks, and what a machine puts out that is called on each as it comes.
-- Assumes nothing.
use Rattle.std.specs.Prelude.{ℕ, zero, suc, Bool, true, false, List, [], ◌∷◌, ◌++◌, length, drop}
use Rattle.base_shared.specs.Choice.{pick}

-- the file
unfoldable pub joined : List (List ℕ) → List ℕ
joined [] = []
joined (block ∷ others) = block ++ joined others

-- what a call puts out, the machine after it, how many of the bytes at hand it used, and whether it wants another call
pub record Call (S A : Type 0) : Type 0 where
  pub out : List A
  pub next : S
  pub used : ℕ
  pub again : Bool

-- the same of calls in a row, with what they left of the bytes at hand
pub record Calls (S A : Type 0) : Type 0 where
  pub out : List A
  pub next : S
  pub kept : List ℕ

abbrev pub behind : {S A : Type 0} → List A → Calls S A → Calls S A
behind out c = record { out = out ++ c.out; next = c.next; kept = c.kept }

-- a machine is called with the bytes at hand, and told whether the file ends with them
module _ {S A : Type 0} (call : S → List ℕ → Bool → Call S A) where
  -- call after call as long as another is wanted, at most n
  unfoldable pub calls : ℕ → S → List ℕ → Bool → Calls S A
  calls zero t s ended = record { out = []; next = t; kept = s }
  calls (suc n) t s ended =
      let c = call t s ended in
      let kept = drop c.used s in
      behind c.out (pick c.again (calls n c.next kept ended) (record { out = []; next = c.next; kept = kept }))

  -- each block comes behind what was kept of those before it, and last the file's end; with n bytes at hand there are at
  -- most `most n` calls
  unfoldable pub arrives : (ℕ → ℕ) → S → List ℕ → List (List ℕ) → List A
  arrives most t kept [] = (calls (most (length kept)) t kept true).out
  arrives most t kept (block ∷ others) =
      let c = calls (most (length (kept ++ block))) t (kept ++ block) false in
      c.out ++ arrives most c.next c.kept others
