-- A form put byte after byte.
-- Assumes nothing.
use Prim.Native.Nat.{ℕ, ◌+◌, ◌≤◌, ◌<◌}
use mathlib.Core.Path.{◌≡◌}
use mathlib.Core.Bool.{Bool, true, false}
use mathlib.Core.List.{List, []}
use native.Mathlib.Numerals.{add-one}
use native.Mathlib.Omega.{arith}
use lib.ListN.{length, get_or, drop, drop_of_length-le}
use lib.Seq.{drop-cons}
use Rattle.base_shared.specs.Choice.{pick}
use Rattle.base_bytes.specs.Put.{Written}
use Rattle.base_bytes.proofs.Rest.{Left, left_all, left_more}
use Rattle.text_form.specs.declared.Mode.{Mode}
use Rattle.text_form.specs.declared.Mode.TheVariants.{Text}
use Rattle.text_form.specs.Form.{piece, mode_after, takes_value, value_after, formed_from, formed}

pub form_all : {out : List ℕ} {at : ℕ} (form values : List ℕ) → Left out at (formed form values) out at (formed_from values Text 0 (drop 0 form))
unfolding formed
form_all form values = left_all

-- byte i is next, in mode m, with value v
module _ (form values : List ℕ) (m : Mode) (v i : ℕ) where
  pub form_more : {out₀ whole out out₁ : List ℕ} {at next next₁ n v₁ : ℕ} {m₁ : Mode} → Left out₀ at whole out next (formed_from values m v (drop i form)) → i < length form → n ≡ get_or values v 0
      → let c = get_or form i 0 in Written out next (piece m c n) next₁ out₁ → v₁ ≡ value_after v m c → m₁ ≡ mode_after m c n → Left out₀ at whole out₁ next₁ (formed_from values m₁ v₁ (drop (i + 1) form))
  unfolding formed_from
  form_more l h e one w k = rw (w, k, e) (left_more l (rw (drop-cons form i 0 h, add-one i)) (rw e at one))

  pub form_none : length form ≤ i → formed_from values m v (drop i form) ≡ []
  unfolding formed_from
  form_none h = rw (drop_of_length-le form {i = i} h)

-- no more values are used than bytes
pub few_more : (v i : ℕ) (m : Mode) (c : ℕ) {v₁ : ℕ} → v₁ ≡ value_after v m c → v ≤ i → v₁ ≤ i + 1
few_more v i m c e h = rw e (go (takes_value m c))
  where
    go : (b : Bool) → pick b (v + 1) v ≤ i + 1
    go true = omega arith
    go false = omega arith
