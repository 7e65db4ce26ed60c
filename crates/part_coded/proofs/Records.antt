-- The records that the code makes are those of the values.
-- Assumes nothing.
use Prim.Native.Nat.{ℕ, ◌≤◌, ◌<◌}
use mathlib.Core.Path.{◌≡◌, refl, sym, ◌∙◌}
use mathlib.Core.Bool.{Bool}
use mathlib.Core.List.{List}
use native.Mathlib.Omega.{arith}
use lib.Dec.{T, leb, eqb, le→leb}
use lib.IntN.{ℤ}
use lib.Pow.{pow_mono}
use mir.Val.{Fits, to_z, of_z}
use mir.Facts.{to_z-of_z}
use mir.Syntax.{w8}
use borrow.Author.Tests.{eq-eqb, ne_eqb, le-leb, lt-leb}
use Rattle.std.specs.Prelude.{Result, Ok, Err}
use Rattle.std.specs.Result.{result_from_control_flow}
use Rattle.std.proofs.Common.{Continue}
use Rattle.base_bits.specs.declared.BitsError.{BitsError}
use Rattle.base_bits.specs.declared.BitsError.TheVariants.{Short, TooWide}
use Rattle.base_bits.specs.declared.Cursor.{Cursor}
use Rattle.base_bits.specs.declared.Refusal.{Refusal}
use Rattle.base_bits.specs.Read.{read_bits_if}
use Rattle.base_syntax.specs.Reader.{Read, read, stopped, tell, over}
use Rattle.part_field.specs.PastEnd.{past_end}
use Rattle.part_field.proofs.Steps.{value_if_lt}
use Rattle.grammar_settings.specs.Settings.{signed, prob_of}
use Rattle.part_coded.specs.declared.Delta.{Delta}
use Rattle.part_coded.specs.Delta.{delta_of, CodedIs, NarrowIs, DeltaIs}
use Rattle.grammar_tables.specs.Tables.{DeltaValues}
use Rattle.grammar_tables.specs.Reading.{read_delta}
use Rattle.part_coded.proofs.Signed.{signed_fits}

-- a width of at most 7 is one that a bit read takes
pub narrow : (n : ℕ) → n ≤ 7 → T (leb n 31)
narrow n h = le→leb n 31 (omega arith)

module _ (b : Bool) (s : List ℕ) (q n : ℕ) (r : Result (ℕ × Cursor) Refusal) {b' : _} (m : ℕ) (d : Cursor) (e : r ≡ past_end (read_bits_if b s q n)) (t : r ≡ result_from_control_flow b') (h : b' ≡ Continue (m, d)) where
  pub magnitude_small : n ≤ 7 → m < 128
  magnitude_small l = omega (arith, value_if_lt b s q n r e (narrow n l) m d t h, pow_mono l)

  pub delta_read : n ≤ 7 → (u g : ℕ) (c : Cursor) (x : ℤ) → x ≡ signed m (eqb g 1)
      → ◌≡◌ {A = Result (Delta × Cursor) Refusal} (Ok (record { coded = eqb u 1; value = to_z w8 (of_z w8 x) }, c)) (over delta_of (read (record { coded = u; magnitude = m; sign = g }) c.at))
  unfolding delta_of
  delta_read l u g c x ex = rw (ex, to_z-of_z (signed_fits w8 m (magnitude_small l) (eqb g 1)))

pub prob_fits : (b : Bool) (s : List ℕ) (q : ℕ) (r : Result (ℕ × Cursor) Refusal) → r ≡ past_end (read_bits_if b s q 8) → {b' : _} (m : ℕ) (d : Cursor) → r ≡ result_from_control_flow b' → b' ≡ Continue (m, d) → Fits w8 m
prob_fits b s q r e m d t h = record { fits = value_if_lt b s q 8 r e tt m d t h }

pub prob_read : (u m : ℕ) (c : Cursor) → u ≡ 1 → ◌≡◌ {A = Result (ℕ × Cursor) Refusal} (Ok (m, c)) (over prob_of (read (record { coded = u; prob = m }) c.at))
unfolding prob_of
prob_read u m c e = rw (eq-eqb u 1 e)

pub prob_none : (u m : ℕ) (c : Cursor) → (u ≡ 1 → ⊥) → ◌≡◌ {A = Result (ℕ × Cursor) Refusal} (Ok (255, c)) (over prob_of (read (record { coded = u; prob = m }) c.at))
unfolding prob_of
prob_none u m c e = rw (ne_eqb u 1 e)

-- the answer for any width
pub too_wide : (s : List ℕ) (p n : ℕ) → 7 < n → DeltaIs s p n (Err TooWide)
too_wide s p n h = rw (lt-leb n 7 h) refl

wide_enough : (s : List ℕ) (p n : ℕ) (r : Result (Delta × Cursor) BitsError) → n ≤ 7 → NarrowIs s p n r → DeltaIs s p n r
wide_enough s p n r h e = rw (le-leb n 7 h) e

module _ (s : List ℕ) (p n : ℕ) (r : Result (Delta × Cursor) Refusal) (l : n ≤ 7) (e : CodedIs s p n r) where
  pub delta_told : {v : Delta × Cursor} → r ≡ Ok v → DeltaIs s p n (Ok v)
  delta_told {v} w = wide_enough s p n (Ok v) l (λ x y z. go (read_delta x y z n s p) (sym w ∙ e x y z))
    where
      go : (m : Read DeltaValues) → Ok v ≡ over delta_of m → Ok v ≡ tell (λ w. Short) delta_of m
      go (read a q) h = let va : v ≡ (delta_of a, record { at = q }) = cc in rw va refl
      go (stopped f) h = let z : ◌≡◌ {A = ℕ} 0 1 = cc in absurd (omega arith)

  pub delta_short : {u : Refusal} → r ≡ Err u → DeltaIs s p n (Err Short)
  delta_short {u} w = wide_enough s p n (Err Short) l (λ x y z. go (read_delta x y z n s p) (sym w ∙ e x y z))
    where
      go : (m : Read DeltaValues) → Err u ≡ over delta_of m → Err Short ≡ tell (λ w. Short) delta_of m
      go (read a q) h = let z : ◌≡◌ {A = ℕ} 0 1 = cc in absurd (omega arith)
      go (stopped f) h = refl
