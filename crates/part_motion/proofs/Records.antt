-- The records that the code makes are those of the values.
-- Assumes nothing.
use Prim.Native.Nat.{ℕ}
use mathlib.Core.Path.{◌≡◌}
use lib.Dec.{eqb}
use borrow.Author.Tests.{eq-eqb, ne_eqb}
use Rattle.std.specs.Prelude.{Result, Ok}
use Rattle.base_bits.specs.declared.Cursor.{Cursor}
use Rattle.base_bits.specs.declared.Refusal.{Refusal}
use Rattle.base_syntax.specs.Reader.{over, read}
use Rattle.base_enums.specs.InterpolationFilter.{filter_of_literal}
use Rattle.base_enums.specs.declared.InterpolationFilter.{InterpolationFilter}
use Rattle.base_enums.specs.declared.InterpolationFilter.TheVariants.{Switchable}
use Rattle.part_motion.specs.Filter.{filter_of, FilterValues}
use Rattle.part_motion.specs.declared.Motion.{Motion}
use Rattle.part_motion.specs.Motion.{motion_of}

-- the interpolation filter
module _ (u m : ℕ) (c : Cursor) where
  pub switchable : u ≡ 1
      → ◌≡◌ {A = Result (InterpolationFilter × Cursor) Refusal} (Ok (Switchable, c)) (over filter_of (read (record { is_filter_switchable = u; raw_interpolation_filter = m }) c.at))
  unfolding filter_of
  switchable e = rw (eq-eqb u 1 e)

  pub literal : (x : InterpolationFilter) → (u ≡ 1 → ⊥) → x ≡ filter_of_literal m
      → ◌≡◌ {A = Result (InterpolationFilter × Cursor) Refusal} (Ok (x, c)) (over filter_of (read (record { is_filter_switchable = u; raw_interpolation_filter = m }) c.at))
  unfolding filter_of
  literal x e h = rw (ne_eqb u 1 e, h)

pub motion_read : (h : ℕ) (c : Cursor) (f : InterpolationFilter) (a : FilterValues) → f ≡ filter_of a
    → ◌≡◌ {A = Result (Motion × Cursor) Refusal} (Ok (record { allow_high_precision_mv = eqb h 1; interpolation_filter = f }, c)) (over motion_of (read (record { allow_high_precision_mv = h; filter = a }) c.at))
unfolding motion_of
motion_read h c f a e = rw e
