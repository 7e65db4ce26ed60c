-- The records that the code makes are those of the values.
-- Assumes nothing.
use Prim.Native.Nat.{ℕ, ◌≤◌, ◌<◌}
use mathlib.Core.Path.{◌≡◌}
use mathlib.Core.List.{List}
use borrow.Author.Tests.{lt-ltb, le-ltb}
use Rattle.std.specs.Prelude.{Result, Ok}
use Rattle.base_bits.specs.declared.Cursor.{Cursor}
use Rattle.base_bits.specs.declared.Refusal.{Refusal}
use Rattle.base_syntax.specs.Reader.{read, over, group_if}
use Rattle.base_enums.specs.ColorSpace.{color_space_of}
use Rattle.base_enums.specs.declared.BitDepth.{BitDepth}
use Rattle.base_enums.specs.declared.ColorSpace.{ColorSpace}
use Rattle.part_sampling.specs.declared.Sampling.{Sampling}
use Rattle.part_color.specs.declared.Color.{Color}
use Rattle.part_color.proofs.Parts.{flat_color}
use Rattle.part_sampling.specs.Sampling.{sampling_of, SamplingValues}
use Rattle.part_color.specs.Color.{color_of}
use Rattle.grammar_settings.specs.Enums.{depth_of}
use Rattle.grammar_tables.specs.Reading.{read_color}
use Rattle.part_color.specs.Intra.{fixed_color, read_intra_color, intra_color_of}

pub color_read : (profile d n : ℕ) (c : Cursor) (v : SamplingValues) (depth : BitDepth) (space : ColorSpace) (a : Sampling) → depth ≡ depth_of profile d → space ≡ color_space_of n → a ≡ sampling_of profile n v
    → ◌≡◌ {A = Result (Color × Cursor) Refusal} (Ok (record { bit_depth = depth; color_space = space; color_range = a.color_range; subsampling_x = a.subsampling_x; subsampling_y = a.subsampling_y }, c))
    (over (color_of profile) (read (flat_color d n v) c.at))
unfolding color_of sampling_of
color_read profile d n c v depth space a ed es ea = rw (ed, es, ea)

module _ (s : List ℕ) (p n : ℕ) where
  -- an intra_only frame whose profile codes the colour, and one whose profile doesn't
  pub intra_coded : (r : Result (Color × Cursor) Refusal) → 0 < n → r ≡ over (color_of n) (read_color n s p) → r ≡ over (intra_color_of n) (read_intra_color n s p)
  unfolding intra_color_of read_intra_color group_if
  intra_coded r h e = simp (intra_color_of, lt-ltb 0 n h) e

  pub intra_fixed : n ≤ 0 → Ok (fixed_color, record { at = p }) ≡ over (intra_color_of n) (read_intra_color n s p)
  unfolding intra_color_of read_intra_color group_if
  intra_fixed h = simp (le-ltb 0 n h)
