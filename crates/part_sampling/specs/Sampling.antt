-- The second half of color_config() (VP9 6.2.2): range, subsampling and the reserved bit that ends either of its
-- branches.
-- Assumes nothing.
use Rattle.std.specs.Prelude.{ℕ, Bool, not, ◌&&◌}
use Rattle.base_syntax.specs.Reader.{◌>>=◌, field_if, Reader, give}
use Rattle.part_sampling.specs.declared.Sampling.{Sampling}
use Rattle.grammar_tables.specs.Tables.{sampled, srgb}
use Rattle.grammar_settings.specs.Enums.{range_of, subsampling}
use Rattle.base_bits.specs.Refusal.{the}

pub record SamplingValues : Type 0 where
  pub color_range : ℕ
  pub subsampling_x : ℕ
  pub subsampling_y : ℕ
  pub reserved_zero : ℕ

-- profiles 1 and 3 code subsampling, unless the colour space is RGB
abbrev pub chroma : ℕ → ℕ → Bool
chroma profile space = not (srgb space) && sampled profile

unfoldable pub read_sampling : ℕ → ℕ → Reader SamplingValues
read_sampling profile space = do
  r ← field_if (not (srgb space)) (the "color_range") 1
  x ← field_if (chroma profile space) (the "subsampling_x") 1
  y ← field_if (chroma profile space) (the "subsampling_y") 1
  z ← field_if (sampled profile) (the "reserved_zero") 1
  give (record { color_range = r; subsampling_x = x; subsampling_y = y; reserved_zero = z })

-- the code's answer
unfoldable pub sampling_of : ℕ → ℕ → SamplingValues → Sampling
sampling_of profile space v =
    record {
      color_range = range_of space v.color_range;
      subsampling_x = subsampling profile space v.subsampling_x;
      subsampling_y = subsampling profile space v.subsampling_y;
    }
