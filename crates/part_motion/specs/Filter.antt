-- read_interpolation_filter() (VP9 6.2.7).
-- Assumes nothing.
use Rattle.std.specs.Prelude.{ℕ, not}
use Rattle.base_bits.specs.Refusal.{the}
use Rattle.base_syntax.specs.Syntax.{flag}
use Rattle.base_syntax.specs.Reader.{Reader, give, field, field_if, ◌>>=◌}
use Rattle.base_enums.specs.declared.InterpolationFilter.{InterpolationFilter}
use Rattle.grammar_settings.specs.Enums.{interpolation_of}

pub record FilterValues : Type 0 where
  pub is_filter_switchable : ℕ
  pub raw_interpolation_filter : ℕ

-- reading
abbrev pub no_filter : FilterValues
no_filter = record { is_filter_switchable = 0; raw_interpolation_filter = 0 }

unfoldable pub read_filter : Reader FilterValues
read_filter = do
  w ← field (the "is_filter_switchable") 1
  n ← field_if (not (flag w)) (the "raw_interpolation_filter") 2
  give (record { is_filter_switchable = w; raw_interpolation_filter = n })

-- the code's answer
unfoldable pub filter_of : FilterValues → InterpolationFilter
filter_of v = interpolation_of v.is_filter_switchable v.raw_interpolation_filter
