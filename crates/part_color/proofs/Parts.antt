-- color_config() is read as its parts are that the code reads: depth, colour space, and what comes after it.
-- Assumes nothing.
use Prim.Native.Nat.{ℕ}
use mathlib.Core.Path.{◌≡◌}
use mathlib.Core.List.{List}
use Rattle.base_bits.specs.Refusal.{the}
use Rattle.base_syntax.specs.Reader.{Read, read, bind, field, field_if}
use Rattle.base_syntax.proofs.Binds.{bind_assoc}
use Rattle.grammar_tables.specs.Tables.{ColorValues, deep}
use Rattle.grammar_tables.specs.Reading.{read_color}
use Rattle.part_sampling.specs.Sampling.{SamplingValues, read_sampling}

abbrev pub flat_color : ℕ → ℕ → SamplingValues → ColorValues
flat_color d c v =
    record {
      ten_or_twelve_bit = d;
      color_space = c;
      color_range = v.color_range;
      subsampling_x = v.subsampling_x;
      subsampling_y = v.subsampling_y;
      reserved_zero = v.reserved_zero;
    }

abbrev in_parts : ℕ → List ℕ → ℕ → Read ColorValues
in_parts profile s p =
    bind (field_if (deep profile) (the "ten_or_twelve_bit") 1 s p) λ d p.
    bind (field (the "color_space") 3 s p) λ c p.
    bind (read_sampling profile c s p) λ v p.
    read (flat_color d c v) p

pub in_parts_lem : (profile : ℕ) (s : List ℕ) (p : ℕ) → read_color profile s p ≡ in_parts profile s p
unfolding read_color read_sampling
in_parts_lem profile s p = simp bind_assoc
