-- loop_filter_params() is read as its parts are that the code reads: level, sharpness, and the deltas where they are
-- enabled.
-- Assumes nothing.
use Prim.Native.Nat.{ℕ}
use mathlib.Core.Path.{◌≡◌}
use mathlib.Core.List.{List}
use Rattle.base_bits.specs.Refusal.{the}
use Rattle.base_syntax.specs.Syntax.{flag}
use Rattle.base_syntax.specs.Reader.{Read, read, bind, field, field_if, group_if}
use Rattle.base_syntax.proofs.Binds.{bind_assoc, bind_same, split}
use Rattle.grammar_tables.specs.Tables.{LoopFilterValues}
use Rattle.grammar_tables.specs.Reading.{read_loop_filter}
use Rattle.part_loop_deltas.specs.LoopDeltas.{LoopDeltasValues, no_loop_deltas, read_loop_deltas}

abbrev pub flat_filter : ℕ → ℕ → ℕ → LoopDeltasValues → LoopFilterValues
flat_filter l h e d =
    record { level = l; sharpness = h; delta_enabled = e; delta_update = d.delta_update; ref_deltas = d.ref_deltas; mode_deltas = d.mode_deltas }

abbrev in_parts : List ℕ → ℕ → Read LoopFilterValues
in_parts s p =
    bind (field (the "loop_filter_level") 6 s p) λ l p.
    bind (field (the "loop_filter_sharpness") 3 s p) λ h p.
    bind (field (the "loop_filter_delta_enabled") 1 s p) λ e p.
    bind (group_if (flag e) no_loop_deltas read_loop_deltas s p) λ d p.
    read (flat_filter l h e d) p

pub in_parts_lem : (s : List ℕ) (p : ℕ) → read_loop_filter s p ≡ in_parts s p
unfolding read_loop_filter read_loop_deltas group_if field_if
in_parts_lem s p =
    bind_same (field (the "loop_filter_level") 6 s p) _ _ λ l p.
    bind_same (field (the "loop_filter_sharpness") 3 s p) _ _ λ h p.
    bind_same (field (the "loop_filter_delta_enabled") 1 s p) _ _ λ e p.
    split (flag e) (λ on. rw on (simp bind_assoc)) (λ off. rw off)
