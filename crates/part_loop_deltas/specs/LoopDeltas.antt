-- The deltas of loop_filter_params() (VP9 6.2.8): what its table has where loop_filter_delta_enabled is 1.
-- Assumes nothing.
use Prim.Native.String.{String}
use Rattle.std.specs.Prelude.{ℕ, Bool, true, false, List, ℤ, Result, ◌≡◌}
use Rattle.base_shared.specs.Choice.{pick}
use Rattle.base_bits.specs.declared.Cursor.{Cursor}
use Rattle.base_bits.specs.declared.Refusal.{Refusal}
use Rattle.base_bits.specs.Refusal.{the, item}
use Rattle.base_syntax.specs.Syntax.{flag}
use Rattle.base_syntax.specs.Reader.{◌>>=◌, field, group_if, Reader, give, over}
use Rattle.base_syntax.specs.Many.{Times, many, each_of}
use Rattle.part_coded.specs.declared.Delta.{Delta}
use Rattle.grammar_tables.specs.Tables.{DeltaValues}
use Rattle.grammar_tables.specs.Reading.{no_ref_deltas, no_mode_deltas, read_delta, read_ref_deltas, read_mode_deltas}
use Rattle.grammar_settings.specs.Settings.{moved_from}
use Rattle.base_loop_filter.specs.declared.LoopFilterParams.{LoopFilterParams}
use Rattle.part_loop_deltas.specs.declared.Deltas.{Deltas}

pub record LoopDeltasValues : Type 0 where
  pub delta_update : ℕ
  pub ref_deltas : Times 4 DeltaValues
  pub mode_deltas : Times 2 DeltaValues

abbrev pub no_loop_deltas : LoopDeltasValues
no_loop_deltas = record { delta_update = 0; ref_deltas = no_ref_deltas; mode_deltas = no_mode_deltas }

unfoldable pub read_loop_deltas : Reader LoopDeltasValues
read_loop_deltas = do
  u ← field (the "loop_filter_delta_update") 1
  r ← group_if (flag u) no_ref_deltas read_ref_deltas
  m ← group_if (flag u) no_mode_deltas read_mode_deltas
  give (record { delta_update = u; ref_deltas = r; mode_deltas = m })

-- the code's answer, from the remembered settings: a delta that isn't coded keeps its value
unfoldable pub delta_moved : Delta → ℤ → ℤ
delta_moved d old = pick d.coded d.value old

unfoldable pub deltas_of : (n : ℕ) → List ℤ → Times n DeltaValues → Deltas n
deltas_of n old v = record { coded = each_of (λ x. flag x.coded) n v; values = moved_from 0 n v old }

-- what is answered for n deltas, under whatever names their fields have
abbrev pub DeltasAre : List ℕ → ℕ → (n : ℕ) → List ℤ → Result (Deltas n × Cursor) Refusal → Type 0
DeltasAre s p n old r = (x y z : String) → r ≡ over (deltas_of n old) (many 0 n (λ i. read_delta (item x i) (item y i) (item z i) 6) s p)

-- the old settings with other flags, and with an update of the deltas
abbrev pub with_flags : LoopFilterParams → ℕ → ℕ → Bool → Bool → LoopFilterParams
with_flags old level sharpness enabled update =
    record {
      level = level;
      sharpness = sharpness;
      delta_enabled = enabled;
      delta_update = update;
      update_ref_delta = old.update_ref_delta;
      ref_deltas = old.ref_deltas;
      update_mode_delta = old.update_mode_delta;
      mode_deltas = old.mode_deltas;
    }

abbrev pub with_deltas : LoopFilterParams → Bool → Deltas 4 → Deltas 2 → LoopFilterParams
with_deltas old update refs modes =
    record {
      level = old.level;
      sharpness = old.sharpness;
      delta_enabled = old.delta_enabled;
      delta_update = update;
      update_ref_delta = refs.coded;
      ref_deltas = refs.values;
      update_mode_delta = modes.coded;
      mode_deltas = modes.values;
    }

unfoldable pub loop_deltas_of : LoopFilterParams → LoopDeltasValues → LoopFilterParams
loop_deltas_of old v =
    pick (flag v.delta_update)
    (with_deltas old true (deltas_of 4 old.ref_deltas v.ref_deltas) (deltas_of 2 old.mode_deltas v.mode_deltas))
    (with_flags old old.level old.sharpness old.delta_enabled false)
