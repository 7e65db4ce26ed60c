-- LoopFilterParams: the default, all 0 and false, and the reset of the deltas.
use Rattle.std.specs.Prelude.{[], ◌∷◌, false, pos, negsuc, replicate}
use Rattle.base_loop_filter.specs.declared.LoopFilterParams.{LoopFilterParams}

abbrev pub default_filter : LoopFilterParams
default_filter =
    record {
      level = 0;
      sharpness = 0;
      delta_enabled = false;
      delta_update = false;
      update_ref_delta = replicate 4 false;
      ref_deltas = replicate 4 (pos 0);
      update_mode_delta = replicate 2 false;
      mode_deltas = replicate 2 (pos 0);
    }

-- the code's answer of `reset`: reference deltas 1, 0, -1, -1 and mode deltas 0; the rest is kept
abbrev pub reset_filter : LoopFilterParams → LoopFilterParams
reset_filter p = record p { ref_deltas = pos 1 ∷ pos 0 ∷ negsuc 0 ∷ negsuc 0 ∷ []; mode_deltas = replicate 2 (pos 0) }
