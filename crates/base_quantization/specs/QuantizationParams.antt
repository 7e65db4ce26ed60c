-- QuantizationParams: the default, all 0.
use Rattle.std.specs.Prelude.{pos}
use Rattle.base_quantization.specs.declared.QuantizationParams.{QuantizationParams}

abbrev pub default_quantization : QuantizationParams
default_quantization =
    record { base_q_idx = 0; delta_q_y_dc = pos 0; delta_q_uv_dc = pos 0; delta_q_uv_ac = pos 0 }
