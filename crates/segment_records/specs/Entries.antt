-- The scales of a segment and its reference and skip entries.
use Rattle.std.specs.Prelude.{ℕ}
use Rattle.base_enums.specs.declared.BitDepth.{BitDepth}
use Rattle.base_quantization.specs.declared.QuantizationParams.{QuantizationParams}
use Rattle.segment_tables.specs.Tables.{dc_table, ac_table}
use Rattle.segment_quant.specs.declared.Scales.{Scales}
use Rattle.segment_quant.specs.Quant.{qindex_of, scales_at}
use Rattle.segment_records.specs.declared.entries.Entries.{Entries}
use Rattle.segment_features.specs.declared.Features.{Features}

-- get_qindex() of the segment with the features f
unfoldable pub index : QuantizationParams → Features → ℕ
index q f = qindex_of q.base_q_idx f.quantizer_active f.absolute f.quantizer

unfoldable pub entries_with : Scales → Features → Entries
entries_with scales f =
    record {
      scales = scales;
      reference_frame_enabled = f.reference_enabled;
      reference_frame = f.reference;
      reference_skip_enabled = f.skip_enabled;
    }

unfoldable pub entries_of : BitDepth → QuantizationParams → Features → Entries
entries_of depth q f = entries_with (scales_at (dc_table depth) (ac_table depth) q (index q f)) f
