-- The loop that fills the two rows of features.
-- Assumes nothing.
use Prim.Native.Nat.{ℕ, ◌+◌, ◌/◌, ◌%◌, ◌≤◌, ◌<◌}
use mathlib.Core.Path.{◌≡◌, refl, ◌∙◌}
use mathlib.Core.Bool.{Bool, false}
use mathlib.Core.List.{List}
use lib.IntN.{ℤ, pos}
use lib.ListN.{set, replicate}
use mir.Val.{SFits, to_z, of_z}
use mir.Facts.{to_z-of_z}
use mir.Syntax.{w16}
use Rattle.std.specs.Prelude.{Result, Ok, Err}
use Rattle.std.specs.Result.{IsErrAnd}
use Rattle.std.proofs.lemmas.Result.{err_from_is_err_and}
use Rattle.base_bits.specs.declared.Cursor.{Cursor}
use Rattle.base_bits.specs.declared.Refusal.{Refusal}
use Rattle.base_syntax.specs.Reader.{over, Reader}
use Rattle.base_syntax.specs.Many.{each_of}
use Rattle.part_feature.specs.declared.Feature.{Feature}
use Rattle.part_feature.specs.Feature.{feature_of, FeatureIs}
use Rattle.grammar_tables.specs.Tables.{FeatureValues}
use Rattle.grammar_tables.specs.Reading.{read_feature, read_features}
use Rattle.grammar_settings.specs.Settings.{enabled_of, data_value, feature_row}
use Rattle.part_segment_data.specs.declared.Features.{Features}
use Rattle.part_segment_data.specs.Features.{feature_rows}
use Rattle.base_syntax.proofs.Rows.{seen, unseen, both, Filled, fill_start, fill_turn, fill_stop, row_end}
use Rattle.part_segment_data.proofs.Flat.{row_flat}

-- the feature at place k of a row
abbrev placed : ℕ → Reader FeatureValues
placed k = read_feature (k / 4) (k % 4)

-- k features stand in the rows e and l
pub record FeaturesFilling (s : List ℕ) (p₀ k p : ℕ) (e : List Bool) (l : List ℤ) : Type 0 where
  pub enabled : Filled (λ k. enabled_of) 32 placed s p₀ k p e
  pub values : Filled (λ k. data_value) 32 placed s p₀ k p l

pub features_start : (s : List ℕ) (p : ℕ) → FeaturesFilling s p 0 p (replicate 32 false) (replicate 32 (pos 0))
features_start s p = record {
  enabled = fill_start (λ k. enabled_of) 32 placed s p (replicate 32 false) refl;
  values = fill_start (λ k. data_value) 32 placed s p (replicate 32 (pos 0)) refl;
}

module _ {s : List ℕ} {p₀ k p : ℕ} {e : List Bool} {l : List ℤ} (h : FeaturesFilling s p₀ k p e l) where
  pub features_end : 32 ≤ k → Ok (record { enabled = e; values = l }, record { at = p }) ≡ over feature_rows (read_features s p₀)
  unfolding feature_rows read_features
  features_end all =
      both (feature_row enabled_of 8) (feature_row data_value 8) (λ a b. record { enabled = a; values = b }) (read_features s p₀)
      (row_end h.enabled all ∙ row_flat enabled_of read_feature s p₀)
      (row_end h.values all ∙ row_flat data_value read_feature s p₀)

  module _ (more : k < 32) (r : Result (Feature × Cursor) Refusal) (is : FeatureIs s p (k % 4) r) where
    pub features_stop : {x : Refusal} (y : Result (Features × Cursor) Refusal) → r ≡ Err x → IsErrAnd y (λ w. w ≡ x) → y ≡ over feature_rows (read_features s p₀)
    unfolding read_features
    features_stop {x} y t o =
        let told = err_from_is_err_and y o in
        rw (told.1, told.2)
        (unseen feature_rows (feature_row enabled_of 8) (read_features s p₀)
        (fill_stop h.enabled (each_of enabled_of 32) (Err x) more (unseen enabled_of feature_of (placed k s p) (rw t at (is (k / 4)))) refl ∙ row_flat enabled_of read_feature s p₀))

    pub features_turn : (f : Feature) (c : Cursor) → r ≡ Ok (f, c) → SFits w16 f.value → FeaturesFilling s p₀ (k + 1) c.at (set e k f.enabled) (set l k (to_z w16 (of_z w16 f.value)))
    unfolding feature_of
    features_turn f c t fits =
        let here : Ok (f, c) ≡ over feature_of (placed k s p) = rw t at (is (k / 4)) in
        record {
          enabled = fill_turn h.enabled more (seen (λ b. b.enabled) feature_of (placed k s p) here);
          values = rw (to_z-of_z fits) (fill_turn h.values more (seen (λ b. b.value) feature_of (placed k s p) here));
        }
