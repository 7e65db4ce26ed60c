use mir.Syntax.{w16}
use Rattle.segment_clamp.proofs.Casts.{given}
use Rattle.segment_features.specs.Features.{features_of}
use Rattle.segment_features.proofs.features_of.Goals as goal

pub returns : goal.returns
unfolding features_of
returns c =
    rw (
      c.is_feature_active.ensures,
      given w16 c.feature_data.type_inv c.feature_data.ensures,
      c.is_feature_active-2.ensures,
      given w16 c.feature_data-2.type_inv c.feature_data-2.ensures,
      c.is_feature_enabled.ensures,
      given w16 c.feature_data-3.type_inv c.feature_data-3.ensures,
      c.is_feature_enabled-2.ensures,
    )
