use mathlib.Core.Path.{◌≡◌}
use Rattle.part_field.proofs.Steps.{reading}
use Rattle.part_traits.specs.Context.{read_context, parallel_of, context_of}
use Rattle.part_traits.proofs.Records.{idx_fits}
use Rattle.part_traits.proofs.parse_context.Goals.{then-error_resilient_mode, else-error_resilient_mode}
use Rattle.part_traits.proofs.parse_context.Goals as goal

pub returns-in_err-refresh : goal.returns-in_err-refresh
unfolding read_context
returns-in_err-refresh c = search reading

pub returns-in_err-parallel : goal.returns-in_err-parallel
unfolding read_context
returns-in_err-parallel c = search reading

pub returns-in_err-idx : goal.returns-in_err-idx
unfolding read_context
returns-in_err-idx c = search reading

pub overflow_cast-context : goal.overflow_cast-context
overflow_cast-context c = search idx_fits

pub returns : goal.returns
unfolding read_context context_of
returns c =
    let parallel : c.if-error_resilient_mode.context ≡ parallel_of c.args.error_resilient_mode c.in_ok-parallel.parallel =
    elim c.if-error_resilient_mode.branch [ then-error_resilient_mode w ↦ rw (w.context-is, w.if-error_resilient_mode.true) | else-error_resilient_mode w ↦ rw (w.context-is, w.if-error_resilient_mode.false) ] in
    rw parallel (search reading)
