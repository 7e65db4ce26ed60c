use mathlib.Core.Path.{sym, ◌∙◌}
use Rattle.chunk_index.proofs.Cases.{split_empty, split_whole}
use Rattle.chunk_index.proofs.split_chunk.Goals as goal

pub returns-then-s-eq0 : goal.returns-then-s-eq0
returns-then-s-eq0 c = c.refusal.ensures ∙ sym (split_empty _ c.if-s-eq0.true)

pub returns-else-last-eq6 : goal.returns-else-last-eq6
returns-else-last-eq6 c =
    let plain = c.if-last-eq6.false in
    c.one_frame.ensures ∙ split_whole _ c.if-s-eq0.false (λ k. plain k.0) (λ k. plain k.0)
