use mathlib.Core.Path.{◌≡◌, sym, ◌∙◌}
use native.Mathlib.Omega.{arith}
use lib.ListN.{length, get_or-eq_default}
use Rattle.base_shared.proofs.Each.{length_mapped}
use Rattle.base_types.specs.Header.{default_header}
use Rattle.listing_tracer.proofs.Steps.{element}
use borrow.Author.Rules.{rules}
use Rattle.listing_tracer.proofs.header_at.Goals as goal

pub returns-then-i-lt8 : goal.returns-then-i-lt8
returns-then-i-lt8 c =
    let a = c.args in
    let eight : length a.read.headers ≡ 8 = search (rules, length_mapped) in
    element a.read.headers a.i _ default_header (omega arith)

pub returns-else-i-lt8 : goal.returns-else-i-lt8
returns-else-i-lt8 c =
    let a = c.args in
    let eight : length a.read.headers ≡ 8 = search (rules, length_mapped) in
    c.default.ensures ∙ sym (get_or-eq_default a.read.headers default_header (omega arith))
