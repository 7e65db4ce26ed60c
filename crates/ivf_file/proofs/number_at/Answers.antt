use mathlib.Core.Path.{◌≡◌}
use native.Mathlib.Omega.{arith}
use Rattle.base_little.specs.Little.{little}
use Rattle.base_little.proofs.Bytes.{little_read}
use Rattle.base_little.proofs.Spelling.{little_lt}
use Rattle.ivf_file.proofs.number_at.Goals as goal

pub unwrap-requires : goal.unwrap-requires
unwrap-requires c = rw (little_read _ _ _ _ c.read_little.ensures c.requires.0 c.requires.1)

pub returns : goal.returns
returns c =
    let e = little_read _ _ _ _ c.read_little.ensures c.requires.0 c.requires.1 in
    let k : c.unwrap.result ≡ little c.args.s.now c.args.at c.args.n = cc in
    (k, rw k (little_lt _ (λ i. omega (arith, c.type_inv.s i)) _ _))
