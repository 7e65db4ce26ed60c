-- The text of a lifted number is that of the number.
-- Assumes nothing.
use Prim.Native.Nat.{suc, ◌+◌, ◌-◌}
use mathlib.Core.Path.{◌≡◌}
use native.Mathlib.Omega.{arith}
use lib.IntN.{ℤ, pos, negsuc}
use borrow.Author.Tests.{lt-ltb, le-ltb}
use mir.Syntax.{w16}
use mir.Val.{SFits}
use Rattle.text_signed.specs.Number.{lifted, signed_numeral, lowered_text}

pub lowered_back : (z : ℤ) → SFits w16 z → lowered_text (lifted z) ≡ signed_numeral z
unfolding lowered_text signed_numeral
lowered_back (pos n) f =
    let e : 65536 + n - 65536 ≡ n = omega arith in
    rw (le-ltb (65536 + n) 65536 (omega arith), e)
lowered_back (negsuc n) f =
    let e : 65536 - (65536 - suc n) ≡ suc n = omega (arith, f.sfits) in
    rw (lt-ltb (65536 - suc n) 65536 (omega arith), e)
