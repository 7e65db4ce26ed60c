-- VP9's Clip3, from its mathematical functions.
use Rattle.std.specs.Prelude.{ℤ}
use Rattle.std.specs.Int.Signed.{lt_z}
use Rattle.base_shared.specs.Choice.{pick}

-- Clip3(x, y, z): x where z is below x, y where z is above y, else z
unfoldable pub clip3 : ℤ → ℤ → ℤ → ℤ
clip3 x y z = pick (lt_z z x) x (pick (lt_z y z) y z)
