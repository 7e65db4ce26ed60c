-- Equal tables, indices and deltas give equal scales.
use mathlib.Core.Path.{◌≡◌}
use mathlib.Core.List.{List}
use Prim.Native.Nat.{ℕ}
use lib.IntN.{ℤ, pos, ◌+ℤ◌}
use Rattle.segment_quant.specs.Quant.{scale_at}

pub same_scale : {t t' : List ℤ} {b b' : ℕ} {d d' : ℤ} → t ≡ t' → b ≡ b' → d ≡ d'
    → scale_at t (pos b +ℤ d) ≡ scale_at t' (pos b' +ℤ d')
same_scale e f g = cc
