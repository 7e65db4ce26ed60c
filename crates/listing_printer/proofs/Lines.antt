-- The text of single items.
-- Assumes nothing.
use Prim.Native.Nat.{ℕ}
use mathlib.Core.List.{List, [], ◌++◌, append-nil}
use Rattle.base_bytes.specs.Put.{Written}

module _ {out after : List ℕ} {at next : ℕ} {t : List ℕ} where
  -- an item by itself
  pub alone : Written out at t next after → Written out at (t ++ []) next after
  alone w = rw (append-nil t) w

  -- one that is a line
  pub bare : Written out at t next after → Written out at ((t ++ []) ++ []) next after
  bare w = rw (append-nil t, append-nil t) w
