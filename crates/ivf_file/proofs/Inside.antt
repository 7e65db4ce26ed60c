-- Where a record's parts lie.
-- Assumes nothing.
use Prim.Native.Nat.{ℕ, ◌<◌, ◌≤◌}
use mathlib.Core.Path.{◌≡◌, refl}
use mathlib.Core.Logic.{inr}
use mathlib.Core.List.{List}
use native.Mathlib.Omega.{arith}
use lib.ListN.{length}
use Rattle.ivf_file.specs.declared.Record.{Record}
use Rattle.std.specs.Prelude.{Some, Ok}
use Rattle.ivf_file.specs.Record.{data_end, record_at, record_of}
use Rattle.ivf_file.specs.Table.{Lies}
use Rattle.ivf_file.proofs.Table.{record_exactly}

module _ (f : List ℕ) (p : ℕ) (r : Record) (e : record_of f p ≡ Ok (Some r)) where
  pub whole : (data_end f p ≤ length f) × (r ≡ record_at f p)
  whole =
      let k = (record_exactly f p (Ok (Some r))).0 e in
      let n : length f < data_end f p → ⊥ = λ l. k.0 (inr l) in
      (omega arith, k.1)

  pub lies : Lies f p r
  unfolding record_at
  lies = rw whole.1 (record { header_first = refl; then_data = refl; inside = whole.0 })
