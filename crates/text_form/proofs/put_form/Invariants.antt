use Prim.Native.Nat.{◌≤◌}
use lib.ListN.{drop}
use Rattle.base_bytes.proofs.Rest.{Left}
use Rattle.text_form.specs.Form.{formed_from, formed}
use Rattle.text_form.proofs.put_form.Given as goal

abbrev pub invariant-loop-c : goal.invariant-loop-c
invariant-loop-c l = (l.value ≤ l.c-index) × Left l.initial.out l.at (formed l.form l.values) l.out l.next (formed_from l.values l.mode l.value (drop l.c-index l.form))
