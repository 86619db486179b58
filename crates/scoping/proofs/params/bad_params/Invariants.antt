-- Number 11 of the whole list: the functions in the order of their scope numbers.
use Prim.Native.Nat.{◌≤◌}
use Rattle.scoping.proofs.Cells.{Apart}
use Rattle.scoping.proofs.params.bad_params.Given as goal

abbrev pub invariant-loop-v : goal.invariant-loop-v
invariant-loop-v l = (1 ≤ l.v) × (l.v ≤ 256) × Apart l.ns l.marks l.v
