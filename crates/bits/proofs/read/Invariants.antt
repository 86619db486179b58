-- `read` has read a field of k bits when it has gone through k of them.
use Prim.Native.Nat.{◌-◌, ◌≤◌}
use mathlib.Core.Path.{◌≡◌}
use Rattle.bits.specs.Field.{field_of}
use Rattle.bits.proofs.read.Given as goal

abbrev pub invariant-loop-k : goal.invariant-loop-k
invariant-loop-k l = (l.k ≤ l.width) × (l.acc ≡ field_of l.s l.at l.k)

abbrev pub decreases-loop-k : goal.decreases-loop-k
decreases-loop-k l = l.width - l.k
