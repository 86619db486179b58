-- `around::descent::descend` meets its contract: what is left to enter (`Going`).
-- Assumes nothing.
use Prim.Native.Nat.{suc, ◌-◌}
use Rattle.around.proofs.Going.{Going}
use Rattle.around.proofs.descent.descend.Given as goal

abbrev pub invariant-loop-p : goal.invariant-loop-p
invariant-loop-p l = Going l.ns l.x l.initial.out l.p l.e l.inner l.n l.out

abbrev pub decreases-loop-p : goal.decreases-loop-p
decreases-loop-p l = suc l.x - l.p
