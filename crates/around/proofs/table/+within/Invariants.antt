-- The loop of `around::table::within`: what is left to note (`Walking`). The levels fall. Assumes nothing.
use Prim.Native.Nat.{◌-◌}
use Rattle.around.proofs.Walking.{Walking}
use Rattle.around.proofs.table.+within.Given as goal

abbrev pub decreases-within : goal.decreases-within
decreases-within l = l.levels

abbrev pub invariant-loop-p : goal.invariant-loop-p
invariant-loop-p l = Walking l.ns l.from l.to l.scope l.inner l.levels l.initial.out l.p l.out

abbrev pub decreases-loop-p : goal.decreases-loop-p
decreases-loop-p l = l.to - l.p
