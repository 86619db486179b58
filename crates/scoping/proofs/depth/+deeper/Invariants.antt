-- Number 9: the levels left fall with each call, and what is left of the part with each turn.
use Rattle.std.proofs.Common.{length}
use Rattle.scoping.proofs.Deep.{Deep}
use Rattle.scoping.proofs.depth.+deeper.Given as goal

abbrev pub decreases-deeper : goal.decreases-deeper
decreases-deeper l = l.left

abbrev pub invariant-loop-u : goal.invariant-loop-u
invariant-loop-u l = Deep l.t l.left l.u

abbrev pub decreases-loop-u : goal.decreases-loop-u
decreases-loop-u l = length l.u
