-- The Params of one function.
use lib.ListN.{length}
use Rattle.scoping.proofs.Naming.{Naming}
use Rattle.scoping.proofs.params.apart.Given as goal

abbrev pub invariant-loop-t : goal.invariant-loop-t
invariant-loop-t l = Naming l.kids l.marks l.stamp l.t

abbrev pub decreases-loop-t : goal.decreases-loop-t
decreases-loop-t l = length l.t
