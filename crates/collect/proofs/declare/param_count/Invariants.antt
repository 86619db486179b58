-- `collect::declare::param_count` meets its contract: the nodes before those in `rest` have n parameter variables.
use Rattle.std.proofs.Common.{length}
use Rattle.collect.proofs.Counting.{Counted}
use Rattle.collect.proofs.declare.param_count.Given as goal

abbrev pub invariant-loop-rest : goal.invariant-loop-rest
invariant-loop-rest l = Counted l.part l.rest l.n

abbrev pub decreases-loop-rest : goal.decreases-loop-rest
decreases-loop-rest l = length l.rest
