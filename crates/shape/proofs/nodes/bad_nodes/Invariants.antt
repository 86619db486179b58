-- Number 7 of the whole list: no node passed has a fault of its own.
use lib.ListN.{length}
use Rattle.shape.specs.Nodes.{at}
use Rattle.shape.specs.Inside.Node.{BadNode}
use Rattle.shape.proofs.Pass.{Passed}
use Rattle.shape.proofs.nodes.bad_nodes.Given as goal

abbrev pub invariant-loop-t : goal.invariant-loop-t
invariant-loop-t l = Passed l.ns (λ k. BadNode l.names (at l.ns k) → ⊥) l.t

abbrev pub decreases-loop-t : goal.decreases-loop-t
decreases-loop-t l = length l.t
