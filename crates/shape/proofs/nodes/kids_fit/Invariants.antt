-- A part falls into nodes if what is left of it after each of them does.
use lib.ListN.{length}
use Rattle.nodefile.specs.Kids.{Fits}
use Rattle.shape.proofs.nodes.kids_fit.Given as goal

abbrev pub invariant-loop-t : goal.invariant-loop-t
invariant-loop-t l = (Fits l.t → Fits l.kids) × (Fits l.kids → Fits l.t)

abbrev pub decreases-loop-t : goal.decreases-loop-t
decreases-loop-t l = length l.t
