-- The children against a row: the places and the children passed.
use Rattle.std.proofs.Common.{length}
use Rattle.shape.proofs.Filling.{Filling}
use Rattle.shape.proofs.children.matches.Given as goal

abbrev pub invariant-loop-item : goal.invariant-loop-item
invariant-loop-item l = Filling l.row l.kids l.item-index l.t

abbrev pub invariant-loop-kinds : goal.invariant-loop-kinds
invariant-loop-kinds l = Filling l.row l.kids l.item-index l.t

abbrev pub decreases-loop-kinds : goal.decreases-loop-kinds
decreases-loop-kinds l = length l.t
