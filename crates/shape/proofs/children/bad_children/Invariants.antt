-- Number 8 of the whole list: the children of each node passed are what the table allows.
use Prim.Native.Nat.{ℕ}
use mathlib.Core.Path.{◌≡◌}
use mathlib.Core.Bool.{true}
use mathlib.Core.List.{List}
use lib.ListN.{length}
use Rattle.nodefile.specs.Node.{kind_of, below}
use Rattle.nodefile.specs.Kids.{Kids}
use Rattle.shape.specs.Nodes.{at}
use Rattle.lexical.specs.Table.{allowed}
use Rattle.shape.proofs.Pass.{Passed}
use Rattle.shape.proofs.children.bad_children.Given as goal

abbrev pub invariant-loop-t : goal.invariant-loop-t
invariant-loop-t l = Passed l.ns (λ k. (ks : List ℕ) → Kids (below (at l.ns k)) ks → allowed (kind_of (at l.ns k)) ks ≡ true) l.t

abbrev pub decreases-loop-t : goal.decreases-loop-t
decreases-loop-t l = length l.t
