-- Number 10 of the whole list: the nodes passed.
use Rattle.std.proofs.Common.{length, map}
use Rattle.scoping.specs.Inside.Found.{cell_of}
use Rattle.scoping.proofs.Noting.{Noting}
use Rattle.scoping.proofs.scopes.bad_scopes.Given as goal

abbrev pub invariant-loop-t : goal.invariant-loop-t
invariant-loop-t l = Noting l.ns (map cell_of l.found) l.node l.count l.top l.t

abbrev pub decreases-loop-t : goal.decreases-loop-t
decreases-loop-t l = length l.t
