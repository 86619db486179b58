-- Number 5: the names passed are good, and stand on their chains.
use Rattle.names.proofs.Chains.{Chained}
use Rattle.names.proofs.names.bad_names.Given as goal

abbrev pub invariant-loop-j : goal.invariant-loop-j
invariant-loop-j l = Chained l.nm l.pool l.heads l.links l.j
