-- The walk along a chain.
use Rattle.names.specs.Inside.Chain.{Below, Met}
use Rattle.names.proofs.Chains.{ahead}
use Rattle.names.proofs.names.met.Given as goal

abbrev pub invariant-loop-next : goal.invariant-loop-next
invariant-loop-next l = Below l.next 1024 × (Met l.nm l.pool l.links l.next l.s → Met l.nm l.pool l.links l.fn.from l.s) × (Met l.nm l.pool l.links l.fn.from l.s → Met l.nm l.pool l.links l.next l.s)

abbrev pub decreases-loop-next : goal.decreases-loop-next
decreases-loop-next l = ahead l.next
