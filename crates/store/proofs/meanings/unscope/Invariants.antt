-- The loop of `unscope`: the bindings from k on are still in reach.
use Rattle.store.specs.Scoping.{Closing}
use Rattle.store.proofs.Reached.{Closes}
use Rattle.store.proofs.meanings.unscope.Given as goal

abbrev pub invariant-loop-k : goal.invariant-loop-k
invariant-loop-k l = (g : Closing l.binds l.initial.t l.lo l.hi) → Closes g l.k l.t
