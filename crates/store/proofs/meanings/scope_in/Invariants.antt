-- The loop of `scope_in`: the bindings from k on are in reach.
use Rattle.store.specs.Scoping.{Opening}
use Rattle.store.proofs.Reached.{Opens}
use Rattle.store.proofs.meanings.scope_in.Given as goal

abbrev pub invariant-loop-k : goal.invariant-loop-k
invariant-loop-k l = (g : Opening l.binds l.initial.t l.lo l.hi) → Opens g l.k l.t
