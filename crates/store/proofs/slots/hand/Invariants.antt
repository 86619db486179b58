-- The loop of `hand`: the slots before place c, and then what is found so far, hold the answer. It counts c down.
use Rattle.std.specs.Prelude.{◌≤◌}
use Rattle.store.specs.Hands.{Slotted}
use Rattle.store.proofs.Walked.{Led}
use Rattle.store.proofs.slots.hand.Given as goal

abbrev pub invariant-loop-k : goal.invariant-loop-k
invariant-loop-k l = (l.c ≤ 4096) × ((g : Slotted l.w l.t) → Led g.slots l.scope l.id l.c l.best)

abbrev pub decreases-loop-k : goal.decreases-loop-k
decreases-loop-k l = l.c
