-- `collect::declare::collect_defines_recursively` meets its contract: the nodes from node n on are forests that stand one after the other.
use Rattle.store.specs.Sections.{mem}
use Rattle.collect.proofs.Walked.{Mid}
use Rattle.collect.proofs.declare.collect_defines_recursively.Given as goal

abbrev pub invariant-loop-n : goal.invariant-loop-n
invariant-loop-n l = Mid l.list l.initial.s (mem l.initial.binds l.initial.w l.initial.t) l.s l.n (mem l.binds l.w l.t)
