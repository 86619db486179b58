-- The functions of walk one that call one another: each goes down a part that gets shorter, and `collect_kids` and `collect_node` hand theirs on as it is.
use Rattle.std.proofs.Common.{◌+◌, length}
use Rattle.store.specs.Sections.{mem}
use Rattle.collect.proofs.Kids.{Mid}
use Rattle.collect.proofs.walk.+targets.Given as goal

abbrev pub decreases-collect_defines : goal.decreases-collect_defines
decreases-collect_defines l = length l.part.now

abbrev pub decreases-collect_defines_clause : goal.decreases-collect_defines_clause
decreases-collect_defines_clause l = length l.part.now

abbrev pub decreases-collect_defines_lvalue : goal.decreases-collect_defines_lvalue
decreases-collect_defines_lvalue l = length l.part.now

abbrev pub decreases-collect_defines_param : goal.decreases-collect_defines_param
decreases-collect_defines_param l = length l.part.now

abbrev pub decreases-collect_kids : goal.decreases-collect_kids
decreases-collect_kids l = length l.part.now + 2

abbrev pub decreases-collect_node : goal.decreases-collect_node
decreases-collect_node l = length l.part.now + 1

abbrev pub invariant-collect_kids-loop-rest : goal.invariant-collect_kids-loop-rest
invariant-collect_kids-loop-rest l = Mid l.part l.at l.block l.marks l.initial.s (mem l.initial.binds l.initial.w l.initial.t) l.s l.n l.rest (mem l.binds l.w l.t)

abbrev pub decreases-collect_kids-loop-rest : goal.decreases-collect_kids-loop-rest
decreases-collect_kids-loop-rest l = length l.rest
