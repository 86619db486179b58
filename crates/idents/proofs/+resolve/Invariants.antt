-- The functions of walk three that call one another: each goes down a part that gets shorter; those that hand theirs on as it is stand above the ones that take it.
use Rattle.std.proofs.Common.{◌+◌, length}
use Rattle.store.specs.Sections.{mem}
use Rattle.idents.proofs.Steps.{Mid}
use Rattle.idents.proofs.+resolve.Given as goal

abbrev pub decreases-each : goal.decreases-each
decreases-each l = length l.part.now + 3

abbrev pub decreases-resolve_node : goal.decreases-resolve_node
decreases-resolve_node l = length l.part.now + 2

abbrev pub decreases-resolve_idents : goal.decreases-resolve_idents
decreases-resolve_idents l = length l.part.now + 1

abbrev pub decreases-idents_in_assign : goal.decreases-idents_in_assign
decreases-idents_in_assign l = length l.part.now + 1

abbrev pub decreases-idents_in_expr : goal.decreases-idents_in_expr
decreases-idents_in_expr l = length l.part.now + 1

abbrev pub decreases-idents_in_type_expr : goal.decreases-idents_in_type_expr
decreases-idents_in_type_expr l = length l.part.now + 1

abbrev pub decreases-idents_in_clause : goal.decreases-idents_in_clause
decreases-idents_in_clause l = length l.part.now + 1

abbrev pub decreases-idents_in_param : goal.decreases-idents_in_param
decreases-idents_in_param l = length l.part.now + 1

abbrev pub decreases-idents_in_def : goal.decreases-idents_in_def
decreases-idents_in_def l = length l.part.now

abbrev pub decreases-idents_in_compr : goal.decreases-idents_in_compr
decreases-idents_in_compr l = length l.part.now

abbrev pub invariant-each-loop-rest : goal.invariant-each-loop-rest
invariant-each-loop-rest l = Mid l.part l.at l.ty l.initial.s (mem l.initial.binds l.initial.w l.initial.t) l.s l.n l.rest (mem l.binds l.w l.t)

abbrev pub decreases-each-loop-rest : goal.decreases-each-loop-rest
decreases-each-loop-rest l = length l.rest
