-- `bring` meets its contract, by the steps of Inward.
use Rattle.std.proofs.Common.{arith}
use Rattle.store.proofs.Laws.Full.{stopped}
use Rattle.lookup.proofs.Inward.{bring_id, bring-slots, at-hand, own-copy, own_done, outside, no_room, then-copy, then_done}
use Rattle.lookup.proofs.bring.+bring.Goals as goal

pub hand-requires : goal.hand-requires
hand-requires t c = (bring_id c.requires.1, bring-slots c.requires.1)

pub returns-in-Some : goal.returns-in-Some
returns-in-Some t c = at-hand c.scope_at_level-scope.ensures.0 c.in-Some.ensures

pub slot_of-own-requires : goal.slot_of-own-requires
slot_of-own-requires t c = omega (arith, bring_id c.requires.1, c.requires.0.binds)

pub copy_parent-requires : goal.copy_parent-requires
copy_parent-requires t c = (c.requires.0, own-copy c.scope_at_level-scope.ensures.0 c.in_default.ensures c.if-level-eq0.true c.slot_of-own.ensures.0 c.requires.1)

pub returns-then-level-eq0 : goal.returns-then-level-eq0
returns-then-level-eq0 t c = own_done c.scope_at_level-scope.ensures.0 c.in_default.ensures c.if-level-eq0.true c.slot_of-own.ensures.0 c.copy_parent.ensures

pub bring-requires : goal.bring-requires
bring-requires t c = (omega arith, (c.requires.0, outside c.scope_at_level-scope.ensures.0 c.in_default.ensures c.if-level-eq0.false c.requires.1))

pub returns-in_err-outside : goal.returns-in_err-outside
returns-in_err-outside t c = rw (stopped c.in_err-outside.field-0.0 c.from_residual.ensures.0) (no_room c.scope_at_level-scope.ensures.0 c.in_default.ensures c.if-level-eq0.false c.in_err-outside.ensures)

pub copy_parent-requires-2 : goal.copy_parent-requires-2
copy_parent-requires-2 t c = (record { binds = c.requires.0.binds }, then-copy c.scope_at_level-scope.ensures.0 c.in_default.ensures c.if-level-eq0.false c.in_ok-outside.ensures c.requires.1)

pub returns : goal.returns
returns t c = then_done c.scope_at_level-scope.ensures.0 c.in_default.ensures c.if-level-eq0.false c.in_ok-outside.ensures c.copy_parent-2.ensures
