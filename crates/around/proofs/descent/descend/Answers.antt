-- `around::descent::descend` meets its contract: what is left to enter (`Going`).
use Rattle.std.specs.Prelude.{◌≡◌, None, refl, cond, eqb, length, replicate}
use Rattle.std.proofs.Common.{ap, ◌∙◌, arith, rules, eq-eqb, ne_eqb}
use Rattle.around.specs.Own.{own_scope}
use Rattle.around.proofs.Read.{ended}
use Rattle.around.proofs.Fitted.{holds_as}
use Rattle.around.proofs.Going.{going_start, going_held, going_past, going_next, going_in, going_end}
use Rattle.around.proofs.descent.descend.Goals as goal
use Rattle.around.proofs.descent.descend.Goals.{then-q-e, else-q-e}

pub loop-p-init : goal.loop-p-init
loop-p-init c =
    let z : c.fill.new.self ≡ replicate (length c.args.out.now) 0 = search rules in
    going_start c.args.ns.now c.args.x c.fill.new.self (length c.args.out.now) c.requires.0 z

pub loop-p-smaller-then-q-x : goal.loop-p-smaller-then-q-x
loop-p-smaller-then-q-x c =
    let z = going_past c.loop-p.invariant (omega (arith, c.loop-p-test.true)) c.end_in-q.result (ended c.args.ns.now c.loop-p.p c.loop-p.e c.node-t.ensures c.size.ensures c.end_in-q.ensures) in
    omega (arith, z, c.loop-p-test.true)

pub loop-p-preserved-then-q-x : goal.loop-p-preserved-then-q-x
loop-p-preserved-then-q-x c =
    going_next c.loop-p.invariant (omega (arith, c.loop-p-test.true)) c.end_in-q.result (ended c.args.ns.now c.loop-p.p c.loop-p.e c.node-t.ensures c.size.ensures c.end_in-q.ensures) c.if-q-x.true

pub loop-p-preserved : goal.loop-p-preserved
loop-p-preserved c =
    let g = c.loop-p.invariant in
    let entered' : c.if-q-e.push ≡ cond (eqb c.end_in-q.result c.loop-p.e) c.loop-p.inner None = elim c.if-q-e.branch [ then-q-e w ↦ rw (w.push-is, eq-eqb c.end_in-q.result c.loop-p.e w.if-q-e.true) refl | else-q-e w ↦ rw (w.push-is, ne_eqb c.end_in-q.result c.loop-p.e w.if-q-e.false) refl ] in
    going_in g (omega (arith, c.loop-p-test.true)) c.end_in-q.result (ended c.args.ns.now c.loop-p.p c.loop-p.e c.node-t.ensures c.size.ensures c.end_in-q.ensures) c.if-q-x.false
    c.if-q-e.push entered' c.own_scope-inner.result (c.own_scope-inner.ensures ∙ ap own_scope c.node-t.ensures)
    c.push-n.result c.push-n.new.out (c.push-n.ensures g.found (going_held g))

pub returns : goal.returns
returns c = holds_as (going_end c.loop-p.invariant (omega (arith, c.loop-p-test.false))) refl c.fill.ensures.len
