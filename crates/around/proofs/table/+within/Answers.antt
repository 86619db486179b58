-- `around::table::within` meets its contract: what is left to note (`Walking`).
use Rattle.std.specs.Prelude.{ℕ, ◌≡◌, Option, cond, eqb}
use Rattle.std.proofs.Common.{ap, ◌∙◌, arith, refl, sym, eq-eqb, ne_eqb}
use Rattle.std.specs.Option.{unwrap_or}
use Rattle.around.specs.Own.{own_scope}
use Rattle.around.specs.Outer.{stored}
use Rattle.around.proofs.Read.{ended}
use Rattle.around.proofs.Walking.{Passed, noted_of, walking_end, walking_more, ends_past, flat}
use Rattle.around.proofs.table.+within.Goals as goal
use Rattle.around.proofs.table.+within.Goals.{then-q-to, else-q-to, in-Some, in_default}

pub returns-then-levels-eq0 : goal.returns-then-levels-eq0
returns-then-levels-eq0 t c =
    let a = c.args in
    λ f h. flat a.ns.now a.from a.to a.scope a.inner a.levels a.out.now c.if-levels-eq0.true f

pub within-requires : goal.within-requires
within-requires t c =
    let a = c.args in
    let z = ends_past a.ns.now c.loop-p.p a.to c.end_in-q.result c.loop-p-test.true (ended a.ns.now c.loop-p.p a.to c.node-t.ensures c.size.ensures c.end_in-q.ensures) in
    (omega (arith, c.if-levels-eq0.false), omega (arith, z))

pub loop-p-smaller : goal.loop-p-smaller
loop-p-smaller t c =
    let a = c.args in
    let z = ends_past a.ns.now c.loop-p.p a.to c.end_in-q.result c.loop-p-test.true (ended a.ns.now c.loop-p.p a.to c.node-t.ensures c.size.ensures c.end_in-q.ensures) in
    omega (arith, z, c.loop-p-test.true)

pub loop-p-preserved : goal.loop-p-preserved
unfolding stored
loop-p-preserved t c =
    let a = c.args in
    let l = c.loop-p in
    let here' : c.if-q-to.here ≡ cond (eqb c.end_in-q.result a.to) a.inner a.scope = elim c.if-q-to.branch [ then-q-to w ↦ rw (w.here-is, eq-eqb c.end_in-q.result a.to w.if-q-to.true) refl | else-q-to w ↦ rw (w.here-is, ne_eqb c.end_in-q.result a.to w.if-q-to.false) refl ] in
    let noted' : c.match-own.out ≡ stored (noted_of c.own_scope-own.result c.if-q-to.here) l.out = elim c.match-own.branch [ in-Some w ↦ rw w.in-Some.is (w.out-is ∙ w.put.ensures) | in_default w ↦ rw w.in_default.is w.out-is ] in
    let own' : c.match-own.own ≡ c.own_scope-own.result = elim c.match-own.branch [ in-Some w ↦ w.own-is ∙ sym w.in-Some.is | in_default w ↦ w.own-is ] in
    let s : Passed a.ns.now a.to a.scope a.inner a.levels l.p l.out c.end_in-q.result c.within.new.out =
    record {
      here = c.if-q-to.here;
      own = c.own_scope-own.result;
      last = c.unwrap_or.result;
      mid = c.match-own.out;
      ends = ended a.ns.now l.p a.to c.node-t.ensures c.size.ensures c.end_in-q.ensures;
      here_is = here';
      own_is = c.own_scope-own.ensures ∙ ap own_scope c.node-t.ensures;
      noted = noted';
      last_is = c.unwrap_or.ensures ∙ ap (λ (o : Option ℕ). unwrap_or o c.if-q-to.here) own';
      below = c.within.ensures;
    }
    in
    walking_more c.loop-p-test.true s c.if-levels-eq0.false l.invariant

pub returns : goal.returns
returns t c = λ f h. walking_end c.loop-p.invariant c.loop-p-test.false f h
