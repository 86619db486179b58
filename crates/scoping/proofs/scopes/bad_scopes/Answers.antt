-- Number 10 of the whole list.
use Rattle.std.proofs.Common.{sym, ◌≡◌, ◌∙◌, max, arith, true≢false, rules}
use Rattle.scoping.proofs.Holding.{cell_set, held_set, held_free, scope_kind}
use Rattle.scoping.proofs.Noting.{noting_none, noting_skip, noting_zero, noting_high, noting_twice, noting_more, noting_answer}
use Rattle.scoping.proofs.scopes.bad_scopes.Goals.{then-v-eq0-via-then-v-eq0, then-v-eq0-via-else-v-eq0+then-v-gt255, then-v-eq0-via-else-v-eq0+else-v-gt255+then-is_some}
use Rattle.scoping.proofs.scopes.bad_scopes.Goals.{then-has_scope+else-v-eq0+else-v-gt255+else-is_some, else-has_scope}
use Rattle.scoping.proofs.scopes.bad_scopes.Goals as goal

pub loop-t-init : goal.loop-t-init
loop-t-init c = noting_none _ c.requires.2

pub returns-then-v-eq0 : goal.returns-then-v-eq0
returns-then-v-eq0 c =
    let n = c.loop-t.invariant in
    let v = c.value-v.ensures.is in
    let scope = sym (scope_kind c.loop-t.t.now) ∙ sym c.has_scope.ensures ∙ c.if-has_scope.true in (
      elim c.then-v-eq0.branch [
        | then-v-eq0-via-then-v-eq0 w ↦ noting_zero n (omega arith) v scope w.if-v-eq0.true
        | then-v-eq0-via-else-v-eq0+then-v-gt255 w ↦ noting_high n (omega arith) v scope (omega arith)
        | then-v-eq0-via-else-v-eq0+else-v-gt255+then-is_some w ↦ noting_twice n (omega arith) v scope (held_set c.loop-t.found c.value-v.result (sym w.is_some.ensures ∙ w.if-is_some.true))
      ],
      λ e. absurd (true≢false e),
    )

pub loop-t-preserved : goal.loop-t-preserved
loop-t-preserved c =
    let n = c.loop-t.invariant in
    elim c.if-has_scope.branch [
      | then-has_scope+else-v-eq0+else-v-gt255+else-is_some w ↦ let scope = sym (scope_kind c.loop-t.t.now) ∙ sym c.has_scope.ensures ∙ w.if-has_scope.true in
          let top : w.max-top.result ≡ max c.loop-t.top w.value-v.result = search rules in
          rw (w.found-is, w.count-is, w.top-is, cell_set c.loop-t.found w.value-v.result c.loop-t.node)
          (noting_more n (omega arith) w.value-v.ensures.is scope (omega arith) (omega arith) (held_free c.loop-t.found w.value-v.result (sym w.is_some.ensures ∙ w.if-is_some.false)) top)
      | else-has_scope w ↦ rw (w.found-is, w.count-is, w.top-is) (noting_skip n (omega arith) (sym (scope_kind c.loop-t.t.now) ∙ sym c.has_scope.ensures ∙ w.if-has_scope.false))
    ]

pub returns : goal.returns
returns c = noting_answer c.loop-t.invariant c.loop-t-test.false c.requires.0
