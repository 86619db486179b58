-- The children against a row, place by place.
use Rattle.std.proofs.Common.{arith, ◌∙◌}
use Rattle.base.specs.Says.{says-true, says-false}
use Rattle.nodefile.proofs.Laws.Fitting.{fits_first}
use Rattle.shape.proofs.Filling.{one_filled, one_missing, opt_filled, opt_missing, many_filled, many_missing, filling_end}
use Rattle.shape.proofs.children.matches.Goals.{in-One+else-not-head_in, in-Opt+then-head_in, in-Opt+else-head_in, in-Many+else-loop-kinds-test}
use Rattle.shape.proofs.children.matches.Goals as goal

pub returns-then-not-head_in : goal.returns-then-not-head_in
returns-then-not-head_in c = one_missing c.loop-item.invariant _ c.loop-item-test.true c.in-One.is (says-false c.if-not-head_in.true c.head_in.ensures)

pub after-t-requires : goal.after-t-requires
after-t-requires c = let h = says-true c.if-not-head_in.false c.head_in.ensures in (fits_first c.loop-item.invariant.fits (omega arith)).1

pub after-t-requires-then-head_in : goal.after-t-requires-then-head_in
after-t-requires-then-head_in c = let h = says-true c.if-head_in.true c.head_in-in-Opt.ensures in (fits_first c.loop-item.invariant.fits (omega arith)).1

pub loop-kinds-preserved : goal.loop-kinds-preserved
loop-kinds-preserved c = many_filled c.loop-kinds.invariant _ c.loop-item-test.true c.in-Many.is (says-true c.loop-kinds-test.true c.head_in-in-loop-kinds.ensures) c.after-t-in-loop-kinds.ensures

pub loop-item-preserved : goal.loop-item-preserved
loop-item-preserved c =
    let f = c.loop-item.invariant in
    let l = c.loop-item-test.true in
    elim c.match-item.branch [
      | in-One+else-not-head_in w ↦ rw w.t-is (one_filled f _ l w.in-One.is (says-true w.if-not-head_in.false w.head_in.ensures) w.after-t.ensures)
      | in-Opt+then-head_in w ↦ rw w.t-is (opt_filled f _ l w.in-Opt.is (says-true w.if-head_in.true w.head_in-in-Opt.ensures) w.after-t-then-head_in.ensures)
      | in-Opt+else-head_in w ↦ rw w.t-is (opt_missing f _ l w.in-Opt.is (says-false w.if-head_in.false w.head_in-in-Opt.ensures))
      | in-Many+else-loop-kinds-test w ↦ rw w.t-is (many_missing w.loop-kinds.invariant _ l w.in-Many.is (says-false w.loop-kinds-test.false w.head_in-in-loop-kinds.ensures))
    ]

pub returns : goal.returns
returns c = λ ks k. c.is_empty.ensures ∙ filling_end c.loop-item.invariant c.loop-item-test.false ks k
