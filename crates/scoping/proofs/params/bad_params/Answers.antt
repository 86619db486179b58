-- Number 11 of the whole list: the functions in the order of their scope numbers.
use Rattle.std.proofs.Common.{sym, subst, arith}
use Rattle.base.specs.Says.{says-true, says-false}
use Rattle.scoping.specs.Inside.Naming.{Known}
use Rattle.scoping.proofs.Holding.{cell_at}
use Rattle.scoping.proofs.Cells.{cell_here, cell_kids, apart_none, apart_all, apart_fault, apart_more}
use Rattle.scoping.proofs.params.bad_params.Goals as goal

pub loop-v-init : goal.loop-v-init
loop-v-init c = (omega arith, omega arith, apart_none c.requires.0 c.requires.1)

pub returns-in_default : goal.returns-in_default
returns-in_default c = apart_all c.requires.0 c.requires.1 c.loop-v.invariant.2 (c.requires.1.last c.loop-v.v c.loop-v.invariant.0 (cell_at c.args.found.now c.loop-v.v c.in_default.is))

pub slice_bounds-apart-count : goal.slice_bounds-apart-count
slice_bounds-apart-count c = let h = cell_here c.args.found.now c.loop-v.v c.in-Some.at c.requires.0 c.requires.1 c.in-Some.is c.from.ensures c.node-t.ensures in omega (arith, h.some, c.size.ensures.is)

pub slice_bounds-apart-start : goal.slice_bounds-apart-start
slice_bounds-apart-start c = let h = cell_here c.args.found.now c.loop-v.v c.in-Some.at c.requires.0 c.requires.1 c.in-Some.is c.from.ensures c.node-t.ensures in omega (arith, h.some, h.inside, c.size.ensures.is)

pub slice_bounds-apart-end : goal.slice_bounds-apart-end
slice_bounds-apart-end c = let h = cell_here c.args.found.now c.loop-v.v c.in-Some.at c.requires.0 c.requires.1 c.in-Some.is c.from.ensures c.node-t.ensures in omega (arith, h.inside, c.size.ensures.is)

pub apart-requires : goal.apart-requires
apart-requires c =
    let h = cell_here c.args.found.now c.loop-v.v c.in-Some.at c.requires.0 c.requires.1 c.in-Some.is c.from.ensures c.node-t.ensures in
    (subst Known (sym (cell_kids h c.size.ensures.is)) (c.requires.2 h.node h.is), c.loop-v.invariant.2.fresh)

pub returns-then-not-apart : goal.returns-then-not-apart
returns-then-not-apart c =
    let h = cell_here c.args.found.now c.loop-v.v c.in-Some.at c.requires.0 c.requires.1 c.in-Some.is c.from.ensures c.node-t.ensures in
    apart_fault c.requires.0 c.requires.1 c.loop-v.invariant.2 h c.size.ensures.is (λ vs p. says-false c.if-not-apart.true (c.apart.ensures.0 vs p))

pub loop-v-preserved : goal.loop-v-preserved
loop-v-preserved c =
    let h = cell_here c.args.found.now c.loop-v.v c.in-Some.at c.requires.0 c.requires.1 c.in-Some.is c.from.ensures c.node-t.ensures in
    (omega arith, omega arith, apart_more c.requires.0 c.requires.1 c.loop-v.invariant.2 h c.size.ensures.is (λ vs p. says-true c.if-not-apart.false (c.apart.ensures.0 vs p)) c.apart.ensures.1)
