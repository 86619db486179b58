-- Number 9: the sizes of the node at hand, and what its children and the rest say of the depth.
use Rattle.std.proofs.Common.{arith}
use Rattle.base.specs.Says.{says-true, says-false}
use Rattle.scoping.proofs.Deep.{deep_end, deep_none, deep_size, deep_kids, deep_under, deep_more}
use Rattle.scoping.proofs.depth.+deeper.Goals as goal

pub returns-then-left-eq0 : goal.returns-then-left-eq0
returns-then-left-eq0 t c = deep_none c.loop-u.invariant (omega arith) c.if-left-eq0.true

pub slice_bounds-deeper-count : goal.slice_bounds-deeper-count
slice_bounds-deeper-count t c = omega (arith, deep_size c.loop-u.invariant (omega arith) c.size.ensures.is)

pub slice_bounds-deeper-start : goal.slice_bounds-deeper-start
slice_bounds-deeper-start t c = omega (arith, deep_size c.loop-u.invariant (omega arith) c.size.ensures.is)

pub slice_bounds-deeper-end : goal.slice_bounds-deeper-end
slice_bounds-deeper-end t c = omega (arith, deep_size c.loop-u.invariant (omega arith) c.size.ensures.is)

pub deeper-requires : goal.deeper-requires
deeper-requires t c = (omega arith, (deep_kids c.loop-u.invariant (omega arith) c.size.ensures.is, omega arith))

pub returns-then-deeper : goal.returns-then-deeper
returns-then-deeper t c = deep_under c.loop-u.invariant (omega arith) c.size.ensures.is (omega arith) (λ at g r. says-true c.if-deeper.true (c.deeper.ensures at g r))

pub loop-u-smaller : goal.loop-u-smaller
loop-u-smaller t c = omega (arith, deep_size c.loop-u.invariant (omega arith) c.size.ensures.is)

pub loop-u-preserved : goal.loop-u-preserved
loop-u-preserved t c = deep_more c.loop-u.invariant (omega arith) c.size.ensures.is (omega arith) (λ at g r. says-false c.if-deeper.false (c.deeper.ensures at g r))

pub returns : goal.returns
returns t c = deep_end c.loop-u.invariant (omega arith)
