-- `collect::declare::param_count` meets its contract: the nodes before those in `rest` have n parameter variables.
use Rattle.std.proofs.Common.{arith, add-zero}
use Rattle.lexical.specs.Records.{bit}
use Rattle.collect.proofs.Rests.{some_left, none_left}
use Rattle.collect.proofs.Counting.{c_sizes, c_more, c_end}
use Rattle.collect.proofs.declare.param_count.Goals as goal
use Rattle.collect.proofs.declare.param_count.Goals.{then-is_named_param, else-is_named_param}

pub slice_bounds-rest-count : goal.slice_bounds-rest-count
slice_bounds-rest-count c =
    let z = c_sizes c.loop-rest.invariant (some_left _ c.is_empty.ensures c.loop-rest-test.true) c.size.result c.size.ensures.is c.requires.1 in
    omega (arith, z)

pub slice_bounds-rest-start : goal.slice_bounds-rest-start
slice_bounds-rest-start c =
    let z = c_sizes c.loop-rest.invariant (some_left _ c.is_empty.ensures c.loop-rest-test.true) c.size.result c.size.ensures.is c.requires.1 in
    omega (arith, z)

pub loop-rest-smaller : goal.loop-rest-smaller
loop-rest-smaller c =
    let z = c_sizes c.loop-rest.invariant (some_left _ c.is_empty.ensures c.loop-rest-test.true) c.size.result c.size.ensures.is c.requires.1 in
    omega (arith, z)

pub loop-rest-preserved : goal.loop-rest-preserved
loop-rest-preserved c =
    let more = c_more c.loop-rest.invariant (some_left _ c.is_empty.ensures c.loop-rest-test.true) c.size.result c.size.ensures.is c.is_named_param.ensures c.requires.1 in
    elim c.if-is_named_param.branch [
      | then-is_named_param w ↦ rw w.n-is (unfold bit in (rw w.if-is_named_param.true at more))
      | else-is_named_param w ↦ rw w.n-is (unfold bit in (rw (w.if-is_named_param.false, add-zero) at more))
    ]

pub returns : goal.returns
returns c = (omega (arith, c.loop-rest.invariant.few), c_end c.loop-rest.invariant (none_left _ c.is_empty.ensures c.loop-rest-test.false))
