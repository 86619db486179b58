-- `idents::last` meets its contract: the nodes passed and those left are the part's (`Trail`).
use Rattle.std.proofs.Common.{arith}
use Rattle.idents.proofs.Trail.{trail_start, trail_inside, trail_length, trail_more, trail_end}
use Rattle.idents.proofs.last.Goals as goal

pub loop-end-init : goal.loop-end-init
loop-end-init c = trail_start c.requires.1 c.size.ensures.is

pub loop-end-smaller : goal.loop-end-smaller
loop-end-smaller c =
    let d = c.loop-end.invariant in
    omega (arith, trail_inside d c.requires.1, trail_length d c.loop-end-test.true)

pub loop-end-preserved : goal.loop-end-preserved
loop-end-preserved c = trail_more c.loop-end.invariant c.loop-end-test.true c.size-in-loop-end.ensures.is

pub returns : goal.returns
returns c = trail_end c.loop-end.invariant c.loop-end-test.false
