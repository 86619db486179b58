-- `listing::lists::put_each` meets its contract: the texts of the records below `i`.
-- Assumes nothing.
use Rattle.std.proofs.Common.{arith}
use Rattle.text.specs.Laws.{rows_more, rows_end}
use Rattle.listing.proofs.lists.put_each.Goals as goal

pub loop-i-preserved : goal.loop-i-preserved
loop-i-preserved g c = λ texts h. rows_more (c.loop-i.invariant texts h) (h _ _ _ _ _ c.loop-i-test.true c.line-k.ensures)

pub returns : goal.returns
returns g c = λ texts h. rows_end {n = c.args.n} (c.loop-i.invariant texts h) (omega (arith, c.loop-i.auto.i-end)) (omega (arith, c.loop-i-test.false))
