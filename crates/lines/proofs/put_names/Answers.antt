-- `lines::put_names` meets its contract: the names of the slots below the index that are the scope's.
-- Assumes nothing.
use native.Mathlib.Omega.{arith}
use lib.ListN.{length}
use Rattle.text.specs.Laws.{rows_more, rows_end}
use Rattle.lines.proofs.put_names.Goals as goal

pub loop-r-preserved : goal.loop-r-preserved
loop-r-preserved c = rows_more c.loop-r.invariant c.put_slot-k.ensures

pub returns : goal.returns
returns c = rows_end {n = length c.args.slots.now} c.loop-r.invariant (omega (arith, c.loop-r.auto.r-index-end)) (omega (arith, c.loop-r.auto.r-index-end))
