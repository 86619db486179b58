-- `text::put_bytes` meets its contract: all bytes come before the window, or behind it, or a byte for each number below the index is put.
-- Assumes nothing.
use native.Mathlib.Omega.{arith}
use Rattle.text.specs.Laws.{rows_more, rows_bytes}
use Rattle.text.proofs.put_bytes.Goals as goal

pub loop-byte-preserved : goal.loop-byte-preserved
loop-byte-preserved c = rows_more c.loop-byte.invariant c.put-k.ensures

pub returns : goal.returns
returns c = rows_bytes c.loop-byte.invariant (omega (arith, c.loop-byte.auto.byte-index-end)) (omega (arith, c.loop-byte.auto.byte-index-end))
