-- `lines::put_counts` meets its contract: piece by piece.
-- Assumes nothing.
use Rattle.lines.specs.Lines.{counts_line}
use Rattle.text.specs.Laws.{puts_then, puts_line}
use Rattle.lines.proofs.put_counts.Goals as goal

pub returns : goal.returns
unfolding counts_line
returns c =
    puts_line (puts_then c.put_number-k.ensures (puts_then c.put_number-k-2.ensures (puts_then c.put_number-k-3.ensures (puts_then c.put_number-k-4.ensures (puts_then c.put_number-k-5.ensures c.put_bytes.ensures)))))
