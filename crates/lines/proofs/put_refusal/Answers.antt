-- `lines::put_refusal` meets its contract: piece by piece.
-- Assumes nothing.
use Rattle.text.specs.Laws.{puts_then, puts_line}
use Rattle.lines.specs.Lines.{refusal_line}
use Rattle.lines.proofs.put_refusal.Goals as goal

pub returns : goal.returns
unfolding refusal_line
returns c = puts_line (puts_then c.put_number-k.ensures c.put_bytes.ensures)
