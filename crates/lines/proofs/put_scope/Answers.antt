-- `lines::put_scope` meets its contract: piece by piece.
-- Assumes nothing.
use mathlib.Core.Path.{refl}
use Rattle.lines.specs.Lines.{scope_line}
use Rattle.text.specs.Laws.{puts_then, puts_text}
use Rattle.lines.proofs.put_scope.Goals as goal

pub returns : goal.returns
unfolding scope_line
returns c =
    puts_text (puts_then c.put_number-k.ensures (puts_then c.put_number-k-2.ensures (puts_then c.put_bytes-k.ensures (puts_then c.put_names-k.ensures c.put_bytes.ensures)))) (rw c.high.ensures.is refl)
