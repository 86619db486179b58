-- `lines::put_copy` meets its contract: piece by piece.
-- Assumes nothing.
use mathlib.Core.Path.{refl}
use Rattle.lines.specs.Lines.{copy_line}
use Rattle.text.specs.Laws.{puts_then, puts_text}
use Rattle.lines.proofs.put_copy.Goals as goal

pub returns : goal.returns
unfolding copy_line
returns c =
    puts_text (puts_then c.put_number-k.ensures (puts_then c.put_number-k-2.ensures (puts_then c.put_number-k-3.ensures c.put_bytes.ensures))) (rw (c.scope.ensures.is, c.parent.ensures.is, c.child.ensures.is) refl)
