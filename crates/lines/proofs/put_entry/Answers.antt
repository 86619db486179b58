-- `lines::put_entry` meets its contract: piece by piece.
-- Assumes nothing.
use mathlib.Core.Path.{refl}
use Rattle.lines.specs.Lines.{entry_line}
use Rattle.text.specs.Laws.{puts_then, puts_text}
use Rattle.lines.proofs.put_entry.Goals as goal

pub returns : goal.returns
unfolding entry_line
returns c =
    puts_text (puts_then c.put_number-k.ensures (puts_then c.put_bytes-k.ensures (puts_then c.put_name-k.ensures c.put_choice.ensures))) (rw (c.slot.ensures.is, c.name.ensures.is, c.public.ensures.is) refl)
