-- `lines::put_slot` meets its contract: a name if the slot is the scope's, else nothing.
-- Assumes nothing.
use mathlib.Core.Path.{refl, sym, ◌∙◌}
use borrow.Author.Tests.{eq-eqb, ne_eqb}
use Rattle.text.specs.Laws.{puts_none, puts_then, puts_line, puts_text}
use Rattle.lines.specs.Lines.{slot_name}
use Rattle.lines.proofs.put_slot.Goals as goal

pub returns-then-high-scope : goal.returns-then-high-scope
unfolding slot_name
returns-then-high-scope c = rw (ne_eqb _ _ (λ e. c.if-high-scope.true (c.high.ensures.is ∙ e))) (puts_line (puts_none _ _))

pub returns : goal.returns
unfolding slot_name
returns c =
    rw (eq-eqb _ _ (sym c.high.ensures.is ∙ c.if-high-scope.false)) (puts_text (puts_then c.put_bytes-k.ensures c.put_name.ensures) (rw c.low.ensures.is refl))
