-- `lines::pieces::put_source` meets its contract: by the bit.
-- Assumes nothing.
use borrow.Author.Tests.{eq-eqb, ne_eqb}
use Rattle.lines.specs.Lines.{source_text}
use Rattle.lines.proofs.pieces.put_source.Goals as goal

pub returns-then-entry-eq1 : goal.returns-then-entry-eq1
unfolding source_text
returns-then-entry-eq1 c = rw (eq-eqb _ _ c.if-entry-eq1.true) c.put_bytes.ensures

pub returns : goal.returns
unfolding source_text
returns c = rw (ne_eqb _ _ c.if-entry-eq1.false) c.put_decimal.ensures
