-- `listing::print` meets its contract: from the first byte to the last.
-- Assumes nothing.
use borrow.Author.Tests.{eq-eqb, ne_eqb}
use Rattle.text.specs.Laws.{window_of}
use Rattle.listing.specs.Text.{text_of}
use Rattle.listing.proofs.print.Goals as goal

pub returns-then-answer-ne0 : goal.returns-then-answer-ne0
unfolding text_of
returns-then-answer-ne0 c =
    rw (ne_eqb _ _ c.if-answer-ne0.true) (window_of c.start-c.ensures c.put_refusal-k.ensures c.finish.ensures)

pub returns : goal.returns
unfolding text_of
returns c =
    rw (eq-eqb _ _ c.if-answer-ne0.false) (window_of c.start-c.ensures c.put_accepted-k.ensures c.finish-2.ensures)
