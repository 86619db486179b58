-- `listing::lists::put_each` meets its contract: the texts below `i` are put, whatever function puts each.
-- Assumes nothing.
use Rattle.std.specs.Prelude.{ℕ, List}
use Rattle.text.specs.Window.{Rows}
use Rattle.listing.specs.Calls.{PutsBelow}
use Rattle.listing.proofs.lists.put_each.Given as goal

abbrev pub invariant-loop-i : goal.invariant-loop-i
invariant-loop-i g l = (texts : ℕ → List ℕ) → PutsBelow (goal.F-post g l.line) texts l.n → Rows texts l.i l.initial.k l.initial.out l.k l.out
