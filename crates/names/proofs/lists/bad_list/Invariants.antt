-- Number 6 of one list: the marks are those of the lines passed, whatever function gives their name numbers.
use Rattle.std.specs.Prelude.{ℕ, ◌<◌, ◌≡◌}
use Rattle.names.proofs.Lines.{Lines}
use Rattle.names.proofs.lists.bad_list.Given as goal

abbrev pub invariant-loop-k : goal.invariant-loop-k
invariant-loop-k g l = (f : ℕ → ℕ) → ((k r : ℕ) → k < l.n → goal.F-post g l.name_of k r → r ≡ f k) → Lines l.names l.seen f l.k
