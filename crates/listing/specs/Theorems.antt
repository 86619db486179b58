-- Of one file, one first byte and one length, no second window and no second count fit.
use Rattle.std.specs.Prelude.{ℕ, ◌≡◌, List}
use Rattle.scope.specs.Laws.One.{same_answer}
use Rattle.text.specs.Laws.{window_one}
use Rattle.listing.specs.Text.{Listed}

pub listed-one : {bs : List ℕ} {from len : ℕ} {out out' : List ℕ} {n n' : ℕ} → Listed bs from len out n → Listed bs from len out' n' → (out ≡ out') × (n ≡ n')
listed-one l m = let same = same_answer l.resolves m.resolves in window_one l.window (rw (same.0, same.1) m.window)
