-- A section of a working list that is filled: its places hold what a function gives, and every other place what it held before.
use Rattle.std.specs.Prelude.{ℕ, ◌≡◌, List, length, get_or}
use Rattle.store.specs.Sections.{Point}
use Rattle.store.proofs.Laws.Points.{Off}

pub record Filled (base n : ℕ) (f : ℕ → ℕ) (t t' : List ℕ) : Type 0 where
  pub long : length t' ≡ length t
  pub here : Point t' base n f
  pub other : (i : ℕ) → Off i base n → get_or t' i 0 ≡ get_or t i 0

-- nothing stands there yet
abbrev pub Blank : ℕ → ℕ → List ℕ → Type 0
Blank base n t = Point t base n (λ _. 0)
