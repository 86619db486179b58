-- Where each scope number stands: cell v holds the node that has v. As numbers the cells hold one more than its number, or 0 for none.
use Rattle.std.specs.Prelude.{ℕ, ◌+◌, ◌*◌, ◌<◌, ◌≡◌, true, List, length, get_or, Option, None, Some}
use Rattle.scoping.specs.Scopes.{is_scope, number}

-- a cell as a number
abbrev pub cell_of : Option ℕ → ℕ
cell_of None = 0
cell_of (Some n) = n + 1

-- 256 cells that hold 0
pub record Unset (found : List ℕ) : Type 0 where
  pub size : length found ≡ 256
  pub zero : (v : ℕ) → get_or found v 0 ≡ 0

-- node i is a Def or a Lambda
pub record Scope (ns : List ℕ) (i : ℕ) : Type 0 where
  pub inside : 8 * i < length ns
  pub scope : is_scope ns i ≡ true

pub record Source (ns found : List ℕ) (v : ℕ) : Type 0 where
  pub node : ℕ
  pub is : Scope ns node
  pub number : number ns node ≡ v
  pub cell : get_or found v 0 ≡ node + 1

pub record Found (ns found : List ℕ) : Type 0 where
  pub low : (i : ℕ) → Scope ns i → 0 < number ns i
  pub high : (i : ℕ) → Scope ns i → number ns i < 256
  pub note : (i : ℕ) → Scope ns i → get_or found (number ns i) 0 ≡ i + 1
  pub back : (v : ℕ) → (get_or found v 0 ≡ 0 → ⊥) → Source ns found v
  pub last : (v : ℕ) → 0 < v → get_or found v 0 ≡ 0 → (i : ℕ) → Scope ns i → number ns i < v
