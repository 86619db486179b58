-- Number 5 of document 01: the names.
use Rattle.std.specs.Prelude.{ℕ, ◌+◌, ◌≤◌, ◌<◌, ◌≡◌, List, length}
use Rattle.nodefile.specs.Lists.{name_off, name_len, spelled}

-- 5: of n names, one of length 0, past the pool, or spelled as an earlier one
pub data BadNames (n : ℕ) (nm pool : List ℕ) : Type 0 where
  empty : (j : ℕ) → j < n → name_len nm j ≡ 0 → BadNames n nm pool
  past_pool : (j : ℕ) → j < n → length pool < name_off nm j + name_len nm j → BadNames n nm pool
  spelled-before : (i j : ℕ) → i < j → j < n → spelled nm pool i ≡ spelled nm pool j → BadNames n nm pool

-- what it leaves
pub record NamesOk (n : ℕ) (nm pool : List ℕ) : Type 0 where
  pub some : (j : ℕ) → j < n → 0 < name_len nm j
  pub inside : (j : ℕ) → j < n → name_off nm j + name_len nm j ≤ length pool
  pub once : (i j : ℕ) → i < j → j < n → spelled nm pool i ≡ spelled nm pool j → ⊥
