-- How a name that is spelled as an earlier one is found: names whose spellings have the same number stand on one chain.
use Rattle.std.specs.Prelude.{ℕ, ◌+◌, ◌*◌, ◌%◌, ◌<◌, ◌≡◌, Option, None, Some, List, [], ◌∷◌, length, get_or}
use Rattle.nodefile.specs.Lists.{spelled}

-- a number below 1,024 for a spelling
abbrev pub hash_from : ℕ → List ℕ → ℕ
hash_from h [] = h
hash_from h (x ∷ xs) = hash_from ((h * 31 + x) % 1024) xs

abbrev pub hash_of : List ℕ → ℕ
hash_of s = hash_from 0 s

-- a link leads to a name before name n, or to none
abbrev pub Below : Option ℕ → ℕ → Type 0
Below None n = Unit {0}
Below (Some i) n = i < n

-- each link leads to a name before
pub record Links (links : List (Option ℕ)) : Type 0 where
  pub size : length links ≡ 1024
  pub down : (k : ℕ) → Below (get_or links k None) k

-- name i stands on the chain that starts at a link
pub data On (links : List (Option ℕ)) : Option ℕ → ℕ → Type 0 where
  here : {i : ℕ} → On links (Some i) i
  there : {k i : ℕ} → On links (get_or links k None) i → On links (Some k) i

-- a name on the chain is spelled s
pub data Met (nm pool : List ℕ) (links : List (Option ℕ)) (from : Option ℕ) (s : List ℕ) : Type 0 where
  met : (i : ℕ) → On links from i → spelled nm pool i ≡ s → Met nm pool links from s
