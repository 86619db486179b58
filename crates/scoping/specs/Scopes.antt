-- Number 10 of document 01: the scope numbers.
use Rattle.std.specs.Prelude.{ℕ, ◌/◌, ◌<◌, Bool, List, length}
use Rattle.base.specs.UpTo.{up_to}
use Rattle.lexical.specs.Claims.{Filled, Once}
use Rattle.nodefile.specs.Node.{kind_of, value_of}
use Rattle.nodefile.specs.Chosen.{chosen}
use Rattle.shape.specs.Nodes.{at, has_scope}

-- node i is a Def or a Lambda, and its scope number
abbrev pub is_scope : List ℕ → ℕ → Bool
is_scope ns i = has_scope (kind_of (at ns i))

abbrev pub number : List ℕ → ℕ → ℕ
number ns i = value_of (at ns i)

-- the scope numbers of the first m nodes, in node order; of all nodes
abbrev pub numbers : List ℕ → ℕ → List ℕ
numbers ns m = chosen (is_scope ns) (number ns) (up_to (λ i. i) m)

abbrev pub scope_numbers : List ℕ → List ℕ
scope_numbers ns = numbers ns (length ns / 8)

-- they are 1..S, each once, where S is how many they are: each of 1..S is among them; no two are alike, and none is another
pub record EachOnce (xs : List ℕ) : Type 0 where
  pub all : Filled xs
  pub once : Once xs

-- 10: scope numbers are not 1..S each once, or S above 255
pub data BadScopes (ns : List ℕ) : Type 0 where
  not-each_once : (EachOnce (scope_numbers ns) → ⊥) → BadScopes ns
  many_scopes : 255 < length (scope_numbers ns) → BadScopes ns
