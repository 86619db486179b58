-- The nodes of a tree in node order, against the bytes that hold it.
use Rattle.std.specs.Prelude.{ℕ, ◌+◌, ◌*◌, ◌≤◌, ◌<◌, ◌≡◌, List, [], ◌∷◌, ◌++◌, length, drop}
use Rattle.lexical.specs.Tree.{Forest, nil, node}
use Rattle.nodefile.specs.Node.{kind_of, value_of, size_of, below}
use Rattle.nodefile.specs.Reads.{Reads}

pub record Spot : Type 0 where
  pub number : ℕ
  pub kind : ℕ
  pub value : ℕ
  pub kids : Forest

unfoldable pub spots_in : Forest → List Spot
spots_in nil = []
spots_in (node a k v kids rest) = record { number = a; kind = k; value = v; kids = kids } ∷ (spots_in kids ++ spots_in rest)

-- s is the node that the part t starts with, and has this number
pub record First (t : List ℕ) (n : ℕ) (s : Spot) : Type 0 where
  pub number : s.number ≡ n
  pub kind : s.kind ≡ kind_of t
  pub value : s.value ≡ value_of t
  pub some : 0 < size_of t
  pub inside : 8 * size_of t ≤ length t
  pub under : Reads (below t) (n + 1) s.kids

-- s is the node i nodes into the part t, whose first node has the number at
abbrev pub Stands : List ℕ → ℕ → ℕ → Spot → Type 0
Stands t at i s = First (drop (8 * i) t) (at + i) s
