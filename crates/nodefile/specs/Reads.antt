-- The tree that a part of the node list holds: nodes stand parent first, and size counts a node and all below it (document 01).
use Rattle.std.specs.Prelude.{ℕ, ◌+◌, ◌*◌, ◌≤◌, ◌<◌, ◌≡◌, List, [], length}
use Rattle.lexical.specs.Tree.{Forest, nil, node}
use Rattle.nodefile.specs.Node.{kind_of, value_of, size_of, below, after}

-- `Reads t at f`: the part t of the list, whose first node has the number at, holds f
abbrev pub Reads : List ℕ → ℕ → Forest → Type 0
Reads t at nil = t ≡ []
Reads t at (node a k v kids rest) =
    record {
      number : a ≡ at;
      kind : k ≡ kind_of t;
      value : v ≡ value_of t;
      some : 0 < size_of t;
      inside : 8 * size_of t ≤ length t;
      under : Reads (below t) (at + 1) kids;
      after : Reads (after t) (at + size_of t) rest;
    }

-- how many nodes a tree has
abbrev pub count_of : Forest → ℕ
count_of nil = 0
count_of (node a k v kids rest) = 1 + (count_of kids + count_of rest)
