-- Number 8 of document 01: the root, and the children of each node against the table (lexical's `allowed`).
use Rattle.std.specs.Prelude.{ℕ, ◌*◌, ◌<◌, ◌≡◌, false, List, length}
use Rattle.lexical.specs.Table.{allowed}
use Rattle.nodefile.specs.Node.{kind_of, below}
use Rattle.nodefile.specs.Kids.{Kids}
use Rattle.shape.specs.Nodes.{at}

-- 8: the root no statement, or children other than the table allows
pub data BadChildren (ns : List ℕ) : Type 0 where
  root_no_statement : 7 < kind_of ns → BadChildren ns
  other_children : (i : ℕ) → 8 * i < length ns → (ks : List ℕ) → Kids (below (at ns i)) ks → allowed (kind_of (at ns i)) ks ≡ false → BadChildren ns
