-- A node list whose root is the whole list and whose every node's stretch falls into nodes holds a tree, and no second one (`reads_one`).
-- Each node is asked for itself alone: that is what judging by stretches finds out.
use Rattle.std.specs.Prelude.{ℕ, ◌*◌, ◌<◌, ◌≡◌, List, length, take, drop}
use Rattle.nodefile.specs.Node.{size_of, below}
use Rattle.nodefile.specs.Kids.{Fits}

-- each node's own stretch falls into nodes
abbrev pub Local : List ℕ → Type 0
Local ns = (i : ℕ) → 8 * i < length ns → Fits (below (drop (8 * i) ns))

-- what number 7 leaves of a node list
pub record Whole (ns : List ℕ) : Type 0 where
  pub root : 8 * size_of ns ≡ length ns
  pub local : Local ns

-- m nodes from node a on
abbrev pub stretch : List ℕ → ℕ → ℕ → List ℕ
stretch ns a m = take (8 * m) (drop (8 * a) ns)
