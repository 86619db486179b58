-- A tree keeps to document 01's table of children where each node of the bytes does: its kind is at most 18, and the kinds of the
-- nodes that its own stretch falls into are as the table allows.
use Rattle.std.specs.Prelude.{ℕ, ◌≤◌, ◌≡◌, true, List}
use Rattle.lexical.specs.Table.{allowed}
use Rattle.nodefile.specs.Node.{kind_of, below}
use Rattle.nodefile.specs.Kids.{Kids}

-- what the table asks of one node of the bytes
abbrev pub RowKept : List ℕ → Type 0
RowKept t = (kind_of t ≤ 18) × ((ks : List ℕ) → Kids (below t) ks → allowed (kind_of t) ks ≡ true)
