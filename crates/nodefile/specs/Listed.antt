-- The lists that the theory of names makes of a tree, node by node in node order (`listed`), as the bytes have them.
use Rattle.std.specs.Prelude.{ℕ, ◌*◌, Bool, List, drop}
use Rattle.base.specs.UpTo.{tally}
use Rattle.lexical.specs.Tree.{way, is_fn}
use Rattle.nodefile.specs.Node.{kind_of, size_of, value_of}
use Rattle.nodefile.specs.Layout.{node_count, nodes_of}

-- kind, size and value of the node i nodes into a part
abbrev pub kind_at : List ℕ → ℕ → ℕ
kind_at t i = kind_of (drop (8 * i) t)

abbrev pub size_at : List ℕ → ℕ → ℕ
size_at t i = size_of (drop (8 * i) t)

abbrev pub value_at : List ℕ → ℕ → ℕ
value_at t i = value_of (drop (8 * i) t)

-- ---- the scope numbers

-- Def and Lambda
abbrev pub is_scope : ℕ → Bool
is_scope k = is_fn (way k)

-- how many of a file's nodes are one of the two
abbrev pub scope_count : List ℕ → ℕ
scope_count bs = tally (λ i. is_scope (kind_at (nodes_of bs) i)) (node_count bs)
