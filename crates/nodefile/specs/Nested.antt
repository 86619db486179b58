-- "A node running past its parent's end" (document 01, number 7), said without children: no node that stands inside another ends after it.
-- For a list whose nodes have a size and end inside the list this is the same as what each node's own stretch says (`nested`, `unnested`).
-- A list that holds a tree is such a list (`reads_sized`, `reads_local`).
use Rattle.std.specs.Prelude.{ℕ, ◌+◌, ◌*◌, ◌≤◌, ◌<◌, List, length, drop}
use Rattle.nodefile.specs.Node.{size_of}

-- where node i ends
abbrev pub end_of : List ℕ → ℕ → ℕ
end_of ns i = i + size_of (drop (8 * i) ns)

abbrev pub Nested : List ℕ → Type 0
Nested ns = (i j : ℕ) → 8 * i < length ns → i < j → j < end_of ns i → end_of ns j ≤ end_of ns i

-- each node has a size, and ends inside the list
abbrev pub Sized : List ℕ → Type 0
Sized ns = (i : ℕ) → 8 * i < length ns → (0 < size_of (drop (8 * i) ns)) × (8 * end_of ns i ≤ length ns)
