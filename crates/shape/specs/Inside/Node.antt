-- Number 7 of one node, said of the part t of the list that starts with it.
use Rattle.std.specs.Prelude.{ℕ, ◌*◌, ◌≤◌, ◌<◌, ◌≡◌, true, false, List, length}
use Rattle.nodefile.specs.Node.{kind_of, node_zero, size_of, value_of, below}
use Rattle.nodefile.specs.Kids.{Fits}
use Rattle.shape.specs.Nodes.{has_name, has_scope}

pub data BadValue (names kind value : ℕ) : Type 0 where
  no_name : has_name kind ≡ true → names ≤ value → BadValue names kind value
  no_value : has_name kind ≡ false → has_scope kind ≡ false → (value ≡ 0 → ⊥) → BadValue names kind value

pub data BadNode (names : ℕ) (t : List ℕ) : Type 0 where
  kind : 18 < kind_of t → BadNode names t
  zero_bits : (node_zero t ≡ 0 → ⊥) → BadNode names t
  value : BadValue names (kind_of t) (value_of t) → BadNode names t
  size : size_of t ≡ 0 → BadNode names t
  past_list : length t < 8 * size_of t → BadNode names t
  misfit : (Fits (below t) → ⊥) → BadNode names t
