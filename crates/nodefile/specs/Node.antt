-- A node of the node list (document 01, "The node file"), said of the part of the list that starts with it.
-- 64 bits: kind 5, zero 3, size 16, value 16, source offset 24.
use Rattle.std.specs.Prelude.{ℕ, ◌*◌, ◌-◌, ◌<◌, ◌≡◌, List, take, drop}
use Rattle.bits.specs.Field.{field_of}

abbrev pub kind_of : List ℕ → ℕ
kind_of t = field_of t 0 5

abbrev pub node_zero : List ℕ → ℕ
node_zero t = field_of t 5 3

abbrev pub size_of : List ℕ → ℕ
size_of t = field_of t 8 16

abbrev pub value_of : List ℕ → ℕ
value_of t = field_of t 24 16

abbrev pub source_of : List ℕ → ℕ
source_of t = field_of t 40 24

-- the parts of the list that hold what stands below the first node, and what stands after it
abbrev pub below : List ℕ → List ℕ
below t = take (8 * size_of t - 8) (drop 8 t)

abbrev pub after : List ℕ → List ℕ
after t = drop (8 * size_of t) t

-- what a reader of a field gives: the field, and its bound
pub record Is (x n r : ℕ) : Type 0 where
  pub is : r ≡ x
  pub below : r < n
