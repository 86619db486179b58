-- A loop over the nodes of a part that stand one after the other, in the form "what is left".
use Rattle.std.specs.Prelude.{ℕ, ◌+◌, ◌*◌, ◌≤◌, ◌<◌, ◌≡◌, List, length, drop}
use Rattle.lexical.specs.Tree.{Forest, nil, node}
use Rattle.nodefile.specs.Node.{size_of}
use Rattle.nodefile.specs.Reads.{Reads}

-- a walk over siblings, one after the other, that takes what came before to what comes after; `Fine` is what it needs of a forest:
-- where it holds of some nodes, it holds of the first by itself and of those after it
pub record Walk (X : Type 0) : Type 1 where
  pub Fine : Forest → Type 0
  pub over : Forest → X → X
  pub apart : (a k v : ℕ) (kids rest : Forest) → Fine (node a k v kids rest) → Fine (node a k v kids nil) × Fine rest
  pub stop : (x : X) → over nil x ≡ x
  pub step : (a k v : ℕ) (kids rest : Forest) (x : X) → over (node a k v kids rest) x ≡ over rest (over (node a k v kids nil) x)

-- what is left at byte i, where node n stands: the forest f; x is what came of the nodes before, of which K is known; the end is the same
pub record Left {X : Type 0} (S : Walk X) (K : X → Type 0) (part : List ℕ) (n i : ℕ) (end : X) : Type 0 where
  pub f : Forest
  pub x : X
  pub reads : Reads (drop i part) n f
  pub fine : S.Fine f
  pub known : K x
  pub same : S.over f x ≡ end

-- the node at byte i
pub record Sibling (part : List ℕ) (i : ℕ) : Type 0 where
  pub some : 0 < size_of (drop i part)
  pub inside : i + 8 * size_of (drop i part) ≤ length part
