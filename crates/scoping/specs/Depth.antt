-- Number 9 of document 01: depth.
use Rattle.std.specs.Prelude.{ℕ, ◌<◌, List}
use Rattle.lexical.specs.Tree.{Forest}
use Rattle.nodefile.specs.Reads.{Reads}
use Rattle.nodefile.specs.Height.{height}

-- 9: depth 65 or more
pub data TooDeep (ns : List ℕ) : Type 0 where
  too_deep : (f : Forest) → Reads ns 0 f → 64 < height f → TooDeep ns
