-- A part of the node list that holds trees.
use Rattle.std.specs.Prelude.{ℕ, List}
use Rattle.lexical.specs.Tree.{Forest}
use Rattle.nodefile.specs.Reads.{Reads}

pub record Held (t : List ℕ) : Type 0 where
  pub at : ℕ
  pub forest : Forest
  pub reads : Reads t at forest
