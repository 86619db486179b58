-- A file that 2 to 4, 7 and 8 let pass.
use Rattle.std.specs.Prelude.{ℕ, List}
use Rattle.nodefile.specs.Layout.{name_count, nodes_of}
use Rattle.header.specs.Header.{HeaderOk}
use Rattle.shape.specs.Nodes.{BadNodes}
use Rattle.shape.specs.Children.{BadChildren}

pub record Shaped (bs : List ℕ) : Type 0 where
  pub header : HeaderOk bs
  pub nodes : BadNodes (name_count bs) (nodes_of bs) → ⊥
  pub children : BadChildren (nodes_of bs) → ⊥
