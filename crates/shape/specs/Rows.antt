-- Numbers 7 and 8 in the order in which they are asked.
use Rattle.std.specs.Prelude.{ℕ, List, [], ◌∷◌}
use Rattle.base.specs.First.{Row, ◌when◌}
use Rattle.nodefile.specs.Layout.{name_count, nodes_of}
use Rattle.shape.specs.Nodes.{BadNodes}
use Rattle.shape.specs.Children.{BadChildren}

abbrev pub shape_rows : List ℕ → List Row
shape_rows bs =
    7 when BadNodes (name_count bs) (nodes_of bs)
    ∷ 8 when BadChildren (nodes_of bs)
    ∷ []
