-- Numbers 5 and 6 in the order in which they are asked.
use Rattle.std.specs.Prelude.{ℕ, List, [], ◌∷◌}
use Rattle.base.specs.First.{Row, ◌when◌}
use Rattle.nodefile.specs.Layout.{name_count, names_of, pool_of}
use Rattle.names.specs.Names.{BadNames}
use Rattle.names.specs.Lists.{BadLists}

abbrev pub name_rows : List ℕ → List Row
name_rows bs =
    5 when BadNames (name_count bs) (names_of bs) (pool_of bs)
    ∷ 6 when BadLists bs
    ∷ []
