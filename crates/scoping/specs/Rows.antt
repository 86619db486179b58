-- Numbers 9 to 11 in the order in which they are asked.
use Rattle.std.specs.Prelude.{ℕ, List, [], ◌∷◌}
use Rattle.base.specs.First.{Row, ◌when◌}
use Rattle.nodefile.specs.Layout.{nodes_of}
use Rattle.scoping.specs.Depth.{TooDeep}
use Rattle.scoping.specs.Scopes.{BadScopes}
use Rattle.scoping.specs.Params.{BadParams}

abbrev pub scope_rows : List ℕ → List Row
scope_rows bs =
    9 when TooDeep (nodes_of bs)
    ∷ 10 when BadScopes (nodes_of bs)
    ∷ 11 when BadParams (nodes_of bs)
    ∷ []
