-- Numbers given back (document 01): the conditions in the order in which they are asked, and what judging answers.
use Rattle.std.specs.Prelude.{ℕ, List, ◌++◌}
use Rattle.base.specs.First.{Row, First}
use Rattle.header.specs.Header.{header_rows}
use Rattle.names.specs.Rows.{name_rows}
use Rattle.shape.specs.Rows.{shape_rows}
use Rattle.scoping.specs.Rows.{scope_rows}

-- document 01's table: 2, 3, 4, then 5, 6, then 7, 8, then 9, 10, 11; judging leaves 1 and 12 off
abbrev pub judging : List ℕ → List Row
judging bs = header_rows bs ++ (name_rows bs ++ (shape_rows bs ++ scope_rows bs))

-- r is the first number whose condition holds, 0 if none; `first_one` says that no second answer fits, `judged_smallest` that r is the smallest
abbrev pub Judged : List ℕ → ℕ → Type 0
Judged bs r = First (judging bs) r
