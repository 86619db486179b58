-- The rows of the table as the code has them, and the children of a node against them, one place after the other.
use Rattle.std.specs.Prelude.{ℕ, ◌≤◌, List, length}
use Rattle.lexical.specs.Table.{Item, one, opt, many}
use Rattle.nodefile.specs.Kinds.{number}
use Rattle.nodefile.specs.Node.{kind_of}
use Rattle.shape.specs.declared.children.Kinds.{Kinds}
use Rattle.shape.specs.declared.children.Item.{Item as Place}
use Rattle.shape.specs.declared.children.Item.TheVariants as place

-- a place of a row, as document 01's table has it
abbrev pub place_of : Place → Item
place_of (place.One k) = one (number k.0) (number k.1)
place_of (place.Opt k) = opt (number k.0) (number k.1)
place_of (place.Many k) = many (number k.0) (number k.1)

-- a part starts with a node of one of the kinds
abbrev pub HeadIn : List ℕ → Kinds → Type 0
HeadIn t k = (8 ≤ length t) × (number k.0 ≤ kind_of t) × (kind_of t ≤ number k.1)
