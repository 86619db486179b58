-- A node's record: of the row that begins with its number.
use Rattle.std.specs.Prelude.{ℕ, Bool, List, [], ◌∷◌, ◌++◌, eqb, get_or}
use Rattle.std.proofs.Math.Option.{Option, none, some}
use Rattle.lexical.specs.Lists.{first}
use Rattle.lexical.specs.Module.{File}
use Rattle.lexical.specs.Records as rec
use Rattle.answer.specs.Records.{node_of}

unfoldable pub of_node : ℕ → List ℕ → Bool
of_node i row = eqb (get_or row 0 0) i

-- 0 for a node without a row
unfoldable pub answer_of : Option (List ℕ) → ℕ
answer_of none = 0
answer_of (some row) = node_of (get_or row 1 0 ∷ get_or row 2 0 ∷ get_or row 3 0 ∷ [])

unfoldable pub node_answer : File → ℕ → ℕ
node_answer F i = answer_of (first (of_node i) ((rec.records F).names ++ (rec.records F).answers))
