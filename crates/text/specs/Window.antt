-- A window of a text, and how a cursor stands in it while the text is put.
use Rattle.std.specs.Prelude.{ℕ, ◌+◌, ◌-◌, ◌<◌, min, ◌≡◌, List, [], ◌∷◌, ◌++◌, length, get_or}
use Rattle.text.specs.Bytes.{joined, each}
use Rattle.text.specs.declared.Cursor.{Cursor}

-- out, of len bytes, shows the text from byte `from` on, with zeros behind its end; n is the number of the text's bytes in it
pub record Window (text : List ℕ) (from len : ℕ) (out : List ℕ) (n : ℕ) : Type 0 where
  pub long : length out ≡ len
  pub shows : (j : ℕ) → j < len → get_or out j 0 ≡ get_or text (from + j) 0
  pub count : n ≡ min len (length text - from)

-- so much of the text is put: what the cursor counts, and what out holds of it
pub record Written (from : ℕ) (text : List ℕ) (c : Cursor) (out : List ℕ) : Type 0 where
  pub skip : c.skip ≡ from - length text
  pub at : c.at ≡ min (length out) (length text - from)
  pub holds : (j : ℕ) → j < c.at → get_or out j 0 ≡ get_or text (from + j) 0

-- before the first byte
pub record Begun (from : ℕ) (c : Cursor) : Type 0 where
  pub none : (out : List ℕ) → Written from [] c out

-- some pieces more
pub record Puts (pieces : List (List ℕ)) (c : Cursor) (out : List ℕ) (c' : Cursor) (out' : List ℕ) : Type 0 where
  pub long : length out' ≡ length out
  pub more : (from : ℕ) (text : List ℕ) → Written from text c out → Written from (text ++ joined pieces) c' out'

-- the texts for 0, 1, .. up to n more
pub record Rows (f : ℕ → List ℕ) (n : ℕ) (c : Cursor) (out : List ℕ) (c' : Cursor) (out' : List ℕ) : Type 0 where
  pub puts : Puts (each f n ∷ []) c out c' out'

-- after the last
pub record Finished (c : Cursor) (out : List ℕ) (n : ℕ) (out' : List ℕ) : Type 0 where
  pub window : (from : ℕ) (text : List ℕ) → Written from text c out → Window text from (length out) out' n
