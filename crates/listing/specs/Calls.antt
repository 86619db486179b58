-- What a function that puts a text is told of the function that puts a record's.
use Rattle.std.specs.Borrow.{MutBor}
use Rattle.std.specs.Prelude.{ℕ, ◌<◌, List, [], ◌∷◌}
use Rattle.text.specs.declared.Cursor.{Cursor}
use Rattle.text.specs.Window.{Puts}

-- each call at an i below n puts the text of i
abbrev pub PutsBelow : (MutBor (List ℕ) → Cursor → ℕ → Cursor → MutBor (List ℕ) → Type 0) → (ℕ → List ℕ) → ℕ → Type 0
PutsBelow post texts n = (w : _) (k : Cursor) (i : ℕ) (r : Cursor) (v : _) → i < n → post w k i r v → Puts (texts i ∷ []) k w.now r v.now
