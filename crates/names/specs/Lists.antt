-- Number 6 of document 01: the module entries and the globals, each as the list of its name numbers.
use Rattle.std.specs.Prelude.{ℕ, ◌≤◌, List}
use Rattle.lexical.specs.Places.{In, Distinct}
use Rattle.nodefile.specs.Layout.{name_count}
use Rattle.nodefile.specs.FileOf.{entry_names, global_names}

-- of one list: no such name, or a name twice
pub data BadList (names : ℕ) (xs : List ℕ) : Type 0 where
  no_such_name : (x : ℕ) → In x xs → names ≤ x → BadList names xs
  twice : (Distinct xs → ⊥) → BadList names xs

-- 6: a module entry or global with no such name, or a name twice in one list
pub data BadLists (bs : List ℕ) : Type 0 where
  bad_entry : BadList (name_count bs) (entry_names bs) → BadLists bs
  bad_global : BadList (name_count bs) (global_names bs) → BadLists bs
