-- The file that a byte string stands for, as the theory of names has it, given the tree that its nodes hold.
use Rattle.std.specs.Prelude.{ℕ, List, eqb}
use Rattle.base.specs.UpTo.{up_to}
use Rattle.lexical.specs.Tree.{Forest}
use Rattle.lexical.specs.Binders.{Names}
use Rattle.lexical.specs.Module.{Entry, File}
use Rattle.nodefile.specs.Layout.{reexport, entry_count, global_count, names_of, entries_of, globals_of, pool_of}
use Rattle.nodefile.specs.Lists.{hidden, entry_name, entry_public, entry_slot, global_name}

abbrev pub entry_of : List ℕ → ℕ → Entry
entry_of es k = record { name = entry_name es k; public = eqb (entry_public es k) 1; slot = entry_slot es k }

-- the name numbers of the module entries, and of the globals
abbrev pub entry_names : List ℕ → List ℕ
entry_names bs = up_to (entry_name (entries_of bs)) (entry_count bs)

abbrev pub global_names : List ℕ → List ℕ
global_names bs = up_to (global_name (globals_of bs)) (global_count bs)

abbrev pub name_rules : List ℕ → Names
name_rules bs = record { hidden = hidden (names_of bs) (pool_of bs); reexport = eqb (reexport bs) 1 }

abbrev pub file_of : List ℕ → Forest → File
file_of bs root =
    record {
      names = name_rules bs;
      entries = up_to (entry_of (entries_of bs)) (entry_count bs);
      globals = global_names bs;
      root = root;
    }
