-- `note_entries` meets its contract: the first k entries are noted.
use mathlib.Core.Path.{◌≡◌}
use lib.ListN.{length}
use Rattle.lexical.specs.Tree.{Forest}
use Rattle.nodefile.specs.FileOf.{file_of}
use Rattle.store.specs.Blocks.{module_block}
use Rattle.note.specs.Noted.{Entered}
use Rattle.note.proofs.Entries.{first_vars}
use Rattle.note.proofs.note_entries.Given as goal

abbrev pub invariant-loop-k : goal.invariant-loop-k
invariant-loop-k l = (length l.binds ≡ length l.initial.binds) × ((root : Forest) → Entered (module_block (file_of l.file root)) (first_vars l.file l.k) l.initial.t l.binds l.t)
