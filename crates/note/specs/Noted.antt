-- The lists of a file in the working lists, before the walks: its module entries' bindings, its names, its globals.
use Rattle.std.specs.Prelude.{ℕ, ◌<◌, ◌≤◌, ◌≡◌, false, cond, List, [], eqb, length, get_or}
use Rattle.base.specs.UpTo.{up_to}
use Rattle.lexical.specs.Lists.{place}
use Rattle.lexical.specs.Binders.{Var}
use Rattle.lexical.specs.Module.{File}
use Rattle.lexical.specs.Records.{bit}
use Rattle.nodefile.specs.Layout.{name_count, entry_count, global_count, entries_of, globals_of}
use Rattle.nodefile.specs.Lists.{entry_name, global_name}
use Rattle.nodefile.specs.FileOf.{name_rules}
use Rattle.store.specs.Sections.{plus, mod_at, hidden_at}
use Rattle.store.specs.Image.{MadeIn}
use Rattle.store.specs.Meanings.{NamesIn}
use Rattle.store.specs.Blocks.{BlockEnv, module_block, placed_from, bindings_of, vars_of, titles}
use Rattle.note.specs.Filled.{Filled}

-- what judging leaves of the lists of a file
pub record ListsOk (bs : List ℕ) : Type 0 where
  pub names : name_count bs ≤ 1024
  pub entries : entry_count bs ≤ 256
  pub globals : global_count bs ≤ 256
  pub entry_name_lem : (k : ℕ) → k < entry_count bs → entry_name (entries_of bs) k < 1024
  pub global_name_lem : (k : ℕ) → k < global_count bs → global_name (globals_of bs) k < 1024
  pub apart : (j k : ℕ) → j < k → k < entry_count bs → entry_name (entries_of bs) j ≡ entry_name (entries_of bs) k → ⊥

-- ---- one list after the other: its section is filled

-- which names begin with `_`: those past the file's names do not
abbrev pub HiddenNoted : List ℕ → List ℕ → List ℕ → Type 0
HiddenNoted bs t t' = Filled hidden_at 1024 (λ n. bit ((name_rules bs).hidden n)) t t'

-- one more than each name's first place among `names`; 0 for a name that is not there
abbrev pub NumbersNoted : ℕ → List ℕ → List ℕ → List ℕ → Type 0
NumbersNoted base names t t' = Filled base 1024 (λ n. plus (place n names)) t t'

-- the first number stays
abbrev pub unless_noted : ℕ → ℕ → ℕ
unless_noted old new = cond (eqb old 0) new old

-- the names of the first k globals
abbrev pub globals_up_to : List ℕ → ℕ → List ℕ
globals_up_to bs k = up_to (global_name (globals_of bs)) k

-- the bindings of a block's variables vs, and the numbers of their names
pub record Entered (E : BlockEnv) (vs : List Var) (t binds' t' : List ℕ) : Type 0 where
  pub made : MadeIn (placed_from E 0 vs) (λ _. false) binds' t'
  pub names : NumbersNoted mod_at (titles vs) t t'

-- ---- all of them

pub record Noted (F : File) (n : ℕ) (binds t : List ℕ) : Type 0 where
  pub count : n ≡ length F.entries
  pub made : MadeIn (bindings_of (module_block F) []) (λ _. false) binds t
  pub names : NamesIn F (titles (vars_of (module_block F) [])) t
  pub clear_low : (i : ℕ) → i < 1024 → get_or t i 0 ≡ 0
  pub clear_high : (i : ℕ) → 4096 ≤ i → i < 20863 → get_or t i 0 ≡ 0
