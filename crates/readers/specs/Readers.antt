-- What `readers` answers (request P1, "Find every reader of a variable").
use Rattle.std.specs.Prelude.{ℕ, ◌≡◌, List, [], ◌∷◌, ◌++◌, length}
use Rattle.base.specs.First.{Row, ◌when◌, First}
use Rattle.lexical.specs.Tree.{Forest}
use Rattle.nodefile.specs.Layout.{node_count, global_count, nodes_of}
use Rattle.nodefile.specs.Reads.{Reads}
use Rattle.nodefile.specs.FileOf.{file_of}
use Rattle.answer.specs.declared.Answer.{Answer}
use Rattle.answer.specs.Buffers.{Buffers}
use Rattle.scope.specs.Answer.{resolving, Refused, Given}
use Rattle.group.specs.Grouped.{Grouped}
use Rattle.readers.specs.Keys.{binding_keys, global_keys}
use Rattle.readers.specs.Lists.{Lists, ShortLists, Cleared}

-- what is asked of the six buffers, "asked after 12"
abbrev pub list_rows : Lists → List Row
list_rows l = 13 when ShortLists l ∷ []

-- the conditions in the order in which they are asked: those of resolving, then 13
abbrev pub reading : List ℕ → Buffers → Lists → List Row
reading bs b l = resolving bs b ++ list_rows l

-- "for each binding of an accepted file, the Ident nodes resolved to it, in node order, held in lent buffers as a start (the sum of the counts before) and a count per binding over one flat list"
abbrev pub OfBindings : List ℕ → List ℕ → ℕ → Lists → Lists → Type 0
OfBindings bs nodes bindings l l' = Grouped (binding_keys bs nodes) bindings (length l.starts) (length l.counts) (length l.list) l'.starts l'.counts l'.list

-- "Globals get the same by global number"
abbrev pub OfGlobals : List ℕ → List ℕ → Lists → Lists → Type 0
OfGlobals bs nodes l l' = Grouped (global_keys bs nodes) (global_count bs) (length l.global_starts) (length l.global_counts) (length l.global_list) l'.global_starts l'.global_counts l'.global_list

-- of any bytes and any buffers: a is the answer, b' and l' are the buffers afterwards
pub record Readers (bs : List ℕ) (b : Buffers) (l : Lists) (a : Answer) (b' : Buffers) (l' : Lists) : Type 0 where
  -- "Refusals: 13 if a buffer is shorter .., asked after 12"
  pub number : First (reading bs b l) a.number
  -- "all buffers zero then": those of the answer, with its counts, and the six
  pub refused : (a.number ≡ 0 → ⊥) → Refused b a b'
  pub cleared : (a.number ≡ 0 → ⊥) → Cleared l l'
  -- an accepted file: the answer is that of resolving
  pub given : a.number ≡ 0 → (root : Forest) → Reads (nodes_of bs) 0 root → Given (file_of bs root) (node_count bs) b a b'
  pub of_bindings : a.number ≡ 0 → OfBindings bs b'.nodes a.bindings l l'
  pub of_globals : a.number ≡ 0 → OfGlobals bs b'.nodes l l'
