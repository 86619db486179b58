-- What `resolve` answers (document 01, "Numbers given back" and "Answer buffers"): the number, the counts, and every buffer.
use Rattle.std.specs.Prelude.{ℕ, ◌<◌, ◌≡◌, List, [], ◌∷◌, ◌++◌, map, length}
use Rattle.base.specs.First.{Row, ◌when◌, First}
use Rattle.base.specs.UpTo.{up_to}
use Rattle.lexical.specs.Tree.{Forest}
use Rattle.lexical.specs.Module.{File}
use Rattle.lexical.specs.Third.{resolved}
use Rattle.lexical.specs.Records.{records}
use Rattle.nodefile.specs.Layout.{node_count, nodes_of}
use Rattle.nodefile.specs.Reads.{Reads}
use Rattle.nodefile.specs.FileOf.{file_of}
use Rattle.judge.specs.Cond.{judging}
use Rattle.answer.specs.declared.Answer.{Answer}
use Rattle.answer.specs.Buffers.{Buffers, Short, Front, Zeroed}
use Rattle.answer.specs.Records.{binding_of, entry_of, pair_of, copy_of}
use Rattle.scope.specs.Nodes.{node_answer}

-- number 12: all scopes together would need more than 4,096 slots
pub data ManySlots (bs : List ℕ) : Type 0 where
  too_many_slots : (root : Forest) → Reads (nodes_of bs) 0 root → 4096 < length (resolved (file_of bs root)).slots → ManySlots bs

-- what is asked of the buffers, before the file
abbrev pub buffer_rows : Buffers → List Row
buffer_rows b = 1 when Short b ∷ []

-- what is asked of a file that judging accepts
abbrev pub walk_rows : List ℕ → List Row
walk_rows bs = 12 when ManySlots bs ∷ []

-- the conditions in the order in which they are asked: the buffers', judging's, the walks'
abbrev pub resolving : List ℕ → Buffers → List Row
resolving bs b = buffer_rows b ++ (judging bs ++ walk_rows bs)

-- a refusal: all counts are zero, and every element of every buffer is
pub record Refused (b : Buffers) (a : Answer) (b' : Buffers) : Type 0 where
  pub bindings : a.bindings ≡ 0
  pub module_entries : a.module ≡ 0
  pub slots : a.slots ≡ 0
  pub copies : a.copies ≡ 0
  pub errors : a.errors ≡ 0
  pub zeroed : Zeroed b b'

-- an accepted file: each count is the length of its list, and each buffer holds its records from the front, then zeros
pub record Given (F : File) (n : ℕ) (b : Buffers) (a : Answer) (b' : Buffers) : Type 0 where
  pub bindings : a.bindings ≡ length (records F).bindings
  pub module_entries : a.module ≡ length (records F).entries
  pub slots : a.slots ≡ length (records F).slots
  pub copies : a.copies ≡ length (records F).copies
  pub errors : a.errors ≡ length (records F).errors
  pub nodes_hold : Front b'.nodes (length b.nodes) (up_to (node_answer F) n)
  pub bindings_hold : Front b'.bindings (length b.bindings) (map binding_of (records F).bindings)
  pub entries_hold : Front b'.entries (length b.entries) (map entry_of (records F).entries)
  pub scopes_hold : Front b'.scopes (length b.scopes) (map pair_of (records F).scopes)
  pub slots_hold : Front b'.slots (length b.slots) (map pair_of (records F).slots)
  pub copies_hold : Front b'.copies (length b.copies) (map copy_of (records F).copies)
  pub errors_hold : Front b'.errors (length b.errors) (map pair_of (records F).errors)

pub record Resolves (bs : List ℕ) (b : Buffers) (a : Answer) (b' : Buffers) : Type 0 where
  pub number : First (resolving bs b) a.number
  pub refused : (a.number ≡ 0 → ⊥) → Refused b a b'
  pub given : a.number ≡ 0 → (root : Forest) → Reads (nodes_of bs) 0 root → Given (file_of bs root) (node_count bs) b a b'
