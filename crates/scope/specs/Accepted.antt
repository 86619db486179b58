-- A ready file with buffers that are long enough and blank: its records, or number 12.
use Rattle.std.specs.Prelude.{ℕ, ◌≤◌, ◌≡◌, List, length}
use Rattle.lexical.specs.Tree.{Forest}
use Rattle.lexical.specs.Third.{resolved}
use Rattle.nodefile.specs.Layout.{node_count, nodes_of}
use Rattle.nodefile.specs.Reads.{Reads}
use Rattle.nodefile.specs.FileOf.{file_of}
use Rattle.store.proofs.Laws.Points.{Zeros}
use Rattle.answer.specs.declared.Answer.{Answer}
use Rattle.answer.specs.Buffers.{Buffers}
use Rattle.scope.specs.Ready.{Ready}
use Rattle.scope.specs.Answer.{ManySlots, Refused, Given}

pub record Roomy (b : Buffers) : Type 0 where
  pub nodes : 2048 ≤ length b.nodes
  pub bindings : 2304 ≤ length b.bindings
  pub entries : 2304 ≤ length b.entries
  pub scopes : 256 ≤ length b.scopes
  pub slots : 4096 ≤ length b.slots
  pub copies : 4096 ≤ length b.copies
  pub errors : 2048 ≤ length b.errors

pub record Blank (b : Buffers) : Type 0 where
  pub nodes : Zeros b.nodes
  pub bindings : Zeros b.bindings
  pub entries : Zeros b.entries
  pub scopes : Zeros b.scopes
  pub slots : Zeros b.slots
  pub copies : Zeros b.copies
  pub errors : Zeros b.errors

pub record PreAccepted (bs : List ℕ) (b : Buffers) : Type 0 where
  pub roomy : Roomy b
  pub blank : Blank b
  pub root : Forest
  pub ready : Ready bs root

pub data Accepting (bs : List ℕ) (b : Buffers) (a : Answer) (b' : Buffers) : Type 0 where
  many : a.number ≡ 12 → ManySlots bs → Refused b a b' → Accepting bs b a b'
  few : a.number ≡ 0 → ((root : Forest) → Reads (nodes_of bs) 0 root → length (resolved (file_of bs root)).slots ≤ 4096 × Given (file_of bs root) (node_count bs) b a b') → Accepting bs b a b'
