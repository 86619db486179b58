-- The words of the theorems: what the six buffers, and an Ident's record, say of a node. Read with Theorems.
use Rattle.std.specs.Prelude.{ℕ, ◌+◌, ◌≤◌, ◌<◌, ◌≡◌, Bool, true, List, ltb, get_or}
use Rattle.std.proofs.Math.Option.{some}
use Rattle.base.specs.Table.{both}
use Rattle.lexical.specs.Module.{File, outer_of}
use Rattle.lexical.specs.Meaning.{Around, Site, Meaning, meaning}
use Rattle.nodefile.specs.Layout.{node_count, nodes_of}
use Rattle.nodefile.specs.Listed.{kind_at, value_at}
use Rattle.answer.specs.Buffers.{Buffers}
use Rattle.answer.specs.Records.{node_class, node_slot, node_binding}
use Rattle.promise.specs.Shown.{nodes_around}
use Rattle.readers.specs.Keys.{is_ident, of_binding, of_global}
use Rattle.readers.specs.Lists.{Lists}

-- node x stands in the part of the flat list that starts and counts give to number k
pub record InList (starts counts list : List ℕ) (k x : ℕ) : Type 0 where
  pub place : ℕ
  pub from : get_or starts k 0 ≤ place
  pub below : place < get_or starts k 0 + get_or counts k 0
  pub is : get_or list place 0 ≡ x

-- in the list of binding k; in that of global g
abbrev pub OfBinding : Lists → ℕ → ℕ → Type 0
OfBinding l k x = InList l.starts l.counts l.list k x

abbrev pub OfGlobal : Lists → ℕ → ℕ → Type 0
OfGlobal l g x = InList l.global_starts l.global_counts l.global_list g x

-- the fields of node x
abbrev pub class_of : Buffers → ℕ → ℕ
class_of b x = node_class (get_or b.nodes x 0)

abbrev pub slot_of : Buffers → ℕ → ℕ
slot_of b x = node_slot (get_or b.nodes x 0)

abbrev pub binding_of : Buffers → ℕ → ℕ
binding_of b x = node_binding (get_or b.nodes x 0)

-- node x is an Ident
pub record Ident (bs : List ℕ) (x : ℕ) : Type 0 where
  pub known : x < node_count bs
  pub kind : kind_at (nodes_of bs) x ≡ 11

-- one whose record names binding k; global g
pub record ToBinding (bs : List ℕ) (b : Buffers) (k x : ℕ) : Type 0 where
  pub ident : Ident bs x
  pub class : of_binding (class_of b x) ≡ true
  pub binding : binding_of b x ≡ k

pub record ToGlobal (bs : List ℕ) (b : Buffers) (g x : ℕ) : Type 0 where
  pub ident : Ident bs x
  pub class : of_global (class_of b x) ≡ true
  pub global : slot_of b x ≡ g

-- one whose meaning, among the nodes around it, is m
pub record Means (bs : List ℕ) (F : File) (m : Meaning) (x : ℕ) : Type 0 where
  pub ident : Ident bs x
  pub up : List Around
  pub above : nodes_around F x ≡ some up
  pub means : let s : Site = record { node = x; name = value_at (nodes_of bs) x; above = up } in meaning (outer_of F) s ≡ m

-- whether node x is an Ident with such a class
abbrev pub ident_with : (ℕ → Bool) → List ℕ → Buffers → ℕ → Bool
ident_with class bs b x = both (is_ident (kind_at (nodes_of bs) x)) (class (class_of b x))

-- any class but 0
abbrev pub resolved_class : ℕ → Bool
resolved_class c = ltb 0 c
