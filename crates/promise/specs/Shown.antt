-- The words of the theorems on bytes: what an answer's buffers, read field by field (document 01, "Answer buffers"), say of an Ident, of a Name, of a binding. Read with Theorems.
use Rattle.std.specs.Prelude.{ℕ, ◌<◌, ◌≡◌, ◌↔◌, true, List, [], ◌∷◌, map, reverse, get_or, take}
use Rattle.std.proofs.Math.Option.{Option, some}
use Rattle.std.proofs.Math.ListN.{get_elem?}
use Rattle.bits.specs.Pack.{values, unpack}
use Rattle.lexical.specs.Lists.{or_else}
use Rattle.lexical.specs.Places.{Some}
use Rattle.lexical.specs.Tree.{plain}
use Rattle.lexical.specs.Binders.{collect, unmarked}
use Rattle.lexical.specs.Module.{File, entry_var, module', global, missing, outer_of}
use Rattle.lexical.specs.Meaning.{Around, Site, Meaning, local, refused, outside, meaning, declares, declared, scopes_of}
use Rattle.lexical.specs.Records.{Records}
use Rattle.lexical.specs.Claims.{ancestors, sites_of, source, NotModule, NotGlobal, Across, Inside}
use Rattle.follow.specs.Place.{followed, place_of}
use Rattle.answer.specs.declared.Answer.{Answer}
use Rattle.answer.specs.Buffers.{Buffers}
use Rattle.answer.specs.Fields.{fields}
use Rattle.answer.specs.Records.{binding_name, binding_source, binding_captured, binding_local, binding_slot, binding_widths, entry_widths, pair_widths, copy_widths, node_widths}

-- node x: class, slot or global, binding
abbrev pub node_fields : Buffers → ℕ → List ℕ
node_fields b x = unpack node_widths (get_or b.nodes x 0)

-- error j: node, code
abbrev pub error_fields : Buffers → ℕ → List ℕ
error_fields b j = unpack pair_widths (get_or b.errors j 0)

-- binding k: name, source, from-module, public, any, captured, local, slot, zero
abbrev pub binding_fields : Buffers → ℕ → List ℕ
binding_fields b k = unpack binding_widths (get_or b.bindings k 0)

abbrev pub name_of : Buffers → ℕ → ℕ
name_of b k = binding_name (get_or b.bindings k 0)

abbrev pub source_of : Buffers → ℕ → ℕ
source_of b k = binding_source (get_or b.bindings k 0)

abbrev pub captured_of : Buffers → ℕ → ℕ
captured_of b k = binding_captured (get_or b.bindings k 0)

abbrev pub local_of : Buffers → ℕ → ℕ
local_of b k = binding_local (get_or b.bindings k 0)

abbrev pub slot_of : Buffers → ℕ → ℕ
slot_of b k = binding_slot (get_or b.bindings k 0)

-- the copies' records
abbrev pub copy_records : Answer → Buffers → List ℕ
copy_records a b = take a.copies b.copies

-- binding k of the answer is of this name, declared by this Name, a local (1) or not (0), and has this slot
pub record BindingShown (a : Answer) (b : Buffers) (k name source local slot : ℕ) : Type 0 where
  pub known : k < a.bindings
  pub name_is : name_of b k ≡ name
  pub source_is : source_of b k ≡ source
  pub local_is : local_of b k ≡ local
  pub slot_is : slot_of b k ≡ slot

-- ---- T1: an Ident

-- one that means the local which Name d of scope o declares: a slot of the Ident's own scope, from which the copies lead to that local's slot in o
pub record LocalShown (a : Answer) (b : Buffers) (s : Site) (o d : ℕ) : Type 0 where
  pub slot : ℕ
  pub binding : ℕ
  pub own : ℕ
  pub answered : node_fields b s.node ≡ 2 ∷ slot ∷ binding ∷ []
  pub shown : BindingShown a b binding s.name d 1 own
  pub home : followed (copy_records a b) (reverse (scopes_of s.above)) slot ≡ place_of (o, own)

-- one that means module binding i: an entry's, or else that of the first Name of the module that declares it
pub record ModuleShown (F : File) (a : Answer) (b : Buffers) (s : Site) (i : ℕ) : Type 0 where
  pub slot : ℕ
  pub declared-by : ℕ
  pub answered : node_fields b s.node ≡ 1 ∷ slot ∷ i ∷ []
  pub shown : BindingShown a b i s.name declared-by 0 slot
  pub sourced : or_else (source s.name (map entry_var F.entries)) (declares s.name (collect F.names unmarked F.root)) ≡ some declared-by

-- one that gives an error: nothing at its node, and a record among the errors
pub record ErrorShown (a : Answer) (b : Buffers) (s : Site) (code : ℕ) : Type 0 where
  pub empty : node_fields b s.node ≡ 0 ∷ 0 ∷ 0 ∷ []
  pub place : ℕ
  pub known : place < a.errors
  pub recorded : error_fields b place ≡ s.node ∷ code ∷ []

-- document 01: "An identifier's outcome is a local or module slot, a global, or one of the two errors"
unfoldable pub Shown : File → Answer → Buffers → Site → Meaning → Type 0
Shown F a b s (local d) = LocalShown a b s d.0 d.1
Shown F a b s (refused d) = ErrorShown a b s 2
Shown F a b s (outside (module' i)) = ModuleShown F a b s i
Shown F a b s (outside (global g)) = (node_fields b s.node ≡ 3 ∷ g ∷ 0 ∷ []) × (get_elem? F.globals g ≡ some s.name) × NotModule F s.name
Shown F a b s (outside missing) = ErrorShown a b s 1 × NotModule F s.name × NotGlobal F s.name

-- the nodes around node x, innermost first
abbrev pub nodes_around : File → ℕ → Option (List Around)
nodes_around F x = ancestors F.names x F.root plain 0 [] true []

-- an Ident of the file, by its node and name: the nodes around it, and what the buffers say of its meaning among them
pub record Told (F : File) (a : Answer) (b : Buffers) (x n : ℕ) : Type 0 where
  pub up : List Around
  pub above : nodes_around F x ≡ some up
  pub shown : let s : Site = record { node = x; name = n; above = up } in Shown F a b s (meaning (outer_of F) s)

-- ---- T1: a binding

-- captured: a local, if some Ident means it from another scope than its own; a module name, if some Ident inside a function means it
pub record CapturedShown (F : File) (b : Buffers) (k : ℕ) : Type 0 where
  pub of_local : local_of b k ≡ 1 → (captured_of b k ≡ 1) ↔ Some (λ (s : Site). (o : ℕ) × Across o (source_of b k) s) (sites_of F)
  pub of_module_lem : local_of b k ≡ 0 → (captured_of b k ≡ 1) ↔ Some (Inside (outer_of F) k) (sites_of F)

-- ---- T2

-- an Ident of name n among the nodes `up`, answered by slot k and binding i: the local that it means, and where the copies lead from the slot
pub record Homeward (a : Answer) (b : Buffers) (n : ℕ) (up : List Around) (k i : ℕ) : Type 0 where
  pub scope : ℕ
  pub name : ℕ
  pub means : declared n up ≡ some (scope, name)
  pub source_is : source_of b i ≡ name
  pub home : followed (copy_records a b) (reverse (scopes_of up)) k ≡ place_of (scope, slot_of b i)

-- ---- reading back

-- each record of a list, taken out of its buffer field by field, is the row that was packed: widths, rows, buffer
abbrev pub ReadsBack : List ℕ → List (List ℕ) → List ℕ → Type 0
ReadsBack ws rows l = (k : ℕ) (row : List ℕ) → get_elem? rows k ≡ some row → unpack ws (get_or l k 0) ≡ values (fields ws row)

-- the six lists
abbrev pub lists : Records → Buffers → List (List ℕ × List (List ℕ) × List ℕ)
lists R b =
    (binding_widths, R.bindings, b.bindings)
    ∷ (entry_widths, R.entries, b.entries)
    ∷ (pair_widths, R.scopes, b.scopes)
    ∷ (pair_widths, R.slots, b.slots)
    ∷ (copy_widths, R.copies, b.copies)
    ∷ (pair_widths, R.errors, b.errors)
    ∷ []

abbrev pub AllBack : List (List ℕ × List (List ℕ) × List ℕ) → Type 0
AllBack [] = Unit {0}
AllBack (l ∷ ls) = ReadsBack l.0 l.1 l.2 × AllBack ls
