-- The words of the theorems' second part on bytes: what an answer's buffers say of each Name, of each binding's own fields, of its own slot, of a local that an Ident means, of each scope. Read with Whole.
use Rattle.std.specs.Prelude.{ℕ, zero, suc, ◌+◌, ◌<◌, ◌≡◌, ◌||◌, List, [], ◌∷◌, reverse, leb, get_or}
use Rattle.std.proofs.Math.Option.{Option, none, some}
use Rattle.std.proofs.Math.ListN.{get_elem?}
use Rattle.bits.specs.Pack.{unpack}
use Rattle.lexical.specs.Places.{In}
use Rattle.lexical.specs.Tree.{top}
use Rattle.lexical.specs.Binders.{Target}
use Rattle.lexical.specs.Module.{Entry, File}
use Rattle.lexical.specs.Meaning.{Around, Site, scopes_of}
use Rattle.lexical.specs.State.{Copy}
use Rattle.lexical.specs.First.{next_slot}
use Rattle.lexical.specs.Records.{bit}
use Rattle.lexical.specs.Blocks.{Block, of_module, of_scope, block_of, class_of, shows, bound, first_looped, entry_of, is_entry, entry_public, module_targets}
use Rattle.lexical.specs.Blocks as blocks
use Rattle.follow.specs.Place.{copies_of, followed, place_of}
use Rattle.answer.specs.declared.Answer.{Answer}
use Rattle.answer.specs.Buffers.{Buffers}
use Rattle.answer.specs.Records.{binding_entry, binding_public, binding_any, entry_widths, scope_params, scope_slots}
use Rattle.promise.specs.Shown.{node_fields, name_of, source_of, local_of, slot_of, copy_records, BindingShown, nodes_around}

-- binding k: from-module, public, any
abbrev pub entry_flag_of : Buffers → ℕ → ℕ
entry_flag_of b k = binding_entry (get_or b.bindings k 0)

abbrev pub public_of : Buffers → ℕ → ℕ
public_of b k = binding_public (get_or b.bindings k 0)

abbrev pub any_of : Buffers → ℕ → ℕ
any_of b k = binding_any (get_or b.bindings k 0)

-- module entry k: name, public, slot; scope s: parameter variables, slots
abbrev pub entry_fields : Buffers → ℕ → List ℕ
entry_fields b k = unpack entry_widths (get_or b.entries k 0)

abbrev pub params_of : Buffers → ℕ → ℕ
params_of b s = scope_params (get_or b.scopes s 0)

abbrev pub slots_of : Buffers → ℕ → ℕ
slots_of b s = scope_slots (get_or b.scopes s 0)

-- the copies that the records tell of
abbrev pub copies_shown : Answer → Buffers → List Copy
copies_shown a b = copies_of (copy_records a b)

-- ---- a binding's fields

-- binding k is what a module entry, if there is one, and a block's targets make of the name n: declared by the entry (65,535) or else by the first of them; Public if the entry is or some target shows it;
-- any if bound more than once, the entry counted, or first in a loop or a comprehension
pub record MadeShown (a : Answer) (b : Buffers) (k : ℕ) (e : Option Entry) (ts : List Target) (n local slot : ℕ) : Type 0 where
  pub known : k < a.bindings
  pub name_is : name_of b k ≡ n
  pub source_is : blocks.source_of e n ts ≡ some (source_of b k)
  pub entry_is : entry_flag_of b k ≡ bit (is_entry e)
  pub public_is : public_of b k ≡ bit (entry_public e || shows n ts)
  pub any_is : any_of b k ≡ bit (leb 2 (bit (is_entry e) + bound n ts) || first_looped n ts)
  pub local_is : local_of b k ≡ local
  pub slot_is : slot_of b k ≡ slot

-- slot k is one of scope s, no copy fills it, and following copies from it ends there at once, whatever is around
pub record OwnSlot (a : Answer) (b : Buffers) (s k : ℕ) : Type 0 where
  pub of_scope_lem : k < slots_of b s
  pub unfilled : (j : ℕ) (c : Copy) → get_elem? (copies_shown a b) j ≡ some c → c.scope ≡ s → c.child ≡ k → ⊥
  pub stops : (ss : List ℕ) → followed (copy_records a b) (reverse (s ∷ ss)) k ≡ place_of (s, k)

-- following from slot k through the scopes ss, innermost first, stops in one of them, at a slot that no copy fills: it never runs out of scopes
pub record StopsShown (a : Answer) (b : Buffers) (ss : List ℕ) (k : ℕ) : Type 0 where
  pub scope : ℕ
  pub slot : ℕ
  pub within : In scope ss
  pub led : followed (copy_records a b) (reverse ss) k ≡ place_of (scope, slot)
  pub unfilled : (j : ℕ) (c : Copy) → get_elem? (copies_shown a b) j ≡ some c → c.scope ≡ scope → c.child ≡ slot → ⊥

-- ---- a Name

-- binding k of name n in a block: the module's, or a local of the scope that owns the block's variables
unfoldable pub BlockShown : File → Answer → Buffers → ℕ → Block → ℕ → ℕ → Type 0
BlockShown F a b n of_module k slot = MadeShown a b k (entry_of n F.entries) (module_targets F) n 0 slot
BlockShown F a b n (of_scope s ts) k slot = MadeShown a b k none ts n 1 slot × OwnSlot a b s slot

-- a Name, by its node and name: the nodes around it say which block it belongs to; its record has the block's class, and the slot and the number of the binding that the block makes of its name
pub record NameSaid (F : File) (a : Answer) (b : Buffers) (x n : ℕ) : Type 0 where
  pub up : List Around
  pub above : nodes_around F x ≡ some up
  pub slot : ℕ
  pub binding : ℕ
  pub answered : node_fields b x ≡ class_of (block_of up) ∷ slot ∷ binding ∷ []
  pub said : BlockShown F a b n (block_of up) binding slot

-- ---- a binding

-- the slots of the bindings before k, last first
unfoldable pub slots_below : Buffers → ℕ → List ℕ
slots_below b zero = []
slots_below b (suc k) = slot_of b k ∷ slots_below b k

-- a module binding: what the module makes of its name; its record among the module entries; an entry keeps its slot, a new one gets the next
pub record ModuleSaid (F : File) (a : Answer) (b : Buffers) (k : ℕ) : Type 0 where
  pub made : MadeShown a b k (entry_of (name_of b k) F.entries) (module_targets F) (name_of b k) 0 (slot_of b k)
  pub listed : k < a.module
  pub entry : entry_fields b k ≡ name_of b k ∷ public_of b k ∷ slot_of b k ∷ []
  pub kept : (e : Entry) → get_elem? F.entries k ≡ some e → slot_of b k ≡ e.slot
  pub next : get_elem? F.entries k ≡ none → slot_of b k ≡ next_slot (slots_below b k)

-- ---- a local that an Ident means, refused in a type or not

-- a slot of the Ident's own scope, from which the copies lead to the slot of the local that Name d of scope o declares
pub record SlotSaid (a : Answer) (b : Buffers) (s : Site) (o d : ℕ) : Type 0 where
  pub slot : ℕ
  pub binding : ℕ
  pub own : ℕ
  pub of_scope_lem : slot < slots_of b (top (scopes_of s.above))
  pub shown : BindingShown a b binding s.name d 1 own
  pub home : followed (copy_records a b) (reverse (scopes_of s.above)) slot ≡ place_of (o, own)
