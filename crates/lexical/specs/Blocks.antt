-- Which block a Name belongs to, outward from the Name over the tree, and what a block makes of a name: without walks, slots or numbers. Read with Whole.
use Rattle.std.specs.Prelude.{◌≡◌, List, [], ◌∷◌, Bool, true, false, cond, ◌&&◌, ◌||◌, ℕ, zero, suc, ◌+◌, eqb, leb}
use Rattle.std.proofs.Math.Option.{Option, none, some}
use Rattle.std.proofs.Math.ListN.{get_elem?}
use Rattle.lexical.specs.Lists.{first, count}
use Rattle.lexical.specs.Tree.{plain, Forest, is_fn, is_compr, is_name, listed, pick}
use Rattle.lexical.specs.Binders.{Target, Var, collect, unmarked}
use Rattle.lexical.specs.Module.{Entry, File}
use Rattle.lexical.specs.Meaning.{Around, owner_of, declares}
use Rattle.lexical.specs.State.{Binding}
use Rattle.lexical.specs.First.{next_slot, start}
use Rattle.lexical.specs.Third.{resolved}
use Rattle.lexical.specs.Records.{bit, name_row}
use Rattle.lexical.specs.Claims.{ancestors}

-- each Name of a tree: its node, its name
unfoldable pub named_in : Forest → List (ℕ × ℕ)
named_in f = listed (λ k. is_name (pick k)) (λ at k v kids. (at, v)) f

-- the module's block; or a function's or a comprehension's: the scope that owns its variables, its targets
pub data Block : Type 0 where
  of_module : Block
  of_scope : ℕ → List Target → Block

-- the innermost Def, Lambda or Compr around a place
unfoldable pub block_around : List Around → Block
block_around [] = of_module
block_around (a ∷ up) = cond (is_fn a.way || is_compr a.way) (of_scope (owner_of a.way a.scope up) a.targets) (block_around up)

-- a Name's block: a Def's own name, its first child, belongs to the block around the Def
unfoldable pub block_of : List Around → Block
block_of [] = of_module
block_of (a ∷ up) = cond (is_fn a.way && a.first) (block_around up) (block_around (a ∷ up))

-- document 01's class of a Name: 1 of the module, 2 local
unfoldable pub class_of : Block → ℕ
class_of of_module = 1
class_of (of_scope s ts) = 2

-- some target of name n is visible
unfoldable pub shows : ℕ → List Target → Bool
shows n [] = false
shows n (t ∷ ts) = (eqb t.name n && t.public) || shows n ts

-- how often n is bound; is its first target in a loop or a comprehension
unfoldable pub bound : ℕ → List Target → ℕ
bound n ts = count (λ (t : Target). eqb t.name n) ts

unfoldable pub looped : Option Target → Bool
looped none = false
looped (some t) = t.any

unfoldable pub first_looped : ℕ → List Target → Bool
first_looped n ts = looped (first (λ t. eqb t.name n) ts)

-- a module entry of name n, if there is one: it is there; it is Public
unfoldable pub entry_of : ℕ → List Entry → Option Entry
entry_of n es = first (λ e. eqb e.name n) es

unfoldable pub is_entry : Option Entry → Bool
is_entry none = false
is_entry (some e) = true

unfoldable pub entry_public : Option Entry → Bool
entry_public none = false
entry_public (some e) = e.public

-- declared by the entry (65,535), or else by the first Name of the block
unfoldable pub source_of : Option Entry → ℕ → List Target → Option ℕ
source_of none n ts = declares n ts
source_of (some e) n ts = some 65535

-- the variable that an entry, if there is one, and a block's targets make of the name n: Public if the entry is or some target shows it;
-- any if bound more than once, the entry counted, or first in a loop or a comprehension
pub record Makes (e : Option Entry) (ts : List Target) (n : ℕ) (v : Var) : Type 0 where
  pub name_is : v.name ≡ n
  pub source_is : source_of e n ts ≡ some v.source
  pub entry_is : v.entry ≡ is_entry e
  pub public_is : v.public ≡ (entry_public e || shows n ts)
  pub any_is : v.any ≡ (leb 2 (bit (is_entry e) + bound n ts) || first_looped n ts)

-- what the module's block collects
abbrev pub module_targets : File → List Target
module_targets F = collect F.names unmarked F.root

-- the binding of name n in a block: a module binding, or a local of the scope that owns the block's variables
unfoldable pub BoundIn : File → ℕ → Block → Binding → Type 0
BoundIn F n of_module b = (b.local ≡ false) × Makes (entry_of n F.entries) (module_targets F) n b.var
BoundIn F n (of_scope s ts) b = (b.local ≡ true) × (b.owner ≡ s) × Makes none ts n b.var

-- Name x of name n: the nodes around it, and the binding that its block makes of its name; its record has the block's class, that binding's slot and number
pub record NameTold (F : File) (x n : ℕ) : Type 0 where
  pub up : List Around
  pub above : ancestors F.names x F.root plain 0 [] true [] ≡ some up
  pub binding : Binding
  pub known : get_elem? (resolved F).made binding.id ≡ some binding
  pub bound_so : BoundIn F n (block_of up) binding
  pub place : ℕ
  pub row : get_elem? (resolved F).named place ≡ some (record { node = x; of = some binding })
  pub answered : name_row x (some binding) ≡ x ∷ class_of (block_of up) ∷ binding.slot ∷ binding.id ∷ []

-- the slots of the first i bindings, last first, upon those that were taken before
unfoldable pub slots_before : ℕ → List Binding → List ℕ → List ℕ
slots_before zero bs taken = taken
slots_before (suc i) [] taken = taken
slots_before (suc i) (b ∷ bs) taken = slots_before i bs (b.slot ∷ taken)

-- module binding i: what the module's block makes of its name; an entry keeps its slot, a new one gets the next
pub record ModuleTold (F : File) (i : ℕ) (b : Binding) : Type 0 where
  pub listed_so : get_elem? (start F).made i ≡ some b
  pub makes : Makes (entry_of b.var.name F.entries) (module_targets F) b.var.name b.var
  pub kept : (e : Entry) → get_elem? F.entries i ≡ some e → b.slot ≡ e.slot
  pub next : get_elem? F.entries i ≡ none → b.slot ≡ next_slot (slots_before i (start F).made [])
