-- A name is looked up: what it comes to, and how that is kept.
use Rattle.std.specs.Prelude.{ℕ, zero, suc, ◌+◌, ◌<◌, ◌≤◌, ◌≡◌, Bool, true, cond, not, ◌&&◌, ◌||◌, List, eqb, length, set, Result, Ok, Err, MatchResult}
use Rattle.std.proofs.Math.Option.{Option, none, some}
use Rattle.std.proofs.Math.ListN.{get_elem?}
use Rattle.lexical.specs.Lists.{first}
use Rattle.lexical.specs.Tree.{top}
use Rattle.lexical.specs.Module.{Outer, module', global, missing, outer}
use Rattle.lexical.specs.State.{Binding, St, Found, local, refused, outside}
use Rattle.lexical.specs.Block.{called}
use Rattle.lexical.specs.Third.{bring, logged, look_found}
use Rattle.lexical.specs.Records.{captures_found, slot_of}
use Rattle.lexical.proofs.Laws.Adds.{FoundBelow}
use Rattle.store.specs.declared.ids.State.{State}
use Rattle.store.specs.declared.ids.Full.{Full}
use Rattle.store.specs.declared.ids.Resolved.{Resolved}
use Rattle.store.specs.declared.ids.Resolution.{Resolution}
use Rattle.store.specs.declared.ids.Resolution.TheVariants as res
use Rattle.store.specs.declared.ids.Slot.{Slot}
use Rattle.store.specs.declared.ids.Slot.TheVariants as slot
use Rattle.store.specs.Words.{answer_word, pair_word}
use Rattle.lookup.specs.declared.name.Fault.{Fault}
use Rattle.lookup.specs.declared.name.Fault.TheVariants as fault
use Rattle.store.specs.Sections.{Mem, mem}
use Rattle.store.specs.Rel.{World, Rel, R, Over, caps}

-- document 01's "a local or module slot, a global, or one of the two errors", of what `lexical` finds; M: the module's bindings
unfoldable pub res_of : List Binding → Found → Resolution
res_of M (local b k) = res.Slot (slot.Local (record { 0 = k })) (record { 0 = b.id })
res_of M (refused b k) = res.LocalInType
res_of M (outside (module' i)) = res.Slot (slot.Module (record { 0 = slot_of (get_elem? M i) })) (record { 0 = i })
res_of M (outside (global g)) = res.Global g
res_of M (outside missing) = res.NotFound

-- what a lookup finds, and the state after it, before it is logged
unfoldable pub looked : Option Binding → Outer → List ℕ → Bool → St → Found × St
looked none o ss ty st = (outside o, st)
looked (some b) o ss ty st = let r = bring ss b st in (cond ty (refused b r.0) (local b r.0), r.1)

-- the bindings that count as captured once f is found
abbrev pub caps_with : (ℕ → Bool) → List ℕ → Found → ℕ → Bool
caps_with cap ss f i = cap i || captures_found i ss f

-- what is noted of a global: its number (+ 1), or 0
unfoldable pub as_global : ℕ → Resolution
as_global zero = res.NotFound
as_global (suc g) = res.Global g

-- a slot that fits its record, and the record
abbrev pub SmallSlot : Slot → Type 0
SmallSlot (slot.Module k) = k.0 < 32768
SmallSlot (slot.Local k) = k.0 < 32768

abbrev pub slot_answer : Slot → ℕ → ℕ
slot_answer (slot.Module k) id = answer_word 1 k.0 id
slot_answer (slot.Local k) id = answer_word 2 k.0 id

-- the code of an error
abbrev pub code_of : Fault → ℕ
code_of fault.NotFound = 1
code_of fault.LocalInType = 2

-- an error more, or no room for it
pub record ErrorAdded (at code : ℕ) (s : State) (w : List ℕ) (r : Result State Full) (w' : List ℕ) : Type 0 where
  pub kept : s.errors < 2048 → (w' ≡ set w (10240 + s.errors) (pair_word at code)) × (r ≡ Ok (record { bindings = s.bindings; slots = s.slots; copies = s.copies; errors = s.errors + 1; level = s.level }))
  pub none_left : 2048 ≤ s.errors → r ≡ Err (record {})

-- what found numbers are below, so that their record holds them
unfoldable pub Small : List Binding → Found → Type 0
Small M (local b k) = k < 4096
Small M (refused b k) = Unit {0}
Small M (outside (module' i)) = slot_of (get_elem? M i) < 32768
Small M (outside (global g)) = g < 32768
Small M (outside missing) = Unit {0}

-- the module's names have bindings, and a function's variables are its own
pub record Settled (W : World) : Type 0 where
  pub mods_made : length W.mods ≤ length W.M
  pub owners : (s k : ℕ) (b : Binding) → get_elem? (W.D s) k ≡ some b → b.owner ≡ s
  pub few_globals : length W.F.globals ≤ 256

-- a local b, whose capture is noted
pub record Capturing (id level : ℕ) (binds t : List ℕ) : Type 0 where
  pub W : World
  pub env : List Binding
  pub ss : List ℕ
  pub cap : ℕ → Bool
  pub st : St
  pub s : State
  pub w : List ℕ
  pub b : Binding
  pub rel : Rel W env ss cap st s (mem binds w t)
  pub stands : get_elem? st.made b.id ≡ some b
  pub number : id ≡ b.id
  pub level_is : level ≡ s.level

pub record Captured (id level : ℕ) (binds t binds' : List ℕ) : Type 0 where
  pub right : (g : Capturing id level binds t)
      → Rel g.W g.env g.ss (λ i. g.cap i || (eqb i g.b.id && not (eqb g.b.owner (top g.ss)))) g.st g.s (mem binds' g.w t)

-- a local that is looked up
pub record Locally (id : ℕ) (s : State) (m : Mem) : Type 0 where
  pub W : World
  pub env : List Binding
  pub ss : List ℕ
  pub st : St
  pub b : Binding
  pub rel : Rel W env ss (caps st) st s m
  pub stands : get_elem? st.made b.id ≡ some b
  pub local : b.local ≡ true
  pub number : id ≡ b.id

-- the answer is what x says
pub record Found' (W : World) (env : List Binding) (ss : List ℕ) (cap : ℕ → Bool) (x : Found × St) (r : Resolved) (m' : Mem) : Type 0 where
  pub rel : Rel W env ss (caps_with cap ss x.0) x.1 r.st m'
  pub is : r.res ≡ res_of W.M x.0
  pub small : Small W.M x.0
  pub below : FoundBelow (length x.1.made) x.0

-- .. or a list was full
abbrev pub FoundOr : World → List Binding → List ℕ → (ℕ → Bool) → Found × St → Result Resolved Full → Mem → Type 0
FoundOr W env ss cap x r m' = MatchResult r (λ v. Found' W env ss cap x v m') (λ _. Over x.1)

pub record LocalDone (id : ℕ) (ty : Bool) (s : State) (m : Mem) (r : Result Resolved Full) (m' : Mem) : Type 0 where
  pub right : (g : Locally id s m) (o : Outer) → FoundOr g.W g.env g.ss (caps g.st) (looked (some g.b) o g.ss ty g.st) r m'

-- a module name that is looked up: its binding's number i
pub record InModule (i : ℕ) (s : State) (binds : List ℕ) : Type 0 where
  pub W : World
  pub env : List Binding
  pub ss : List ℕ
  pub st : St
  pub w : List ℕ
  pub t : List ℕ
  pub settled : Settled W
  pub rel : Rel W env ss (caps st) st s (mem binds w t)
  pub known : i < length W.mods

pub record ModuleDone (i : ℕ) (s : State) (binds : List ℕ) (r : Resolved) (binds' : List ℕ) : Type 0 where
  pub right : (g : InModule i s binds) → Found' g.W g.env g.ss (caps g.st) (outside (module' i), g.st) r (mem binds' g.w g.t)

-- a name that is looked up
pub record Named (name : ℕ) (s : State) (m : Mem) : Type 0 where
  pub W : World
  pub env : List Binding
  pub ss : List ℕ
  pub st : St
  pub settled : Settled W
  pub rel : Rel W env ss (caps st) st s m
  pub known : name < 1024

pub record NamedDone (name : ℕ) (ty : Bool) (s : State) (m : Mem) (r : Result Resolved Full) (m' : Mem) : Type 0 where
  pub right : (g : Named name s m)
      → FoundOr g.W g.env g.ss (caps g.st) (looked (first (called name) g.env) (outer g.W.mods g.W.F.globals name) g.ss ty g.st) r m'

-- an outcome that is kept
pub record Keeping (at : ℕ) (r : Resolution) (s : State) (w : List ℕ) : Type 0 where
  pub W : World
  pub env : List Binding
  pub ss : List ℕ
  pub st : St
  pub f : Found
  pub binds : List ℕ
  pub t : List ℕ
  pub rel : Rel W env ss (caps_with (caps st) ss f) st s (mem binds w t)
  pub is : r ≡ res_of W.M f
  pub small : Small W.M f
  pub below : FoundBelow (length st.made) f
  pub node : at < 2048

pub record Kept (at : ℕ) (res : Resolution) (s : State) (w : List ℕ) (r : Result State Full) (w' : List ℕ) : Type 0 where
  pub right : (g : Keeping at res s w) (name : ℕ) → R g.W g.env g.ss (logged at name g.ss g.f g.st) r (mem g.binds w' g.t)

-- an Ident
pub record Ident (name at : ℕ) (s : Result State Full) (m : Mem) : Type 0 where
  pub W : World
  pub env : List Binding
  pub ss : List ℕ
  pub st : St
  pub settled : Settled W
  pub rel : R W env ss st s m
  pub known : name < 1024
  pub node : at < 2048

pub record IdentDone (name at : ℕ) (ty : Bool) (s : Result State Full) (m : Mem) (r : Result State Full) (m' : Mem) : Type 0 where
  pub right : (g : Ident name at s m)
      → R g.W g.env g.ss
      (look_found (first (called name) g.env) (outer g.W.mods g.W.F.globals name) at name (record { env = g.env; scopes = g.ss; ty = ty }) g.st) r m'
