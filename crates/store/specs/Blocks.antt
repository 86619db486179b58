-- A block while its targets are collected, one after the other. `lexical` first merges all targets of a block into variables and then
-- gives each a number and a slot; the code does both target by target. The state in between: as if the targets met so far were all.
use Rattle.std.specs.Prelude.{ℕ, zero, suc, ◌+◌, ◌<◌, ◌≤◌, ◌≡◌, Bool, true, false, cond, List, [], ◌∷◌, ◌++◌, map, length, get_or, drop, Result, IfOk, IfErr}
use Rattle.std.proofs.Math.Option.{Option, none, some}
use Rattle.std.proofs.Math.ListN.{get_elem?}
use Rattle.lexical.specs.Lists.{place}
use Rattle.lexical.specs.Binders.{Target, Var, merge}
pub use Rattle.lexical.specs.Binders.{titles}
use Rattle.lexical.specs.Module.{Entry, File, entry_var}
use Rattle.lexical.specs.State.{Binding, Slot, St}
use Rattle.lexical.specs.Block.{fresh, slot_for, name_of}
use Rattle.lexical.specs.First.{entry_slot}
use Rattle.store.specs.declared.ids.State.{State}
use Rattle.store.specs.declared.ids.Full.{Full}
use Rattle.store.specs.Sections.{Mem, block_at}
use Rattle.store.specs.Meanings.{EnvIn, RangesIn}
use Rattle.store.specs.Rel.{World, Rel, Over, caps}

-- a block: its scope, its first binding's number, whether its variables are locals, the slot of its k-th variable,
-- the variables that it has before its first target, and the state before it
pub record BlockEnv : Type 0 where
  pub scope : ℕ
  pub first : ℕ
  pub local : Bool
  pub slot_at : ℕ → ℕ
  pub vars : List Var
  pub st : St

-- a function's or a comprehension's block in scope s
unfoldable pub local_block : ℕ → St → BlockEnv
local_block s st = record { scope = s; first = length st.made; local = true; slot_at = λ k. fresh s st + k; vars = []; st = st }

-- the slot of the k-th module entry: an old one keeps its slot
unfoldable pub module_slot : List ℕ → List Entry → ℕ → ℕ
module_slot taken es zero = entry_slot es taken
module_slot taken es (suc k) = module_slot (entry_slot es taken ∷ taken) (drop 1 es) k

unfoldable pub nothing : St
nothing = record { made = []; named = []; slots = []; copies = []; log = [] }

-- the module
unfoldable pub module_block : File → BlockEnv
module_block F = record { scope = 0; first = 0; local = false; slot_at = module_slot [] F.entries; vars = map entry_var F.entries; st = nothing }

module _ (E : BlockEnv) where
  -- the binding of the k-th variable
  unfoldable pub placed : ℕ → Var → Binding
  placed k v = record { id = E.first + k; var = v; local = E.local; owner = E.scope; slot = E.slot_at k }

  unfoldable pub placed_from : ℕ → List Var → List Binding
  placed_from k [] = []
  placed_from k (v ∷ vs) = placed k v ∷ placed_from (suc k) vs

  -- after the targets ts: the variables, their bindings, the state
  abbrev pub vars_of : List Target → List Var
  vars_of ts = merge E.vars ts

  abbrev pub bindings_of : List Target → List Binding
  bindings_of ts = placed_from 0 (vars_of ts)

  unfoldable pub slots_of : List Binding → List Slot
  slots_of bs = cond E.local (map (λ (b : Binding). slot_for b.owner b.slot b) bs) []

  unfoldable pub block_st : List Target → St
  block_st ts = record {
    made = E.st.made ++ bindings_of ts;
    named = E.st.named ++ map (name_of (bindings_of ts)) ts;
    slots = E.st.slots ++ slots_of (bindings_of ts);
    copies = E.st.copies;
    log = E.st.log;
  }

-- while the module is collected its names grow
unfoldable pub block_world : World → BlockEnv → List Target → World
block_world W E ts = record { F = W.F; M = W.M; mods = cond E.local W.mods (titles (vars_of E ts)); D = W.D; P = W.P }

-- the place k of a name in its block, as the list t has it: one more than the binding's number; another name has a smaller number there
unfoldable pub KnownAs : ℕ → Option ℕ → ℕ → Type 0
KnownAs first none x = x ≤ first
KnownAs first (some k) x = x ≡ first + k + 1

-- what is fixed in a block
pub record BlockFacts (W : World) (E : BlockEnv) : Type 0 where
  pub first-is : E.first ≡ length E.st.made
  pub scope_small : E.scope < 256
  pub scope_module : E.local ≡ false → E.scope ≡ 0
  pub first_module : E.local ≡ false → E.first ≡ 0
  pub slot_local : E.local ≡ true → (k : ℕ) → E.slot_at k ≡ fresh E.scope E.st + k
  pub slot_module : E.local ≡ false → (k : ℕ) → length E.vars ≤ k → E.slot_at k ≡ k
  pub slot_small : E.local ≡ false → (k : ℕ) → k < 4096 → E.slot_at k < 32768

-- what stood before the block stays: only the block's own bindings are bound again
pub record InBlock (W : World) (env : List Binding) (ss : List ℕ) (E : BlockEnv) (ts : List Target) (s : State) (m : Mem) : Type 0 where
  pub facts : BlockFacts W E
  pub around : EnvIn env ss E.st.made s.level m.t
  pub ranges : RangesIn W.D E.st.made m.t
  pub settled : (i : ℕ) (b : Binding) → get_elem? W.M i ≡ some b → get_elem? E.st.made i ≡ some b
  pub rel : Rel (block_world W E ts) env ss (caps E.st) (block_st E ts) s m
  pub known : E.local ≡ true → (n : ℕ) → n < 1024 → KnownAs E.first (place n (titles (vars_of E ts))) (get_or m.t (block_at + n) 0)

pub record RB (W : World) (env : List Binding) (ss : List ℕ) (E : BlockEnv) (ts : List Target) (s : Result State Full) (m : Mem) : Type 0 where
  pub over : IfErr s (λ _. Over (block_st E ts))
  pub rel : IfOk s (λ v. InBlock W env ss E ts v m)
