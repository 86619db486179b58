-- The relation between a point of the walks and the working lists; and what a full list means.
use Rattle.std.specs.Prelude.{ℕ, ◌+◌, ◌<◌, ◌≤◌, ◌≡◌, Bool, List, length, get_or, Result, IfOk, IfErr}
use Rattle.std.proofs.Math.Option.{some}
use Rattle.std.proofs.Math.ListN.{get_elem?}
use Rattle.lexical.specs.Module.{File}
use Rattle.lexical.specs.State.{Binding, St}
use Rattle.lexical.specs.Records as rec
use Rattle.store.specs.declared.ids.State.{State}
use Rattle.store.specs.declared.ids.Full.{Full}
use Rattle.store.specs.Sections.{Mem, block_at}
use Rattle.store.specs.Image.{Image}
use Rattle.store.specs.Meanings.{EnvIn, NamesIn, RangesIn}

-- what stands beside the state: the file, the module's bindings (none while they are made) and names, each function's variables,
-- and the number of its parameters
pub record World : Type 0 where
  pub F : File
  pub M : List Binding
  pub mods : List ℕ
  pub D : ℕ → List Binding
  pub P : ℕ → ℕ

-- env: the locals in reach, ss: the scopes around, both innermost first; cap: which bindings count as captured
pub record Rel (W : World) (env : List Binding) (ss : List ℕ) (cap : ℕ → Bool) (st : St) (s : State) (m : Mem) : Type 0 where
  pub image : Image W.M W.P cap st s m
  pub around : EnvIn env ss st.made s.level m.t
  pub names : NamesIn W.F W.mods m.t
  pub ranges : RangesIn W.D st.made m.t
  pub scratch : (n : ℕ) → n < 1024 → get_or m.t (block_at + n) 0 ≤ length st.made
  pub settled : (i : ℕ) (b : Binding) → get_elem? W.M i ≡ some b → get_elem? st.made i ≡ some b

abbrev pub caps : St → ℕ → Bool
caps st i = rec.captured i st.log

-- more than a list holds
pub data Over (st : St) : Type 0 where
  too_many_slots : 4096 < length st.slots → Over st
  too_many_bindings : 2304 < length st.made → Over st
  too_many_errors : 2048 < length (rec.errors st.log) → Over st

-- `Full` only if a list is; else the working lists are the state's
pub record RC (W : World) (env : List Binding) (ss : List ℕ) (cap : ℕ → Bool) (st : St) (s : Result State Full) (m : Mem) : Type 0 where
  pub over : IfErr s (λ _. Over st)
  pub rel : IfOk s (λ v. Rel W env ss cap st v m)

abbrev pub R : World → List Binding → List ℕ → St → Result State Full → Mem → Type 0
R W env ss st s m = RC W env ss (caps st) st s m
