-- A name that the block does not have, of a local or of the module: its binding's number and what is known of it, and what a full list means.
use Prim.Native.Nat.{ℕ, suc, ◌+◌, ◌<◌, ◌≤◌}
use mathlib.Core.Path.{◌≡◌, refl, sym, ap, ◌∙◌}
use mathlib.Core.Bool.{Bool, true, false}
use mathlib.Core.List.{List, [], ◌∷◌, ◌++◌}
use mathlib.Core.Option.{none, some}
use native.Mathlib.Omega.{arith}
use lib.ListN.{length, length-append, length-map}
use Rattle.lexical.specs.Lists.{place}
use Rattle.lexical.specs.Binders.{Target, Var, new_var}
use Rattle.lexical.specs.State.{Binding}
use Rattle.lexical.proofs.Laws.Adds.{captured-fresh}
use Rattle.std.specs.Prelude.{Err}
use Rattle.store.specs.declared.ids.State.{State}
use Rattle.store.specs.declared.ids.Full.{Full}
use Rattle.store.specs.Sections.{Mem}
use Rattle.store.specs.Image.{Sound}
use Rattle.store.specs.Rel.{World, Over, too_many_slots, too_many_bindings, caps}
use Rattle.store.specs.Blocks.{BlockEnv, titles, placed, vars_of, block_st, InBlock}
use Rattle.target.specs.Target.{a_target, FreshDone}
use Rattle.target.specs.Noted.{titles-new, place-new, place_other}
use Rattle.target.specs.Blocks.{made_count, slots_count, vars_new}
use Rattle.target.proofs.Kept.{Listed}

-- the next binding's number and slot
abbrev pub id_after : BlockEnv → List Target → ℕ
id_after E ts = E.first + length (vars_of E ts)

abbrev pub slot_after : BlockEnv → List Target → ℕ
slot_after E ts = E.slot_at (length (vars_of E ts))

-- the counts after it
abbrev pub one_local : State → State
one_local s = record { bindings = s.bindings + 1; slots = s.slots + 1; copies = s.copies; errors = s.errors; level = s.level }

abbrev pub one_module : State → State
one_module s = record { bindings = s.bindings + 1; slots = s.slots; copies = s.copies; errors = s.errors; level = s.level }

module _ {W : World} {env : List Binding} {ss : List ℕ} {E : BlockEnv} {ts : List Target} {s : State} {m : Mem} (r : InBlock W env ss E ts s m)
    (x : Target) (new : place x.name (titles (vars_of E ts)) ≡ none) where
  -- the binding's number: the next
  pub new-number : s.bindings ≡ id_after E ts
  new-number = omega (arith, r.rel.image.bindings_are, made_count E ts, r.facts.first-is)

  pub new_here : id_after E ts ≡ length (block_st E ts).made
  new_here = omega (arith, made_count E ts, r.facts.first-is)

  pub new-titles : titles (vars_of E (ts ++ (x ∷ []))) ≡ titles (vars_of E ts) ++ (x.name ∷ [])
  new-titles = ap titles (vars_new E ts x new) ∙ titles-new x (vars_of E ts)

  pub new-place : place x.name (titles (vars_of E (ts ++ (x ∷ [])))) ≡ some (length (vars_of E ts))
  new-place = rw new-titles (place-new x.name (titles (vars_of E ts)) new ∙ ap some (length-map (vars_of E ts) (λ (v : Var). v.name)))

  pub new_vars : length (vars_of E (ts ++ (x ∷ []))) ≡ suc (length (vars_of E ts))
  new_vars = rw (vars_new E ts x new) (omega (arith, length-append (vars_of E ts) (new_var x ∷ [])))

  pub new_many : length (block_st E (ts ++ (x ∷ []))).made ≡ suc (length (block_st E ts).made)
  new_many = omega (arith, made_count E ts, made_count E (ts ++ (x ∷ [])), new_vars)

  -- no lookup so far is of it
  pub new_free : caps E.st (id_after E ts) ≡ false
  new_free = captured-fresh (id_after E ts) (length (block_st E ts).made) E.st.log (omega (arith, new_here)) (unfold block_st in r.rel.image.log_below)

  pub new_sound : x.name < 1024 → x.node < 2048 → slot_after E ts < 32768 → (E.local ≡ true → slot_after E ts < 4096)
      → Sound (id_after E ts) (placed E (length (vars_of E ts)) (new_var x))
  unfolding placed new_var
  new_sound name node slot own = record { id = refl; name = name; source = omega arith; owner = r.facts.scope_small; slot = slot; local_slot = own }

  -- in the scratch table the other names stay as they are
  pub listed_other : (n y : ℕ) → (n ≡ x.name → ⊥) → Listed E ts n y → Listed E (ts ++ (x ∷ [])) n y
  listed_other n y o h = (omega (arith, h.0, new_many), λ l. rw (new-titles, place_other n x.name (titles (vars_of E ts)) (λ e. o (sym e))) (h.1 l))

  -- a list is full
  pub new_over : 2304 ≤ s.bindings → Over (block_st E (ts ++ (x ∷ [])))
  new_over h = too_many_bindings (omega (arith, new_many, new_here, new-number))

  pub new_over_slots : E.local ≡ true → 4096 ≤ s.slots → Over (block_st E (ts ++ (x ∷ [])))
  new_over_slots l h = too_many_slots (omega (arith, r.rel.image.slots_are, slots_count E l ts, slots_count E l (ts ++ (x ∷ [])), new_vars))

-- ---- `new_local` and `new_module` where a list is full

pub fresh_many : {name at scope : ℕ} {local any public : Bool} {s : State} {e : Full} {m : Mem} → 2304 ≤ s.bindings → FreshDone name at scope local any public s m (Err e) m
fresh_many {name} {at} {any = any} {public = public} h = record { right = λ g. record { over = new_over g.rel (a_target at name any public) g.unknown h; rel = tt } }

pub fresh_slots : {name at scope : ℕ} {any public : Bool} {s : State} {e : Full} {m : Mem} → 4096 ≤ s.slots → FreshDone name at scope true any public s m (Err e) m
fresh_slots {name} {at} {any = any} {public = public} h = record { right = λ g. record { over = new_over_slots g.rel (a_target at name any public) g.unknown g.local_is h; rel = tt } }
