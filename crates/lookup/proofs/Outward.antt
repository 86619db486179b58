-- A name that no local has: the module's binding, a global, or nothing.
use Prim.Native.Nat.{ℕ, ◌+◌, ◌<◌, ◌≤◌}
use mathlib.Core.Path.{◌≡◌, refl, ap₂, ◌∙◌}
use mathlib.Core.Bool.{true, false, ◌&&◌, ◌||◌}
use mathlib.Core.List.{List, [], ◌∷◌}
use mathlib.Core.Option.{some}
use native.Mathlib.Omega.{arith}
use lib.Dec.{eqb}
use lib.ListN.{length, get_or, set, get_elem?}
use Rattle.lexical.specs.Lists.{Opened, absent, present, opened}
use Rattle.lexical.specs.Places.{at-below}
use Rattle.lexical.specs.State.{Binding}
use Rattle.lexical.specs.Records.{in_function, captures_found, captures_outer, slot_of}
use Rattle.lexical.proofs.Laws.Adds.{FoundBelow, OuterBelow}
use Rattle.answer.specs.Records.{binding_slot}
use Rattle.store.specs.Words.{captured_word}
use Rattle.store.specs.declared.ids.State.{State}
use Rattle.answer.specs.declared.ids.BindingId.{BindingId}
use Rattle.store.specs.declared.ids.Resolution.TheVariants as res
use Rattle.store.specs.declared.ids.Slot.TheVariants as slot
use Rattle.store.specs.Sections.{mem}
use Rattle.store.specs.Rel.{Rel, caps}
use Rattle.store.proofs.Laws.Points.{absent_past}
use Rattle.store.proofs.Laws.Made.{made_few, made_slot}
use Rattle.lookup.specs.Lookup.{res_of, Small, InModule, ModuleDone}
use Rattle.lookup.proofs.Captures.{rel_noted, rel_unnoted}

-- ---- the module

outermost : (level : ℕ) (ss : List ℕ) → level + 1 ≡ length ss → level ≡ 0 → in_function ss ≡ false
unfolding in_function
outermost level [] e z = absurd (omega arith)
outermost level (s ∷ []) e z = refl
outermost level (s ∷ t ∷ ss) e z = absurd (omega arith)

further_in : (level : ℕ) (ss : List ℕ) → level + 1 ≡ length ss → (level ≡ 0 → ⊥) → in_function ss ≡ true
unfolding in_function
further_in level [] e z = absurd (omega arith)
further_in level (s ∷ []) e z = absurd (omega arith)
further_in level (s ∷ t ∷ ss) e z = refl

-- the binding of a module name
record Bound (i : ℕ) (M made : List Binding) : Type 0 where
  b : Binding
  listed : get_elem? M i ≡ some b
  stands : get_elem? made i ≡ some b

module _ {i : ℕ} {s : State} {binds : List ℕ} where
  bound : (g : InModule i s binds) → Bound i g.W.M g.st.made
  bound g = go (opened (get_elem? g.W.M i))
    where
      go : Opened (get_elem? g.W.M i) → Bound i g.W.M g.st.made
      go (absent e) = absurd (omega (arith, absent_past g.W.M i e, g.known, g.settled.mods_made))
      go (present b e) = record { b = b; listed = e; stands = g.rel.settled i b e }

  pub module_few : InModule i s binds → i < 2304
  module_few g = let x = bound g in made_few g.rel.image.made i x.b x.stands

  module _ {k : ℕ} (e-slot : k ≡ binding_slot (get_or binds i 0)) (id : BindingId) (e-id : id.0 ≡ i) where
    module_slot_lem : (g : InModule i s binds) → k ≡ slot_of (get_elem? g.W.M i)
    unfolding slot_of
    module_slot_lem g = let x = bound g in rw x.listed (e-slot ∙ made_slot g.rel.image.made i x.b x.stands)

    module_found : (binds' : List ℕ) → ((g : InModule i s binds) → Rel g.W g.env g.ss (λ j. caps g.st j || (eqb j i && in_function g.ss)) g.st s (mem binds' g.w g.t))
        → ModuleDone i s binds (record { st = s; res = res.Slot (slot.Module (record { 0 = k })) id }) binds'
    unfolding res_of Small FoundBelow OuterBelow captures_found captures_outer
    module_found binds' r =
        record {
          right = λ g. let x = bound g in record {
            rel = r g;
            is = ap₂ (λ (n j : ℕ). res.Slot (slot.Module (record { 0 = n })) (record { 0 = j })) (module_slot_lem g) e-id;
            small = rw (← module_slot_lem g) (omega arith);
            below = at-below g.st.made i x.b x.stands;
          };
        }

    pub module_outside : s.level ≡ 0 → ModuleDone i s binds (record { st = s; res = res.Slot (slot.Module (record { 0 = k })) id }) binds
    module_outside z = module_found binds (λ g. rel_unnoted g.rel i _ (outermost s.level g.ss g.rel.around.level_is z))

    pub module_inside : {binds' : List ℕ} → (s.level ≡ 0 → ⊥) → 2304 ≤ length binds → binds' ≡ set binds i (captured_word (get_or binds i 0))
        → ModuleDone i s binds (record { st = s; res = res.Slot (slot.Module (record { 0 = k })) id }) binds'
    module_inside {binds' = binds'} z long e =
        module_found binds' (λ g. let x = bound g in rw e (rel_noted g.rel i _ (further_in s.level g.ss g.rel.around.level_is z) long (at-below g.st.made i x.b x.stands)))
