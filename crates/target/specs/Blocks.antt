-- One target more in a block: the state after it, from the state before it. A known name changes one binding, a new one adds a binding
-- and, among locals, a slot; the rows of the Names before it stay.
use Rattle.std.specs.Prelude.{ℕ, suc, ◌+◌, ◌≤◌, ◌≡◌, true, false, length, set}
use Rattle.std.proofs.Math.Path.{refl, sym, ap, subst}
use Rattle.std.proofs.Common.{◌∙◌}
use Rattle.std.proofs.Math.Bool.{cond}
use mathlib.Core.List.{List, [], ◌∷◌, ◌++◌, map, map-append, map-map, append_assoc, append-nil}
use Rattle.std.proofs.Math.Option.{none, some}
use native.Mathlib.Omega.{arith}
use Rattle.std.proofs.Math.ListN.{get_elem?, length-append, length-map}
use Rattle.base.specs.UpTo.{at_behind}
use Rattle.lexical.specs.Lists.{place, first, map_o, Tested, was, wasnt, tested, Opened, absent, present, opened}
use Rattle.lexical.specs.Places.{at-below}
use Rattle.lexical.specs.Binders.{Target, Var, new_var, again}
use Rattle.lexical.specs.State.{Binding, Slot, Named}
use Rattle.lexical.specs.Block.{fresh_in, fresh, slot_for, called, name_of}
use Rattle.lexical.specs.Records.{name_row}
use Rattle.lexical.specs.Records.{title_row}
use Rattle.lexical.proofs.Laws.Collect.{merge_append}
use Rattle.lexical.proofs.Laws.Grows.{Longer}
use Rattle.lexical.proofs.Laws.Notes.{merge_snoc}
use Rattle.lexical.proofs.Theory.Slots.{fresh_at}
use Rattle.store.specs.Words.{answer_word, row_word}
use Rattle.store.specs.Rel.{Over, too_many_slots, too_many_bindings, too_many_errors}
use Rattle.store.specs.Blocks.{BlockEnv, titles, placed, placed_from, vars_of, bindings_of, slots_of, block_st}
use Rattle.store.proofs.Laws.Points.{Replaced}
use Rattle.store.proofs.Laws.Made.{bound_again}
use Rattle.target.specs.Alike.{replaced_set, replaced_behind, map-set, map_like}
use Rattle.target.specs.Noted.{note-new, note_known, merge-place, merge_own, merge-length}
use Rattle.store.proofs.Laws.Placed.{placed_length, placed_snoc}
use Rattle.target.specs.Placed.{placed_at, placed_set, place_row, row_placed}

-- ---- how many

module _ (E : BlockEnv) where
  abbrev slot_of : Binding → Slot
  slot_of b = slot_for b.owner b.slot b

  pub made_count : (ts : List Target) → length (block_st E ts).made ≡ length E.st.made + length (vars_of E ts)
  unfolding block_st
  made_count ts = omega (arith, length-append E.st.made (bindings_of E ts), placed_length E 0 (vars_of E ts))

  pub slots_module : E.local ≡ false → (ts : List Target) → (block_st E ts).slots ≡ E.st.slots
  unfolding block_st slots_of
  slots_module l ts = rw l (append-nil E.st.slots)

  slots_local : E.local ≡ true → (ts : List Target) → (block_st E ts).slots ≡ E.st.slots ++ map slot_of (bindings_of E ts)
  unfolding block_st slots_of
  slots_local l ts = rw l refl

  pub slots_count : E.local ≡ true → (ts : List Target) → length (block_st E ts).slots ≡ length E.st.slots + length (vars_of E ts)
  slots_count l ts = rw (slots_local l ts) (omega (arith, length-append E.st.slots (map slot_of (bindings_of E ts)), length-map (bindings_of E ts) slot_of, placed_length E 0 (vars_of E ts)))

  fresh_placed : (k : ℕ) (vs : List Var) (rs : List Slot) → fresh_in E.scope (rs ++ map slot_of (placed_from E k vs)) ≡ fresh_in E.scope rs + length vs
  unfolding placed_from placed slot_for
  fresh_placed k [] rs = rw append-nil (omega arith)
  fresh_placed k (v ∷ vs) rs = ap (fresh_in E.scope) (sym (append_assoc rs (slot_of (placed E k v) ∷ []) (map slot_of (placed_from E (suc k) vs))))
      ∙ fresh_placed (suc k) vs (rs ++ (slot_of (placed E k v) ∷ [])) ∙ omega (arith, fresh_at rs (slot_of (placed E k v)))

  -- the next slot of its scope
  pub fresh-count : E.local ≡ true → (ts : List Target) → fresh_in E.scope (block_st E ts).slots ≡ fresh E.scope E.st + length (vars_of E ts)
  fresh-count l ts = rw (slots_local l ts) (fresh_placed 0 (vars_of E ts) E.st.slots)

-- ---- a new name

module _ (E : BlockEnv) (ts : List Target) (t : Target) (new : place t.name (titles (vars_of E ts)) ≡ none) where
  pub vars_new : vars_of E (ts ++ (t ∷ [])) ≡ vars_of E ts ++ (new_var t ∷ [])
  vars_new = merge_snoc E.vars ts t ∙ note-new t (vars_of E ts) new

  bindings_new : bindings_of E (ts ++ (t ∷ [])) ≡ bindings_of E ts ++ (placed E (length (vars_of E ts)) (new_var t) ∷ [])
  bindings_new = ap (placed_from E 0) vars_new ∙ placed_snoc E (vars_of E ts) (new_var t)

  pub made_new : (block_st E (ts ++ (t ∷ []))).made ≡ (block_st E ts).made ++ (placed E (length (vars_of E ts)) (new_var t) ∷ [])
  unfolding block_st
  made_new = ap (λ (l : List Binding). E.st.made ++ l) bindings_new ∙ sym (append_assoc E.st.made (bindings_of E ts) (placed E (length (vars_of E ts)) (new_var t) ∷ []))

  pub slots_new : E.local ≡ true → (block_st E (ts ++ (t ∷ []))).slots ≡ (block_st E ts).slots ++ (slot_for E.scope (E.slot_at (length (vars_of E ts))) (placed E (length (vars_of E ts)) (new_var t)) ∷ [])
  unfolding placed
  slots_new l = slots_local E l (ts ++ (t ∷ [])) ∙ ap (λ (rs : List Slot). E.st.slots ++ rs) (ap (map (slot_of E)) bindings_new ∙ map-append (slot_of E) (bindings_of E ts) (placed E (length (vars_of E ts)) (new_var t) ∷ []))
      ∙ sym (append_assoc E.st.slots _ _) ∙ ap (λ (rs : List Slot). rs ++ (slot_of E (placed E (length (vars_of E ts)) (new_var t)) ∷ [])) (sym (slots_local E l ts))

-- ---- a known one

module _ (E : BlockEnv) (ts : List Target) (t : Target) (k : ℕ) (v : Var) (known : place t.name (titles (vars_of E ts)) ≡ some k) (at : get_elem? (vars_of E ts) k ≡ some v) where
  pub vars_known : vars_of E (ts ++ (t ∷ [])) ≡ set (vars_of E ts) k (again t v)
  vars_known = merge_snoc E.vars ts t ∙ note_known t (vars_of E ts) k v known at

  bindings_known : bindings_of E (ts ++ (t ∷ [])) ≡ set (bindings_of E ts) k (placed E k (again t v))
  bindings_known = ap (placed_from E 0) vars_known ∙ placed_set E (vars_of E ts) k (again t v)

  binding_known : get_elem? (bindings_of E ts) k ≡ some (placed E k v)
  unfolding map_o
  binding_known = placed_at E (vars_of E ts) k ∙ (rw at refl)

  pub made_known : E.first ≡ length E.st.made → get_elem? (block_st E ts).made (E.first + k) ≡ some (placed E k v)
  unfolding block_st
  made_known f = subst (λ (n : ℕ). get_elem? (E.st.made ++ bindings_of E ts) (n + k) ≡ some (placed E k v)) (sym f) (at_behind E.st.made (bindings_of E ts) k ∙ binding_known)

  pub made_replaced : E.first ≡ length E.st.made → Replaced (E.first + k) (bound_again t.public (placed E k v)) (block_st E ts).made (block_st E (ts ++ (t ∷ []))).made
  unfolding block_st placed again
  made_replaced f = subst (λ (n : ℕ). Replaced (n + k) (placed E k (again t v)) (E.st.made ++ bindings_of E ts) (E.st.made ++ bindings_of E (ts ++ (t ∷ [])))) (sym f)
      (rw bindings_known (replaced_behind E.st.made (replaced_set (bindings_of E ts) k (placed E k (again t v)) (at-below (bindings_of E ts) k (placed E k v) binding_known))))

  pub slots_known : (block_st E (ts ++ (t ∷ []))).slots ≡ (block_st E ts).slots
  unfolding block_st slots_of slot_for placed again
  slots_known = ap (λ (rs : List Slot). E.st.slots ++ cond E.local rs []) (ap (map (slot_of E)) bindings_known ∙ map-set (slot_of E) (bindings_of E ts) k (placed E k v) (placed E k (again t v)) binding_known refl)

-- ---- the Names

module _ (E : BlockEnv) (ts : List Target) where
  -- the rows of those before stay when targets follow
  pub rows_before : (us : List Target) → map title_row (block_st E ts).named ≡ map title_row (E.st.named ++ map (name_of (bindings_of E (ts ++ us))) ts)
  unfolding block_st name_of
  rows_before us = map-append title_row E.st.named _ ∙ ap (λ (l : List (List ℕ)). map title_row E.st.named ++ l) (map-map title_row (name_of (bindings_of E ts)) ts ∙ map_like _ _ ts same ∙ sym (map-map title_row (name_of (bindings_of E (ts ++ us))) ts))
      ∙ sym (map-append title_row E.st.named _)
    where
      stays : (n : ℕ) → (place n (titles (vars_of E ts)) ≡ none → ⊥) → Opened (place n (titles (vars_of E ts))) → place n (titles (vars_of E ts)) ≡ place n (titles (vars_of E (ts ++ us)))
      stays n h (absent e) = absurd (h e)
      stays n h (present k e) = e ∙ sym (rw (merge_append E.vars ts us) (merge-place (vars_of E ts) us n k e))

      same : (j : ℕ) (x : Target) → get_elem? ts j ≡ some x → name_row x.node (first (called x.name) (bindings_of E ts)) ≡ name_row x.node (first (called x.name) (bindings_of E (ts ++ us)))
      same j x e = row_placed E (vars_of E ts) x.node x.name ∙ ap (place_row E x.node) (stays x.name (merge_own E.vars ts j x e) (opened (place x.name (titles (vars_of E ts)))))
          ∙ sym (row_placed E (vars_of E (ts ++ us)) x.node x.name)

  pub named_snoc : (t : Target) → (block_st E (ts ++ (t ∷ []))).named ≡ (E.st.named ++ map (name_of (bindings_of E (ts ++ (t ∷ [])))) ts) ++ (name_of (bindings_of E (ts ++ (t ∷ []))) t ∷ [])
  unfolding block_st
  named_snoc t = ap (λ (l : List Named). E.st.named ++ l) (map-append (name_of (bindings_of E (ts ++ (t ∷ [])))) ts (t ∷ [])) ∙ sym (append_assoc E.st.named _ _)

  -- what a Name's record holds
  pub name_word : (t : Target) (k : ℕ) → place t.name (titles (vars_of E ts)) ≡ some k
      → row_word (title_row (name_of (bindings_of E ts) t)) ≡ answer_word (cond E.local 2 1) (E.slot_at k) (E.first + k)
  unfolding name_of place_row
  name_word t k e = ap row_word (row_placed E (vars_of E ts) t.node t.name ∙ ap (place_row E t.node) e)

-- ---- a block only grows

module _ (E : BlockEnv) (ts us : List Target) where
  vars_more : length (vars_of E ts) ≤ length (vars_of E (ts ++ us))
  vars_more = rw (merge_append E.vars ts us) (merge-length (vars_of E ts) us)

  slots_more : length (block_st E ts).slots ≤ length (block_st E (ts ++ us)).slots
  slots_more = go (tested E.local)
    where
      go : Tested E.local → length (block_st E ts).slots ≤ length (block_st E (ts ++ us)).slots
      go (was l) = omega (arith, slots_count E l ts, slots_count E l (ts ++ us), vars_more)
      go (wasnt l) = rw (slots_module E l ts, slots_module E l (ts ++ us)) (omega arith)

  named_more : length (block_st E ts).named ≤ length (block_st E (ts ++ us)).named
  unfolding block_st
  named_more = omega (
    arith,
    length-append E.st.named (map (name_of (bindings_of E ts)) ts),
    length-append E.st.named (map (name_of (bindings_of E (ts ++ us))) (ts ++ us)),
    length-map ts (name_of (bindings_of E ts)),
    length-map (ts ++ us) (name_of (bindings_of E (ts ++ us))),
    length-append ts us,
  )

  pub block_longer : Longer (block_st E ts) (block_st E (ts ++ us))
  block_longer = record { made = omega (arith, made_count E ts, made_count E (ts ++ us), vars_more); named = named_more; slots = slots_more; copies = unfold block_st in omega arith; log = unfold block_st in omega arith }

  pub over_more : Over (block_st E ts) → Over (block_st E (ts ++ us))
  unfolding block_st
  over_more (too_many_slots h) = too_many_slots (omega (arith, slots_more))
  over_more (too_many_bindings h) = too_many_bindings (omega (arith, block_longer.made))
  over_more (too_many_errors h) = too_many_errors h
