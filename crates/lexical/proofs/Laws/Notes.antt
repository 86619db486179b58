-- One target more: a block's variables, bindings and slots after it, from those before it. For code that binds as it collects.
use Rattle.std.specs.Prelude.{◌≡◌, List, [], ◌∷◌, ◌++◌, true, ◌≤◌, ◌+◌, ℕ, zero, suc, drop, set}
use Rattle.std.proofs.Math.Path.{refl, ap, ap₂}
use Rattle.std.proofs.Common.{sym, ◌∙◌, inl, inr, arith}
use Rattle.std.proofs.Math.Option.{some}
use Rattle.std.proofs.Math.ListN.{length, get_elem?, length-append}
use Rattle.lexical.specs.Lists.{none-some, eqb_self, eqb-not}
use Rattle.lexical.specs.Places.{In, Distinct}
use Rattle.lexical.specs.Binders.{Target, Var, titles, new_var, again, note, merge}
use Rattle.lexical.specs.Module.{Entry}
use Rattle.lexical.specs.State.{Binding, St}
use Rattle.lexical.specs.Block.{fresh, slot_for, new, add, bind}
use Rattle.lexical.specs.First.{next_slot, entry_slot, module_binding, module_bindings}
use Rattle.lexical.proofs.Laws.Adds.{nth, add-count}
use Rattle.lexical.proofs.Laws.Collect.{merge_append}

pub merge_snoc : (vs : List Var) (ts : List Target) (t : Target) → merge vs (ts ++ (t ∷ [])) ≡ note t (merge vs ts)
merge_snoc vs ts t = merge_append vs ts (t ∷ []) ∙ (unfold merge in refl)

-- a new name stands at the end, a known one is changed where it stands
pub note-new : (t : Target) (vs : List Var) → (In t.name (titles vs) → ⊥) → note t vs ≡ vs ++ (new_var t ∷ [])
unfolding note
note-new t [] n = refl
note-new t (v ∷ vs) n = rw (eqb-not v.name t.name (λ e. n (inl (sym e)))) (ap (λ l. v ∷ l) (note-new t vs (λ m. n (inr m))))

named_in : (vs : List Var) (i : ℕ) (v : Var) → get_elem? vs i ≡ some v → In v.name (titles vs)
named_in [] i v e = absurd (none-some refl e)
named_in (x ∷ vs) zero v e = let z : x ≡ v = cc in inl (sym (ap (λ (y : Var). y.name) z))
named_in (x ∷ vs) (suc i) v e = inr (named_in vs i v e)

pub note-at : (t : Target) (vs : List Var) (i : ℕ) (v : Var) → Distinct (titles vs) → get_elem? vs i ≡ some v → v.name ≡ t.name → note t vs ≡ set vs i (again t v)
unfolding note
note-at t [] i v d e q = absurd (none-some refl e)
note-at t (x ∷ vs) zero v d e q = let z : x ≡ v = cc in rw (z, q, eqb_self t.name) refl
note-at t (x ∷ vs) (suc i) v d e q = rw (eqb-not x.name t.name (λ z. d.0 (rw (z, ← q) (named_in vs i v e)))) (ap (λ l. x ∷ l) (note-at t vs i v d.1 e q))

-- bindings hang on the numbers and slots before them alone
bind_like : (s : ℕ) (vs : List Var) (st st' : St) → length st.made ≡ length st'.made → st.slots ≡ st'.slots → ((bind s vs st).0 ≡ (bind s vs st').0) × ((bind s vs st).1.slots ≡ (bind s vs st').1.slots)
unfolding bind
bind_like s [] st st' e q = (refl, q)
bind_like s (v ∷ vs) st st' e q = let r = bind_like s vs (add s (new s v st) st) (add s (new s v st') st') longer more in (ap₂ (λ (b : Binding) l. b ∷ l) same r.0, r.1)
  where
    same : new s v st ≡ new s v st'
    same = unfold new in rw (e, q) refl

    longer : length (add s (new s v st) st).made ≡ length (add s (new s v st') st').made
    longer = unfold add in omega (arith, e, length-append st.made (new s v st ∷ []), length-append st'.made (new s v st' ∷ []))

    more : (add s (new s v st) st).slots ≡ (add s (new s v st') st').slots
    more = unfold add in ap₂ (λ l (b : Binding). l ++ (slot_for s b.slot b ∷ [])) q same

pub bind_snoc : (s : ℕ) (vs : List Var) (v : Var) (st : St) → let r = bind s vs st in bind s (vs ++ (v ∷ [])) st ≡ (r.0 ++ (new s v r.1 ∷ []), add s (new s v r.1) r.1)
unfolding bind
bind_snoc s [] v st = refl
bind_snoc s (x ∷ vs) v st = ap (λ (r : List Binding × St). (new s x st ∷ r.0, r.1)) (bind_snoc s vs v (add s (new s x st) st))

-- a variable changed in its marks alone: the same numbers and slots
pub bind-set : (s : ℕ) (vs : List Var) (i : ℕ) (v w : Var) (st : St) → get_elem? vs i ≡ some v → w.name ≡ v.name
    → ((bind s (set vs i w) st).0 ≡ set (bind s vs st).0 i (nth s i w st)) × ((bind s (set vs i w) st).1.slots ≡ (bind s vs st).1.slots)
unfolding bind
bind-set s [] i v w st e q = absurd (none-some refl e)
bind-set s (x ∷ vs) zero v w st e q = let r = bind_like s vs (add s (new s w st) st) (add s (new s x st) st) longer more in (ap₂ (λ (b : Binding) l. b ∷ l) here r.0, r.1)
  where
    here : new s w st ≡ nth s 0 w st
    here = unfold new in ap₂ (λ m n. record { id = m; var = w; local = true; owner = s; slot = n }) (omega arith) (omega arith)

    longer : length (add s (new s w st) st).made ≡ length (add s (new s x st) st).made
    longer = unfold add in omega (arith, length-append st.made (new s w st ∷ []), length-append st.made (new s x st ∷ []))

    called : w.name ≡ x.name
    called = let z : x ≡ v = cc in q ∙ sym (ap (λ (y : Var). y.name) z)

    more : (add s (new s w st) st).slots ≡ (add s (new s x st) st).slots
    more = unfold add new slot_for in ap (λ n. st.slots ++ (record { scope = s; num = fresh s st; name = n; id = length st.made } ∷ [])) called
bind-set s (x ∷ vs) (suc i) v w st e q = let r = bind-set s vs i v w (add s (new s x st) st) e q in (ap (λ l. new s x st ∷ l) (r.0 ∙ ap (set (bind s vs (add s (new s x st) st)).0 i) next), r.1)
  where
    longer : length (add s (new s x st) st).made ≡ suc (length st.made)
    longer = unfold add in omega (arith, length-append st.made (new s x st ∷ []))

    up : fresh s (add s (new s x st) st) ≡ suc (fresh s st)
    up = add-count s x st s ∙ (rw (eqb_self s) refl)

    next : nth s i w (add s (new s x st) st) ≡ nth s (suc i) w st
    next = ap₂ (λ m n. record { id = m; var = w; local = true; owner = s; slot = n }) (omega (arith, longer)) (omega (arith, up))

-- the module's: a new one at the end, with the next slot; a changed one keeps its number and slot
pub slots_so_far : List ℕ → List Entry → List Var → List ℕ
slots_so_far taken es [] = taken
slots_so_far taken es (v ∷ vs) = slots_so_far (entry_slot es taken ∷ taken) (drop 1 es) vs

pub module_snoc : (taken : List ℕ) (es : List Entry) (vs : List Var) (v : Var) → module_bindings taken es (vs ++ (v ∷ [])) ≡ module_bindings taken es vs ++ module_bindings (slots_so_far taken es vs) (drop (length vs) es) (v ∷ [])
unfolding module_bindings slots_so_far
module_snoc taken es [] v = refl
module_snoc taken es (x ∷ vs) v = ap (λ l. module_binding (length taken) x (entry_slot es taken) ∷ l) (module_snoc (entry_slot es taken ∷ taken) (drop 1 es) vs v ∙ ap (λ (l : List Entry). module_bindings (entry_slot es taken ∷ taken) (drop 1 es) vs ++ module_bindings (slots_so_far (entry_slot es taken ∷ taken) (drop 1 es) vs) l (v ∷ [])) (behind es))
  where
    behind : (es : List Entry) → drop (length vs) (drop 1 es) ≡ drop (suc (length vs)) es
    behind [] = none_behind (length vs)
      where
        none_behind : (n : ℕ) → ◌≡◌ {A = List Entry} (drop n []) (drop (suc n) [])
        none_behind zero = refl
        none_behind (suc n) = refl
    behind (e ∷ es) = refl

pub slots_length : (taken : List ℕ) (es : List Entry) (vs : List Var) → length (slots_so_far taken es vs) ≡ length taken + length vs
unfolding slots_so_far
slots_length taken es [] = omega arith
slots_length taken es (v ∷ vs) = omega (arith, slots_length (entry_slot es taken ∷ taken) (drop 1 es) vs)

-- past the entries: its number is its place, its slot the next
pub module_next : (es : List Entry) (vs : List Var) (v : Var) → length es ≤ length vs → module_bindings [] es (vs ++ (v ∷ [])) ≡ module_bindings [] es vs ++ (module_binding (length vs) v (next_slot (slots_so_far [] es vs)) ∷ [])
unfolding module_bindings entry_slot
module_next es vs v h = module_snoc [] es vs v ∙ ap (λ l. module_bindings [] es vs ++ l) (rw (all_behind (length vs) es h, slots_length [] es vs) (ap (λ n. module_binding n v (next_slot (slots_so_far [] es vs)) ∷ []) (omega arith)))
  where
    all_behind : (n : ℕ) (es : List Entry) → length es ≤ n → drop n es ≡ []
    all_behind zero [] h = refl
    all_behind zero (e ∷ es) h = absurd (omega arith)
    all_behind (suc n) [] h = refl
    all_behind (suc n) (e ∷ es) h = all_behind n es (omega arith)

pub module_set : (taken : List ℕ) (es : List Entry) (vs : List Var) (i : ℕ) (b : Binding) (w : Var) → get_elem? (module_bindings taken es vs) i ≡ some b
    → module_bindings taken es (set vs i w) ≡ set (module_bindings taken es vs) i (module_binding b.id w b.slot)
unfolding module_bindings module_binding
module_set taken es [] i b w e = absurd (none-some refl e)
module_set taken es (x ∷ vs) zero b w e = let z : module_binding (length taken) x (entry_slot es taken) ≡ b = cc in
    ap₂ (λ m n. module_binding m w n ∷ module_bindings (entry_slot es taken ∷ taken) (drop 1 es) vs) (ap (λ (y : Binding). y.id) z) (ap (λ (y : Binding). y.slot) z)
module_set taken es (x ∷ vs) (suc i) b w e = ap (λ l. module_binding (length taken) x (entry_slot es taken) ∷ l) (module_set (entry_slot es taken ∷ taken) (drop 1 es) vs i b w e)
