-- The invariant of the walks' state, and that a fresh binding and a copy keep it.
use Rattle.std.specs.Prelude.{◌≡◌, refl, ◌⊎◌, List, [], ◌∷◌, ◌++◌, ◌&&◌, true}
use Rattle.std.proofs.Math.Path.{sym, subst}
use Rattle.std.proofs.Common.{◌∙◌, ap, inl, inr, append-nil}
use Rattle.std.proofs.Math.Bool.{and-true, cond}
use Rattle.std.proofs.Math.Option.{Option, none, some}
use Prim.Native.Nat.{ℕ, ◌≤◌, ◌<◌}
use native.Mathlib.Omega.{arith}
use Rattle.std.proofs.Math.Decide.{dec_lt}
use Rattle.std.proofs.Math.Dec.{eqb}
use Rattle.std.proofs.Math.ListN.{length, get_elem?, length-append}
use Rattle.lexical.specs.Lists.{eqb_self, or_else_none, or_else, eqb-true, none-some, Tested, was, wasnt, tested, Opened, absent, present, opened}
use Rattle.lexical.specs.Places.{at_snoc, at_append, at_end, at-below, at_left, In, Distinct, in_snoc, distinct_snoc}
use Rattle.lexical.specs.Binders.{Var}
use Rattle.lexical.specs.State.{Binding, Slot, Copy, St}
use Rattle.lexical.specs.Block.{fresh_in, fresh, slot_for, new, add}
use Rattle.lexical.specs.Third.{holds, hand_in, hand, copy_in}
use Rattle.lexical.specs.Follow.{copy_hand, from_in, value_in, copied}
use Rattle.lexical.proofs.Theory.Lead.{Lead_ext, LeadBy, Lead, Ext}
use Rattle.lexical.proofs.Theory.Slots.{copy_hand_snoc, both_true, hand_snoc, copied_of, copied_snoc, value_other, value_here, value_old, hand_other, hand_here, hand_old, Handed, handed, from_other, from_here, fresh_up, fresh_at}

-- what holds of every state; chain s: scope s and the scopes around it, innermost first
pub record Fine (chain : ℕ → List ℕ) (st : St) : Type 0 where
  pub clean : (s k : ℕ) → fresh s st ≤ k → from_in s k st.copies ≡ none
  pub unset : (s k : ℕ) → fresh s st ≤ k → value_in s k st.slots ≡ none
  pub newid : (s i : ℕ) → length st.made ≤ i → hand s i st ≡ none
  pub handy : (s i k : ℕ) (b : Binding) → hand s i st ≡ some k → get_elem? st.made i ≡ some b → Lead st (chain s) k b
  pub once : (s : ℕ) → Distinct (copied s st.copies)
  pub had : (s i : ℕ) → In i (copied s st.copies) → hand s i st ≡ none → ⊥
  pub shared : (s i : ℕ) (b : Binding) → get_elem? st.made i ≡ some b → b.local ≡ true → hand s i st ≡ cond (eqb b.owner s) (some b.slot) (copy_hand s i st.copies)

none_before : {st st' : St} → Ext st st' → (s i : ℕ) → hand s i st' ≡ none → hand s i st ≡ none
none_before {st} {st'} x s i e = go (opened (hand s i st))
  where
    go : Opened (hand s i st) → hand s i st ≡ none
    go (absent q) = q
    go (present k q) = absurd (none-some {o = hand s i st'} e (x.hands s i k q))

-- a number whose binding is at hand somewhere was given out before
given : (chain : ℕ → List ℕ) (st : St) → Fine chain st → (s i k : ℕ) → hand s i st ≡ some k → i < length st.made
given chain st h s i k e = go (dec_lt i (length st.made))
  where
    go : Dec (i < length st.made) → i < length st.made
    go (yes l) = l
    go (no n) = absurd (none-some {o = hand s i st} (h.newid s i (omega arith)) e)

moved : (chain : ℕ → List ℕ) (st : St) (s t k k' : ℕ) (b b' : Binding) → s ≡ t → k ≡ k' → b ≡ b' → Lead st (chain s) k b → Lead st (chain t) k' b'
moved chain st s t k k' b b' p q w l = rw (← p, ← q, ← w) l

module _ (chain : ℕ → List ℕ) (s : ℕ) (ss : List ℕ) (here : chain s ≡ s ∷ ss) where
  -- a fresh binding
  pub add_ext : (b : Binding) (st : St) → Ext st (add s b st)
  unfolding add
  add_ext b st = record {
    grow = λ t. fresh_up t st.slots _;
    hands = λ t i k e. hand_old t i k st.slots _ e;
    known = λ i x e. at_append st.made _ i x e;
    values = λ t k i e. value_old t k i st.slots _ e;
    keeps = λ t k h. refl;
  }

  -- its own slot leads to it
  add_lead : (v : Var) (st : St) → Fine chain st → Lead (add s (new s v st) st) (chain s) (fresh s st) (new s v st)
  unfolding Lead LeadBy add new slot_for
  add_lead v st h = rw here (
    omega (arith, fresh_at st.slots (slot_for s (fresh s st) (new s v st))),
    value_here st.slots (slot_for s (fresh s st) (new s v st)) (h.unset s (fresh s st) (omega arith)),
    rw (h.clean s (fresh s st) (omega arith)) (refl, refl),
  )

  add_handy : (v : Var) (st : St) → Fine chain st → (t i k : ℕ) (b : Binding) → hand t i (add s (new s v st) st) ≡ some k
      → get_elem? (add s (new s v st) st).made i ≡ some b → Lead (add s (new s v st) st) (chain t) k b
  add_handy v st h t i k b e e' = go (handed t i k st.slots _ (unfold add in e))
    where
      go : (hand_in t i st.slots ≡ some k) ⊎ Handed t i k st.slots (slot_for s (new s v st).slot (new s v st)) → Lead (add s (new s v st) st) (chain t) k b
      go (inl q) = Lead_ext (add_ext (new s v st) st) (chain t) k b
          (h.handy t i k b q (sym (at_left st.made (new s v st ∷ []) i (given chain st h t i k q)) ∙ (unfold add in e')))
      go (inr q) = moved chain (add s (new s v st) st) s t (fresh s st) k (new s v st) b (unfold slot_for in q.at_scope) (unfold slot_for new in q.at_num)
          (same (unfold slot_for new in q.of_id)) (add_lead v st h)
        where
          same : length st.made ≡ i → new s v st ≡ b
          same z = let y : get_elem? (st.made ++ (new s v st ∷ [])) i ≡ some (new s v st) = subst (λ j. get_elem? (st.made ++ (new s v st ∷ [])) j ≡ some (new s v st)) z (at_end st.made (new s v st)) in
              let x : get_elem? (st.made ++ (new s v st ∷ [])) i ≡ some b = (unfold add in e') in cc

  -- a fresh slot is not past the end once it is made
  past : (rs : List Slot) (b : Binding) (t k : ℕ) → s ≡ t → fresh_in s rs ≡ k → fresh_in t (rs ++ (slot_for s (fresh_in s rs) b ∷ [])) ≤ k → ⊥
  unfolding slot_for
  past rs b t k p q le = let z : fresh_in s (rs ++ (slot_for s (fresh_in s rs) b ∷ [])) ≤ k = subst (λ x. fresh_in x (rs ++ (slot_for s (fresh_in s rs) b ∷ [])) ≤ k) (sym p) le in
      omega (arith, z, fresh_at rs (slot_for s (fresh_in s rs) b))

  -- a local is at hand in its own slot, or where it was copied to
  add_shared : (v : Var) (st : St) → Fine chain st → (t i : ℕ) (b : Binding) → get_elem? (add s (new s v st) st).made i ≡ some b → b.local ≡ true
      → hand t i (add s (new s v st) st) ≡ cond (eqb b.owner t) (some b.slot) (copy_hand t i st.copies)
  add_shared v st h t i b e l = go (at_snoc st.made (new s v st) i b (unfold add in e))
    where
      yet : copy_hand t (length st.made) st.copies ≡ none
      yet = none_of (opened (copy_hand t (length st.made) st.copies))
        where
          none_of : Opened (copy_hand t (length st.made) st.copies) → copy_hand t (length st.made) st.copies ≡ none
          none_of (absent q) = q
          none_of (present k q) = absurd (h.had t (length st.made) (copied_of t (length st.made) k st.copies q) (h.newid t (length st.made) (omega arith)))

      fresh-one : hand t (length st.made) (add s (new s v st) st) ≡ cond (eqb s t) (some (fresh s st)) none
      fresh-one = unfold add new slot_for in (hand_snoc t (length st.made) st.slots _ ∙ (rw (h.newid t (length st.made) (omega arith)) (unfold or_else holds in (rw (eqb_self (length st.made), and-true (eqb s t)) refl))))

      go : (get_elem? st.made i ≡ some b) ⊎ ((i ≡ length st.made) × (new s v st ≡ b)) → hand t i (add s (new s v st) st) ≡ cond (eqb b.owner t) (some b.slot) (copy_hand t i st.copies)
      go (inl q) = old ∙ h.shared t i b q l
        where
          old : hand t i (add s (new s v st) st) ≡ hand t i st
          old = unfold add new slot_for in hand_other t i st.slots _ (λ p z. omega (arith, z, at-below st.made i b q))
      go (inr q) = subst (λ (x : Binding). hand t i (add s (new s v st) st) ≡ cond (eqb x.owner t) (some x.slot) (copy_hand t i st.copies)) q.1
          (rw (q.0, yet) (fresh-one ∙ (unfold new in refl)))

  pub add_fine : (v : Var) (st : St) → Fine chain st → Fine chain (add s (new s v st) st)
  unfolding add slot_for new
  add_fine v st h = record {
    clean = λ t k le. h.clean t k (omega (arith, (add_ext (new s v st) st).grow t, le));
    unset = λ t k le. value_other t k st.slots (slot_for s (fresh s st) (new s v st)) (λ p q. past st.slots (new s v st) t k p q le) ∙ h.unset t k (omega (arith, (add_ext (new s v st) st).grow t, le));
    newid = λ t i le. hand_other t i st.slots (slot_for s (fresh s st) (new s v st)) (λ p q. omega (arith, q, le, length-append st.made (new s v st ∷ [])))
        ∙ h.newid t i (omega (arith, le, length-append st.made (new s v st ∷ [])));
    handy = add_handy v st h;
    once = h.once;
    had = λ t i m z. h.had t i m (none_before (add_ext (new s v st) st) t i z);
    shared = add_shared v st h;
  }

  -- a copy from the scope outside
  pub copy_ext : (b : Binding) (r : ℕ × St) → Ext r.1 (copy_in s b r).1
  unfolding copy_in
  copy_ext b r = record {
    grow = λ t. fresh_up t r.1.slots _;
    hands = λ t i k e. hand_old t i k r.1.slots _ e;
    known = λ i x e. e;
    values = λ t k i e. value_old t k i r.1.slots _ e;
    keeps = λ t k h. from_other t k r.1.copies _ (λ p q. no t k p q h);
  }
    where
      no : (t k : ℕ) → s ≡ t → fresh s r.1 ≡ k → k < fresh t r.1 → ⊥
      no t k p q h = let z : k < fresh s r.1 = subst (λ x. k < fresh x r.1) (sym p) h in omega arith

  pub in_copied : (t i : ℕ) (cs : List Copy) (c : Copy) → In i (copied t (cs ++ (c ∷ []))) → In i (copied t cs) ⊎ ((c.scope ≡ t) × (i ≡ c.id))
  in_copied t i cs c m = go (tested (eqb c.scope t)) (subst (In i) (copied_snoc t cs c) m)
    where
      pair : c.scope ≡ t → In i (copied t cs) ⊎ (i ≡ c.id) → In i (copied t cs) ⊎ ((c.scope ≡ t) × (i ≡ c.id))
      pair p (inl x) = inl x
      pair p (inr x) = inr (p, x)

      go : Tested (eqb c.scope t) → In i (copied t cs ++ cond (eqb c.scope t) (c.id ∷ []) []) → In i (copied t cs) ⊎ ((c.scope ≡ t) × (i ≡ c.id))
      go (was e) x = pair (eqb-true _ _ e) (in_snoc i c.id (copied t cs) (rw e at x))
      go (wasnt e) x = inl (rw append-nil at (rw e at x))

  pub copy_lead : (b : Binding) (r : ℕ × St) → Fine chain r.1 → Lead r.1 ss r.0 b → Lead (copy_in s b r).1 (chain s) (fresh s r.1) b
  unfolding Lead LeadBy copy_in slot_for
  copy_lead b r h l = rw here (
    omega (arith, fresh_at r.1.slots (slot_for s (fresh s r.1) b)),
    value_here r.1.slots (slot_for s (fresh s r.1) b) (h.unset s (fresh s r.1) (omega arith)),
    rw (from_here r.1.copies (record { scope = s; parent = r.0; child = fresh s r.1; id = b.id }) (h.clean s (fresh s r.1) (omega arith)))
        (Lead_ext (copy_ext b r) ss r.0 b l),
  )

  copy_handy : (b : Binding) (r : ℕ × St) → Fine chain r.1 → Lead r.1 ss r.0 b → get_elem? r.1.made b.id ≡ some b
      → (t i k : ℕ) (x : Binding) → hand t i (copy_in s b r).1 ≡ some k → get_elem? (copy_in s b r).1.made i ≡ some x → Lead (copy_in s b r).1 (chain t) k x
  copy_handy b r h l kn t i k x e e' = go (handed t i k r.1.slots (slot_for s (fresh s r.1) b) (unfold copy_in in e))
    where
      go : (hand_in t i r.1.slots ≡ some k) ⊎ Handed t i k r.1.slots (slot_for s (fresh s r.1) b) → Lead (copy_in s b r).1 (chain t) k x
      go (inl q) = Lead_ext (copy_ext b r) (chain t) k x (h.handy t i k x q (unfold copy_in in e'))
      go (inr q) = moved chain (copy_in s b r).1 s t (fresh s r.1) k b x (unfold slot_for in q.at_scope) (unfold slot_for in q.at_num)
          (same (unfold slot_for in q.of_id)) (copy_lead b r h l)
        where
          same : b.id ≡ i → b ≡ x
          same z = let y : get_elem? r.1.made b.id ≡ some x = rw z (unfold copy_in in e') in cc

  copy_once : (b : Binding) (r : ℕ × St) → Fine chain r.1 → hand s b.id r.1 ≡ none → (t : ℕ) → Distinct (copied t (copy_in s b r).1.copies)
  copy_once b r h z t = unfold copy_in in rw (copied_snoc t r.1.copies _) (go (tested (eqb s t)))
    where
      go : Tested (eqb s t) → Distinct (copied t r.1.copies ++ cond (eqb s t) (b.id ∷ []) [])
      go (was e) = rw e (distinct_snoc b.id (copied t r.1.copies) (h.once t) (λ m. h.had t b.id m (rw (← eqb-true s t e) z)))
      go (wasnt e) = rw (e, append-nil) (h.once t)

  copy_had : (b : Binding) (r : ℕ × St) → Fine chain r.1 → hand s b.id r.1 ≡ none → (t i : ℕ) → In i (copied t (copy_in s b r).1.copies) → hand t i (copy_in s b r).1 ≡ none → ⊥
  unfolding copy_in slot_for
  copy_had b r h z t i m e = go (in_copied t i r.1.copies _ m)
    where
      go : In i (copied t r.1.copies) ⊎ ((s ≡ t) × (i ≡ b.id)) → ⊥
      go (inl x) = h.had t i x (none_before (copy_ext b r) t i e)
      go (inr x) = none-some {o = hand s b.id (copy_in s b r).1} (subst (λ y. hand y b.id (copy_in s b r).1 ≡ none) (sym x.0) (subst (λ y. hand t y (copy_in s b r).1 ≡ none) x.1 e)) (hand_here r.1.slots (slot_for s (fresh s r.1) b) z)

  copy_shared : (b : Binding) (r : ℕ × St) → Fine chain r.1 → hand s b.id r.1 ≡ none → (t i : ℕ) (x : Binding) → get_elem? (copy_in s b r).1.made i ≡ some x → x.local ≡ true
      → hand t i (copy_in s b r).1 ≡ cond (eqb x.owner t) (some x.slot) (copy_hand t i (copy_in s b r).1.copies)
  unfolding holds
  copy_shared b r h z t i x e l = unfold copy_in slot_for in (hand_snoc t i r.1.slots _ ∙ go (tested (eqb s t && eqb b.id i)) (h.shared t i x (unfold copy_in in e) l) (tested (eqb x.owner t))
      ∙ sym (ap (cond (eqb x.owner t) (some x.slot)) (copy_hand_snoc t i r.1.copies _)))
    where
      k : ℕ
      k = fresh s r.1

      H : Option ℕ
      H = hand t i r.1

      C : Option ℕ
      C = copy_hand t i r.1.copies

      at_none : (eqb s t && eqb b.id i) ≡ true → H ≡ none
      at_none w = let p = both_true (eqb s t) (eqb b.id i) w in rw (← eqb-true s t p.0, ← eqb-true b.id i p.1) z

      go : Tested (eqb s t && eqb b.id i) → H ≡ cond (eqb x.owner t) (some x.slot) C → Tested (eqb x.owner t)
          → or_else H (cond (eqb s t && eqb b.id i) (some k) none) ≡ cond (eqb x.owner t) (some x.slot) (or_else C (cond (eqb s t && eqb b.id i) (some k) none))
      go (wasnt w) q o = rw (w, or_else_none H, or_else_none C) q
      go (was w) q (was o) = absurd (none-some {a = x.slot} (at_none w) (rw o at q))
      go (was w) q (wasnt o) = let c : H ≡ C = rw o at q in rw (w, o, ← c, at_none w) (unfold or_else in refl)

  pub copy_fine : (b : Binding) (r : ℕ × St) → Fine chain r.1 → hand s b.id r.1 ≡ none → get_elem? r.1.made b.id ≡ some b
      → Lead r.1 ss r.0 b → Fine chain (copy_in s b r).1
  unfolding copy_in slot_for
  copy_fine b r h z kn l = record {
    clean = λ t k le. from_other t k r.1.copies _ (λ p q. past r.1.slots b t k p q le) ∙ h.clean t k (omega (arith, (copy_ext b r).grow t, le));
    unset = λ t k le. value_other t k r.1.slots (slot_for s (fresh s r.1) b) (λ p q. past r.1.slots b t k p q le) ∙ h.unset t k (omega (arith, (copy_ext b r).grow t, le));
    newid = λ t i le. hand_other t i r.1.slots (slot_for s (fresh s r.1) b) (λ p q. omega (arith, q, le, at-below r.1.made b.id b kn)) ∙ h.newid t i le;
    handy = copy_handy b r h l kn;
    once = copy_once b r h z;
    had = copy_had b r h z;
    shared = copy_shared b r h z;
  }
