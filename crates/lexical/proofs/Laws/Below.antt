-- Slot numbers in answers and copies are below their scopes' counts, and a copy's parent is a slot of the scope directly around.
use Rattle.std.specs.Prelude.{◌≡◌, ◌⊎◌, List, [], ◌∷◌, ◌++◌, Bool, true, false, cond, ℕ, zero, suc, ◌≤◌, ◌<◌, eqb}
use Rattle.std.proofs.Math.Path.{refl, ap, subst}
use Rattle.std.proofs.Common.{sym, ◌∙◌, inl, inr, arith}
use Rattle.std.proofs.Math.Option.{none, some}
use Rattle.std.proofs.Math.ListN.{length, get_elem?}
use Rattle.lexical.specs.Lists.{picked, first, map_o, none-some, eqb-true, eqb_self, Opened, absent, present, opened, first_old}
use Rattle.lexical.specs.Places.{All, first_no, first-at, map_o_some, at_snoc, map_o_none, In, Distinct}
use Rattle.lexical.specs.Tree.{top}
use Rattle.lexical.specs.Module.{File}
use Rattle.lexical.specs.State.{Binding, Slot, Copy, Event, Named, St}
use Rattle.lexical.specs.Block.{fresh_in, fresh, slot_for, new, add, naming}
use Rattle.lexical.specs.First.{start}
use Rattle.lexical.specs.Third.{hand, copy_in, logged, resolved}
use Rattle.lexical.specs.Follow.{copy_hand, copy_to, from_in, slot_at, value_in, copied}
use Rattle.lexical.specs.Claims.{OfLocal, Scoped}
use Rattle.lexical.proofs.Laws.Numbers.{fresh_all, Under, under_snoc}
use Rattle.lexical.proofs.Theory.Brought.{Between, Chained}
use Rattle.lexical.proofs.Theory.Chains.{of_local, needing, Led, Needs, nested_chained}
use Rattle.lexical.proofs.Theory.Every.{Kept, every}
use Rattle.lexical.proofs.Theory.Last.{around_0, around, last}
use Rattle.lexical.proofs.Theory.Lead.{LeadBy, Lead}
use Rattle.lexical.proofs.Theory.Slots.{both_true, fresh_up, fresh_at, from_here, value_here, value_old}

-- each copy's own slot is there, holds its binding and comes from its parent slot
pub record Placed (st : St) : Type 0 where
  pub under : Under st.slots
  pub child : (j : ℕ) (c : Copy) → get_elem? st.copies j ≡ some c → c.child < fresh c.scope st
  pub parent : (j : ℕ) (c : Copy) → get_elem? st.copies j ≡ some c → from_in c.scope c.child st.copies ≡ some c.parent
  pub value : (j : ℕ) (c : Copy) → get_elem? st.copies j ≡ some c → value_in c.scope c.child st.slots ≡ some c.id

no_copy : (s k : ℕ) (cs : List Copy) (rs : List Slot) → ((j : ℕ) (c : Copy) → get_elem? cs j ≡ some c → c.child < fresh_in c.scope rs) → fresh_in s rs ≤ k → from_in s k cs ≡ none
unfolding from_in
no_copy s k cs rs h le = map_o_none _ _ (first_no (copy_to s k) cs λ j c e t. let p = both_true (eqb c.scope s) (eqb c.child k) (unfold copy_to in t) in
    let z : c.child < fresh_in s rs = subst (λ x. c.child < fresh_in x rs) (eqb-true _ _ p.0) (h j c e) in omega (arith, z, eqb-true c.child k p.1))

no_value : (s k : ℕ) (rs : List Slot) → Under rs → fresh_in s rs ≤ k → value_in s k rs ≡ none
unfolding value_in
no_value s k rs h le = map_o_none _ _ (first_no (slot_at s k) rs λ j r e t. let p = both_true (eqb r.scope s) (eqb r.num k) (unfold slot_at in t) in
    let z : r.num < fresh_in s rs = subst (λ x. r.num < fresh_in x rs) (eqb-true _ _ p.0) (h j r e) in omega (arith, z, eqb-true r.num k p.1))

from_old : (s k p : ℕ) (cs : List Copy) (c : Copy) → from_in s k cs ≡ some p → from_in s k (cs ++ (c ∷ [])) ≡ some p
unfolding from_in map_o
from_old s k p cs c e = let r = map_o_some (λ (c : Copy). c.parent) (first (copy_to s k) cs) p e in rw (first_old (copy_to s k) cs (c ∷ []) r.0 r.1) (ap some r.2)

placed_slot : (st : St) (r : Slot) → r.num ≡ fresh_in r.scope st.slots → Placed st → (b : List Binding) (n : List Named) (l : List Event)
    → Placed (record { made = b; named = n; slots = st.slots ++ (r ∷ []); copies = st.copies; log = l })
placed_slot st r q h b n l = record {
  under = under_snoc st.slots r h.under q;
  child = λ j c e. omega (arith, h.child j c e, fresh_up c.scope st.slots r);
  parent = h.parent;
  value = λ j c e. value_old c.scope c.child c.id st.slots r (h.value j c e);
}

placed_copy : (s : ℕ) (b : Binding) (r : ℕ × St) → Placed r.1 → Placed (copy_in s b r).1
unfolding copy_in slot_for
placed_copy s b r h = record {
  under = under_snoc r.1.slots x h.under refl;
  child = λ j c e. low c (at_snoc r.1.copies y j c e);
  parent = λ j c e. back c (at_snoc r.1.copies y j c e);
  value = λ j c e. held c (at_snoc r.1.copies y j c e);
}
  where
    x : Slot
    x = slot_for s (fresh s r.1) b

    y : Copy
    y = record { scope = s; parent = r.0; child = fresh s r.1; id = b.id }

    low : {j : ℕ} (c : Copy) → (get_elem? r.1.copies j ≡ some c) ⊎ ((j ≡ length r.1.copies) × (y ≡ c)) → c.child < fresh_in c.scope (r.1.slots ++ (x ∷ []))
    low {j} c (inl e) = omega (arith, h.child j c e, fresh_up c.scope r.1.slots x)
    low c (inr e) = subst (λ (c : Copy). c.child < fresh_in c.scope (r.1.slots ++ (x ∷ []))) e.1 (omega (arith, fresh_at r.1.slots x))

    back : {j : ℕ} (c : Copy) → (get_elem? r.1.copies j ≡ some c) ⊎ ((j ≡ length r.1.copies) × (y ≡ c)) → from_in c.scope c.child (r.1.copies ++ (y ∷ [])) ≡ some c.parent
    back {j} c (inl e) = from_old c.scope c.child c.parent r.1.copies y (h.parent j c e)
    back c (inr e) = subst (λ (c : Copy). from_in c.scope c.child (r.1.copies ++ (y ∷ [])) ≡ some c.parent) e.1
        (from_here r.1.copies y (no_copy s (fresh s r.1) r.1.copies r.1.slots h.child (omega arith)))

    held : {j : ℕ} (c : Copy) → (get_elem? r.1.copies j ≡ some c) ⊎ ((j ≡ length r.1.copies) × (y ≡ c)) → value_in c.scope c.child (r.1.slots ++ (x ∷ [])) ≡ some c.id
    held {j} c (inl e) = value_old c.scope c.child c.id r.1.slots x (h.value j c e)
    held c (inr e) = subst (λ (c : Copy). value_in c.scope c.child (r.1.slots ++ (x ∷ [])) ≡ some c.id) e.1
        (value_here r.1.slots x (no_value s (fresh s r.1) r.1.slots h.under (omega arith)))

pub places : Kept Placed
unfolding add new naming logged
places = record {
  adds = λ s v st h. placed_slot st (slot_for s (fresh s st) (new s v st)) (unfold slot_for in refl) h _ _ _;
  names = λ ts bs st h. record { under = h.under; child = h.child; parent = h.parent; value = h.value };
  copies = placed_copy;
  logs = λ at n ss f st h. record { under = h.under; child = h.child; parent = h.parent; value = h.value };
}

pub placed : (F : File) → Placed (resolved F)
placed F = every Placed places F (unfold start in record {
  under = λ j r e. absurd (none-some refl e);
  child = λ j c e. absurd (none-some refl e);
  parent = λ j c e. absurd (none-some refl e);
  value = λ j c e. absurd (none-some refl e);
})

-- a lookup's slot is one of its scope, and holds its binding
pub lead_top : (st : St) (ss : List ℕ) (k : ℕ) (b : Binding) → Lead st ss k b → (k < fresh_in (top ss) st.slots) × (value_in (top ss) k st.slots ≡ some b.id)
unfolding Lead top
lead_top st [] k b l = absurd l
lead_top st (s ∷ ss) k b l = (l.0, l.1)

pub record SlotFits (st : St) (ss : List ℕ) (b : Binding) (k : ℕ) : Type 0 where
  pub below : k < fresh_in (top ss) st.slots
  pub holds_it : value_in (top ss) k st.slots ≡ some b.id

pub answer_below : (F : File) → Scoped F → All (λ (e : Event). OfLocal (SlotFits (resolved F) e.scopes) e.found) (resolved F).log
answer_below F ok j e q = of_local (Led (resolved F) e.name e.scopes) (SlotFits (resolved F) e.scopes) (λ b k l. let h = lead_top (resolved F) e.scopes k b l.leads in record { below = h.0; holds_it = h.1 }) e.found ((last F ok).led j e q)

-- a scope has one copy of a binding at most
pub copied_in : (s : ℕ) (cs : List Copy) (j : ℕ) (c : Copy) → get_elem? cs j ≡ some c → c.scope ≡ s → In c.id (copied s cs)
unfolding copied picked
copied_in s [] j c e q = absurd (none-some refl e)
copied_in s (x ∷ cs) zero c e q = let z : x ≡ c = cc in subst (λ (y : Copy). In c.id (cond (eqb y.scope s) (y.id ∷ copied s cs) (copied s cs))) (sym z) (rw (q, eqb_self s) (inl refl))
copied_in s (x ∷ cs) (suc j) c e q = go (eqb x.scope s) (copied_in s cs j c e q)
  where
    go : (b : Bool) → In c.id (copied s cs) → In c.id (cond b (x.id ∷ copied s cs) (copied s cs))
    go true m = inr m
    go false m = m

pub not-twice : (s : ℕ) (x : Copy) (cs : List Copy) → Distinct (copied s (x ∷ cs)) → x.scope ≡ s → In x.id (copied s cs) → ⊥
unfolding copied picked
not-twice s x cs h q m = go (rw (q, eqb_self s) at h)
  where
    go : Distinct (x.id ∷ copied s cs) → ⊥
    go d = d.0 m

same_copy : (s : ℕ) (cs : List Copy) → Distinct (copied s cs) → (i j : ℕ) (c d : Copy) → get_elem? cs i ≡ some c → get_elem? cs j ≡ some d → c.scope ≡ s → d.scope ≡ s → c.id ≡ d.id → c ≡ d
unfolding copied picked
same_copy s [] h i j c d e q m n z = absurd (none-some refl e)
same_copy s (x ∷ cs) h zero zero c d e q m n z = cc
same_copy s (x ∷ cs) h zero (suc j) c d e q m n z = absurd (let w : x ≡ c = cc in not-twice s x cs h (ap (λ (y : Copy). y.scope) w ∙ m) (subst (λ i. In i (copied s cs)) (sym z ∙ sym (ap (λ (y : Copy). y.id) w)) (copied_in s cs j d q n)))
same_copy s (x ∷ cs) h (suc i) zero c d e q m n z = absurd (let w : x ≡ d = cc in not-twice s x cs h (ap (λ (y : Copy). y.scope) w ∙ n) (subst (λ i. In i (copied s cs)) (z ∙ sym (ap (λ (y : Copy). y.id) w)) (copied_in s cs i c e m)))
same_copy s (x ∷ cs) h (suc i) (suc j) c d e q m n z = same_copy s cs (fewer (eqb x.scope s) h) i j c d e q m n z
  where
    fewer : (b : Bool) → Distinct (cond b (x.id ∷ copied s cs) (copied s cs)) → Distinct (copied s cs)
    fewer true h = h.1
    fewer false h = h

-- the copy into scope t that a lookup goes through
pub record Through (chain : ℕ → List ℕ) (st : St) (t : ℕ) (b : Binding) : Type 0 where
  pub outer : List ℕ
  pub slot : ℕ
  pub from : ℕ
  pub stands : chain t ≡ t ∷ outer
  pub copies_it : from_in t slot st.copies ≡ some from
  pub holds_it : value_in t slot st.slots ≡ some b.id
  pub leads : Lead st outer from b

through : (chain : ℕ → List ℕ) (st : St) (t : ℕ) (ss : List ℕ) (k : ℕ) (b : Binding) → Chained chain ss → Lead st ss k b → Between t ss b → Through chain st t b
unfolding Lead
through chain st t [] k b c l w = absurd l
through chain st t (s ∷ ss) k b c l w = go (opened (from_in s k st.copies)) l.2 w.1 (λ p m v. through chain st t ss p b c.1 m v)
  where
    go : Opened (from_in s k st.copies) → LeadBy (from_in s k st.copies) s k b (λ p. Lead st ss p b) → (t ≡ s) ⊎ Between t ss b
        → ((p : ℕ) → Lead st ss p b → Between t ss b → Through chain st t b) → Through chain st t b
    go (absent q) m v rec = absurd (w.0 (let y : (s ≡ b.owner) × (k ≡ b.slot) = (unfold LeadBy in (rw q at m)) in y.0))
    go (present p q) m (inl e) rec = subst (λ t. Through chain st t b) (sym e) (record { outer = ss; slot = k; from = p; stands = c.0; copies_it = q; holds_it = l.1; leads = (unfold LeadBy in (rw q at m)) })
    go (present p q) m (inr v) rec = rec p (unfold LeadBy in (rw q at m)) v

pub through_some : (F : File) (ok : Scoped F) (t i : ℕ) → In i (copied t (resolved F).copies) → (b : Binding) × (i ≡ b.id) × Through (around F ok) (resolved F) t b
through_some F ok t i m = go ((last F ok).needed t i m)
  where
    go : Needs t i (resolved F).log → (b : Binding) × (i ≡ b.id) × Through (around F ok) (resolved F) t b
    go (j, e, q, n) = let r = needing (Led (resolved F) e.name e.scopes) t i e.scopes e.found ((last F ok).led j e q) n in
        (r.0, r.3, through (around F ok) (resolved F) t e.scopes r.1 r.0 (nested_chained (around F ok) e.scopes ((last F ok).nests j e q)) r.2.leads r.4)

-- nothing is copied into the module's own scope: no scope is around it
pub none-outermost : (F : File) → Scoped F → (i : ℕ) → In i (copied 0 (resolved F).copies) → ⊥
none-outermost F ok i m = let r = through_some F ok 0 i m in alone r.2.outer r.2.from r.0 (sym (around_0 F ok) ∙ r.2.stands) r.2.leads
  where
    alone : (l : List ℕ) (p : ℕ) (b : Binding) → 0 ∷ [] ≡ 0 ∷ l → Lead (resolved F) l p b → ⊥
    alone [] p b e h = unfold Lead in h
    alone (x ∷ l) p b e h = omega (arith, ap length e)

-- a copy's parent is a slot of the scope directly around, and holds the same binding
pub record FromAround (chain : ℕ → List ℕ) (st : St) (c : Copy) : Type 0 where
  pub outer : List ℕ
  pub stands : chain c.scope ≡ c.scope ∷ outer
  pub below : c.parent < fresh_in (top outer) st.slots
  pub same : value_in (top outer) c.parent st.slots ≡ some c.id

pub copy_parent_lem : (F : File) (ok : Scoped F) (j : ℕ) (c : Copy) → get_elem? (resolved F).copies j ≡ some c → FromAround (around F ok) (resolved F) c
copy_parent_lem F ok j c e = go (through_some F ok c.scope c.id (copied_in c.scope (resolved F).copies j c e refl))
  where
    st : St
    st = resolved F

    found : (b : Binding) → c.id ≡ b.id → (w : Through (around F ok) st c.scope b) → (d : Copy) (i : ℕ) → get_elem? st.copies i ≡ some d → (d.scope ≡ c.scope) × (d.child ≡ w.slot) → d.parent ≡ w.from → c.parent ≡ w.from
    found b q w d i z m p = ap (λ (x : Copy). x.parent) (same_copy c.scope st.copies ((last F ok).fine.once c.scope) j i c d e z refl m.0 (q ∙ sym id)) ∙ p
      where
        id : d.id ≡ b.id
        id = let x : value_in c.scope w.slot st.slots ≡ some d.id = subst (λ k. value_in c.scope k st.slots ≡ some d.id) m.1 (subst (λ s. value_in s d.child st.slots ≡ some d.id) m.0 ((placed F).value i d z)) in
            let y : value_in c.scope w.slot st.slots ≡ some b.id = w.holds_it in cc

    parent_is : (b : Binding) → c.id ≡ b.id → (w : Through (around F ok) st c.scope b) → c.parent ≡ w.from
    parent_is b q w = let r = map_o_some (λ (c : Copy). c.parent) (first (copy_to c.scope w.slot) st.copies) w.from (unfold from_in in w.copies_it) in
        let s = first-at (copy_to c.scope w.slot) st.copies r.0 r.1 in
        let m = both_true (eqb r.0.scope c.scope) (eqb r.0.child w.slot) (unfold copy_to in s.2) in
        found b q w r.0 s.0 s.1 (eqb-true _ _ m.0, eqb-true _ _ m.1) r.2

    go : (b : Binding) × (c.id ≡ b.id) × Through (around F ok) st c.scope b → FromAround (around F ok) st c
    go (b, q, w) = let l = lead_top st w.outer w.from b w.leads in record {
      outer = w.outer;
      stands = w.stands;
      below = subst (λ p. p < fresh_in (top w.outer) st.slots) (sym (parent_is b q w)) l.0;
      same = subst (λ p. value_in (top w.outer) p st.slots ≡ some c.id) (sym (parent_is b q w)) (l.1 ∙ ap some (sym q));
    }

-- so every number in a copy is below the number of slots
pub copy_capacity : (F : File) → Scoped F → (j : ℕ) (c : Copy) → get_elem? (resolved F).copies j ≡ some c → (c.parent < length (resolved F).slots) × (c.child < length (resolved F).slots)
copy_capacity F ok j c e = let p = copy_parent_lem F ok j c e in (
  omega (arith, p.below, fresh_all (top p.outer) (resolved F).slots),
  omega (arith, (placed F).child j c e, fresh_all c.scope (resolved F).slots),
)

-- a local is at hand in a scope as its own slot there, or as the slot that it was copied into
pub hand-is : (F : File) → Scoped F → (s i : ℕ) (b : Binding) → get_elem? (resolved F).made i ≡ some b → b.local ≡ true → hand s i (resolved F) ≡ cond (eqb b.owner s) (some b.slot) (copy_hand s i (resolved F).copies)
hand-is F ok = (last F ok).fine.shared
