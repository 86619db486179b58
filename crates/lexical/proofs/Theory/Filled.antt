-- Slots and copies: a binding's own slot is filled by no copy, any other by one at most; following stops at an unfilled slot; every local that an Ident means has a slot there.
use Rattle.std.proofs.Math.Path.{◌≡◌, refl, ap, subst}
use Rattle.std.proofs.Common.{sym, ◌∙◌, inl, inr}
use mathlib.Core.List.{List, [], ◌∷◌}
use Rattle.std.specs.Prelude.{◌&&◌, Bool, true, false, cond, eqb}
use Rattle.std.proofs.Math.Option.{none, some}
use Prim.Native.Nat.{ℕ, zero, suc}
use Rattle.std.proofs.Math.ListN.{get_elem?}
use Rattle.lexical.specs.Lists.{picked, first, eqb_self, eqb-true, none-some, Opened, absent, present, opened}
use Rattle.lexical.specs.Places.{In, Distinct, first_no, map_o_none}
use Rattle.lexical.specs.Tree.{top, is_fn}
use Rattle.lexical.specs.Module.{File, outer_of}
use Rattle.lexical.specs.Meaning.{Around, Site, deeper, scopes_of, reach, declared, meaning}
use Rattle.lexical.specs.State.{Binding, Copy, Event, Found}
use Rattle.lexical.specs.Third.{hand, resolved}
use Rattle.lexical.specs.Follow.{copied, copy_to, from_in, value_in, follow_by, follow}
use Rattle.lexical.specs.Claims.{Scoped, sites_of, seen, view, told}
use Rattle.lexical.specs.Filled.{Stops, SlotFor}
use Rattle.lexical.proofs.Laws.Numbers.{made_at}
use Rattle.lexical.proofs.Laws.Below.{lead_top, copied_in, not-twice, none-outermost, placed}
use Rattle.lexical.proofs.Theory.Brought.{Between}
use Rattle.lexical.proofs.Theory.Chains.{Led, LedFound, Needs, needing}
use Rattle.lexical.proofs.Theory.Last.{last, around_head}
use Rattle.lexical.proofs.Theory.Lead.{Lead, follow_lead}
use Rattle.lexical.proofs.Theory.Outcome.{event_of, scopes_of_lem, name_of, meaning_of, means_local, means_refused, means_outside}
use Rattle.lexical.proofs.Theory.Slots.{both_true}

-- a binding is not brought into its own scope
not_between : (ss : List ℕ) (b : Binding) → Between b.owner ss b → ⊥
not_between (s ∷ ss) b (n, inl e) = n (sym e)
not_between (s ∷ ss) b (n, inr w) = not_between ss b w
not_between [] b x' = elim x' [ ]

-- a scope has one copy of a binding at most, so one record
same_place : (s : ℕ) (cs : List Copy) → Distinct (copied s cs) → (i j : ℕ) (c d : Copy) → get_elem? cs i ≡ some c → get_elem? cs j ≡ some d → c.scope ≡ s → d.scope ≡ s → c.id ≡ d.id → i ≡ j
unfolding copied picked
same_place s [] h i j c d e q m n z = absurd (none-some refl e)
same_place s (x ∷ cs) h zero zero c d e q m n z = refl
same_place s (x ∷ cs) h zero (suc j) c d e q m n z = absurd (let w : x ≡ c = cc in not-twice s x cs h (ap (λ (y : Copy). y.scope) w ∙ m) (subst (λ i. In i (copied s cs)) (sym z ∙ sym (ap (λ (y : Copy). y.id) w)) (copied_in s cs j d q n)))
same_place s (x ∷ cs) h (suc i) zero c d e q m n z = absurd (let w : x ≡ d = cc in not-twice s x cs h (ap (λ (y : Copy). y.scope) w ∙ n) (subst (λ i. In i (copied s cs)) (z ∙ sym (ap (λ (y : Copy). y.id) w)) (copied_in s cs i c e m)))
same_place s (x ∷ cs) h (suc i) (suc j) c d e q m n z = ap suc (same_place s cs (fewer (eqb x.scope s) h) i j c d e q m n z)
  where
    fewer : (b : Bool) → Distinct (cond b (x.id ∷ copied s cs) (copied s cs)) → Distinct (copied s cs)
    fewer true h = h.1
    fewer false h = h

module _ (F : File) (ok : Scoped F) where
  not_own : (i : ℕ) (b : Binding) → get_elem? (resolved F).made i ≡ some b → In i (copied b.owner (resolved F).copies) → ⊥
  not_own i b e m = go ((last F ok).needed b.owner i m)
    where
      go : Needs b.owner i (resolved F).log → ⊥
      go (j, v, q, n) = let r = needing (Led (resolved F) v.name v.scopes) b.owner i v.scopes v.found ((last F ok).led j v q) n in
          let k : get_elem? (resolved F).made i ≡ some r.0 = subst (λ x. get_elem? (resolved F).made x ≡ some r.0) (sym r.3) r.2.known in
          let z : r.0 ≡ b = cc in
          not_between v.scopes r.0 (subst (λ (x : Binding). Between x.owner v.scopes r.0) (sym z) r.4)

  -- a local's own slot holds it
  own_value : (i : ℕ) (b : Binding) → get_elem? (resolved F).made i ≡ some b → b.local ≡ true → value_in b.owner b.slot (resolved F).slots ≡ some b.id
  unfolding top
  own_value i b e l =
      let h : hand b.owner i (resolved F) ≡ some b.slot = (last F ok).fine.shared b.owner i b e l ∙ (rw (eqb_self b.owner) refl) in
      let p = around_head F ok b.owner in
      let m = lead_top (resolved F) (b.owner ∷ p.0) b.slot b (subst (λ c. Lead (resolved F) c b.slot b) p.1 ((last F ok).fine.handy b.owner i b.slot b h e)) in
      m.1

  -- so the record that would fill it would be a copy of it into its own scope
  pub own_unfilled : (i : ℕ) (b : Binding) → get_elem? (resolved F).made i ≡ some b → b.local ≡ true → (j : ℕ) (c : Copy) → get_elem? (resolved F).copies j ≡ some c → c.scope ≡ b.owner → c.child ≡ b.slot → ⊥
  own_unfilled i b e l j c q s k =
      let v : value_in b.owner b.slot (resolved F).slots ≡ some c.id = subst (λ x. value_in b.owner x (resolved F).slots ≡ some c.id) k (subst (λ x. value_in x c.child (resolved F).slots ≡ some c.id) s ((placed F).value j c q)) in
      let w = own_value i b e l in
      let z : c.id ≡ b.id = cc in
      let n : b.id ≡ i = made_at F i b e in
      not_own i b e (subst (λ x. In x (copied b.owner (resolved F).copies)) (z ∙ n) (copied_in b.owner (resolved F).copies j c q s))

  -- no copy is found for it, so following from it ends at once
  unfilled : (s k : ℕ) → ((j : ℕ) (c : Copy) → get_elem? (resolved F).copies j ≡ some c → c.scope ≡ s → c.child ≡ k → ⊥) → from_in s k (resolved F).copies ≡ none
  unfolding from_in
  unfilled s k h = map_o_none _ _ (first_no (copy_to s k) (resolved F).copies (λ j c q t. let p = both_true (eqb c.scope s) (eqb c.child k) (unfold copy_to in t) in h j c q (eqb-true _ _ p.0) (eqb-true _ _ p.1)))

  pub own_stops : (i : ℕ) (b : Binding) → get_elem? (resolved F).made i ≡ some b → b.local ≡ true → (ss : List ℕ) → follow (resolved F).copies (b.owner ∷ ss) b.slot ≡ (b.owner, b.slot)
  unfolding follow follow_by
  own_stops i b e l ss = rw (unfilled b.owner b.slot (λ j c q. own_unfilled i b e l j c q)) refl

  -- two records that fill one slot are one
  same_value : (s k i j : ℕ) (c d : Copy) → get_elem? (resolved F).copies i ≡ some c → get_elem? (resolved F).copies j ≡ some d → c.scope ≡ s → d.scope ≡ s → c.child ≡ k → d.child ≡ k → c.id ≡ d.id
  same_value s k i j c d e q m n x y =
      let v : value_in s k (resolved F).slots ≡ some c.id = subst (λ t. value_in s t (resolved F).slots ≡ some c.id) x (subst (λ t. value_in t c.child (resolved F).slots ≡ some c.id) m ((placed F).value i c e)) in
      let w : value_in s k (resolved F).slots ≡ some d.id = subst (λ t. value_in s t (resolved F).slots ≡ some d.id) y (subst (λ t. value_in t d.child (resolved F).slots ≡ some d.id) n ((placed F).value j d q)) in cc

  pub filled_once : (i j : ℕ) (c d : Copy) → get_elem? (resolved F).copies i ≡ some c → get_elem? (resolved F).copies j ≡ some d → c.scope ≡ d.scope → c.child ≡ d.child → i ≡ j
  filled_once i j c d e q s k = same_place d.scope (resolved F).copies ((last F ok).fine.once d.scope) i j c d e q s refl (same_value d.scope d.child i j c d e q s refl k refl)

  -- two locals with one slot are one
  pub slots_apart : (i j : ℕ) (b c : Binding) → get_elem? (resolved F).made i ≡ some b → get_elem? (resolved F).made j ≡ some c → b.local ≡ true → c.local ≡ true → b.owner ≡ c.owner → b.slot ≡ c.slot → i ≡ j
  slots_apart i j b c e q l m o k =
      let v : value_in c.owner c.slot (resolved F).slots ≡ some b.id = subst (λ t. value_in c.owner t (resolved F).slots ≡ some b.id) k (subst (λ t. value_in t b.slot (resolved F).slots ≡ some b.id) o (own_value i b e l)) in
      let w = own_value j c q m in
      let z : b.id ≡ c.id = cc in
      sym (made_at F i b e) ∙ z ∙ made_at F j c q

  -- following stops within the scopes: the last of them is the module's, which no copy fills
  last_unfilled : (k : ℕ) → from_in 0 k (resolved F).copies ≡ none
  last_unfilled k = unfilled 0 k (λ j c q s x. none-outermost F ok c.id (copied_in 0 (resolved F).copies j c q s))

  stop_here : (s k : ℕ) (ss : List ℕ) → from_in s k (resolved F).copies ≡ none → Stops (resolved F).copies (s ∷ ss) k
  unfolding follow follow_by
  stop_here s k ss e = let z : follow (resolved F).copies (s ∷ ss) k ≡ (s, k) = rw e refl in record { within = rw z (inl refl); unfilled = rw z e }

  stop_further : (s k p : ℕ) (ss : List ℕ) → from_in s k (resolved F).copies ≡ some p → Stops (resolved F).copies ss p → Stops (resolved F).copies (s ∷ ss) k
  unfolding follow follow_by
  stop_further s k p ss e h = let z : follow (resolved F).copies (s ∷ ss) k ≡ follow (resolved F).copies ss p = rw e refl in let Inside : ℕ × ℕ → Type 0 = λ x. In x.0 (s ∷ ss) in record { within = subst Inside (sym z) (inr h.within); unfilled = rw z h.unfilled }

  deeper_stops : (b : Bool) (s : ℕ) (ss : List ℕ) → ((k : ℕ) → Stops (resolved F).copies ss k) → (k : ℕ) → Stops (resolved F).copies (cond b (s ∷ ss) ss) k
  deeper_stops false s ss h k = h k
  deeper_stops true s ss h k = go (opened (from_in s k (resolved F).copies))
    where
      go : Opened (from_in s k (resolved F).copies) → Stops (resolved F).copies (s ∷ ss) k
      go (absent e) = stop_here s k ss e
      go (present p e) = stop_further s k p ss e (h p)

  pub stops : (up : List Around) (k : ℕ) → Stops (resolved F).copies (scopes_of up) k
  unfolding scopes_of deeper
  stops [] k = stop_here 0 k [] (last_unfilled k)
  stops (a ∷ up) k = deeper_stops (is_fn a.way && reach a.way a.first a.last) a.scope (scopes_of up) (stops up) k

  -- the slot of a local that an Ident means
  pub slot_of_lem : (s : Site) (e : Event) (o d : ℕ) → view e ≡ told (outer_of F) s → LedFound (resolved F) e.name e.scopes e.found → declared s.name s.above ≡ some (o, d) → SlotFor F s o d
  unfolding seen meaning
  slot_of_lem s e o d q l m = go e.found l (meaning_of F e s q)
    where
      found : (b : Binding) (k : ℕ) → Led (resolved F) e.name e.scopes b k → declared s.name s.above ≡ some (b.owner, b.var.source) → SlotFor F s o d
      found b k h z =
          let w : ◌≡◌ {A = ℕ × ℕ} (b.owner, b.var.source) (o, d) = cc in
          let lead : Lead (resolved F) (scopes_of s.above) k b = subst (λ c. Lead (resolved F) c k b) (scopes_of_lem F e s q) h.leads in record {
            binding = b;
            slot = k;
            of_scope_lem = (lead_top (resolved F) (scopes_of s.above) k b lead).0;
            known = h.known;
            owner = ap (λ (p : ℕ × ℕ). p.0) w;
            source = ap (λ (p : ℕ × ℕ). p.1) w;
            named = h.named ∙ name_of F e s q;
            is_local = h.is_local;
            home = follow_lead (resolved F) (scopes_of s.above) k b lead ∙ ap (λ x. (x, b.slot)) (ap (λ (p : ℕ × ℕ). p.0) w);
          }

      go : (f : Found) → LedFound (resolved F) e.name e.scopes f → seen f ≡ meaning (outer_of F) s → SlotFor F s o d
      go (Found.local b k) h z = found b k h (means_local _ _ _ _ z)
      go (Found.refused b k) h z = found b k h (means_refused _ _ _ _ z)
      go (Found.outside u) h z = absurd (none-some (means_outside _ _ _ u z).0 m)

  pub slot_for_lem : (j : ℕ) (s : Site) → get_elem? (sites_of F) j ≡ some s → (o d : ℕ) → declared s.name s.above ≡ some (o, d) → SlotFor F s o d
  slot_for_lem j s q o d m = let r = event_of F ok j s q in slot_of_lem s r.0 o d (sym r.2) ((last F ok).led j r.0 r.1) m
