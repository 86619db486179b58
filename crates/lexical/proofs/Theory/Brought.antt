-- A local brought to the innermost scope, a block's variables bound: what holds then.
use Rattle.std.specs.Prelude.{◌≡◌, ◌⊎◌, List, [], ◌∷◌, map, true, cond, ℕ, ◌≤◌, length}
use Rattle.std.proofs.Math.Path.{refl, subst}
use Rattle.std.proofs.Common.{sym, ◌∙◌, ap, inr, arith}
use Rattle.std.proofs.Math.Logic.{inl}
use Rattle.std.proofs.Math.Option.{none, some}
use Rattle.std.proofs.Math.ListN.{get_elem?}
use Rattle.lexical.specs.Lists.{first, none-some, Tested, was, wasnt, tested, Opened, absent, present, opened}
use Rattle.lexical.specs.Places.{all_map, all_append, at_end, In}
use Rattle.lexical.specs.Binders.{Target, Var, merge}
use Rattle.lexical.specs.State.{Binding, St, Named}
use Rattle.lexical.specs.Block.{fresh, slot_for, new, add, bind, name_of, naming, block, called}
use Rattle.lexical.specs.Third.{hand, copy_in, bring_to, bring}
use Rattle.lexical.specs.Follow.{copied}
use Rattle.lexical.specs.Claims.{Titled}
use Rattle.lexical.proofs.Theory.Fine.{copy_lead, in_copied, add_fine, copy_ext, add_ext, copy_fine, Fine}
use Rattle.lexical.proofs.Theory.Lead.{Ext_trans, Lead_ext, Lead, Ext-refl, Ext}
use Rattle.lexical.proofs.Theory.Same.{bind-named}
use Rattle.lexical.proofs.Theory.Slots.{hand_other, hand_here}

-- the scopes around a place
abbrev pub Chained : (ℕ → List ℕ) → List ℕ → Type 0
Chained chain [] = Unit {0}
Chained chain (s ∷ ss) = (chain s ≡ s ∷ ss) × Chained chain ss

chained_length : (chain : ℕ → List ℕ) (s : ℕ) (ss : List ℕ) → Chained chain ss → In s ss → length (chain s) ≤ length ss
chained_length chain s (t ∷ ss) h (inl e) = omega (arith, ap length (ap chain e ∙ h.0))
chained_length chain s (t ∷ ss) h (inr m) = omega (arith, chained_length chain s ss h.1 m)
chained_length chain s [] h x'' = elim x'' [ ]

not-around : (chain : ℕ → List ℕ) (s : ℕ) (ss : List ℕ) → Chained chain (s ∷ ss) → In s ss → ⊥
not-around chain s ss h m = omega (arith, chained_length chain s ss h.1 m, ap length h.0)

-- t stands among these scopes inside the one that owns b
abbrev pub Between : ℕ → List ℕ → Binding → Type 0
Between t [] b = ⊥
Between t (s ∷ ss) b = (s ≡ b.owner → ⊥) × ((t ≡ s) ⊎ Between t ss b)

-- a binding at home in one of these scopes
pub record Home (ss : List ℕ) (b : Binding) (st : St) : Type 0 where
  pub inside : In b.owner ss
  pub at_home : hand b.owner b.id st ≡ some b.slot
  pub is_known : get_elem? st.made b.id ≡ some b
  pub is_local : b.local ≡ true

pub home_ext : {st st' : St} (ss : List ℕ) (b : Binding) → Ext st st' → Home ss b st → Home ss b st'
home_ext ss b x h = record { inside = h.inside; at_home = x.hands _ _ _ h.at_home; is_known = x.known _ _ h.is_known; is_local = h.is_local }

pub record Brought (chain : ℕ → List ℕ) (ss : List ℕ) (b : Binding) (st : St) (r : ℕ × St) : Type 0 where
  pub fine : Fine chain r.1
  pub ext : Ext st r.1
  pub leads : Lead r.1 ss r.0 b
  pub others : (t i : ℕ) → (In t ss → ⊥) → hand t i r.1 ≡ hand t i st
  pub newer : (t i : ℕ) → In i (copied t r.1.copies) → In i (copied t st.copies) ⊎ ((i ≡ b.id) × Between t ss b)

module _ (chain : ℕ → List ℕ) (s : ℕ) (ss : List ℕ) (b : Binding) (st : St) (c : Chained chain (s ∷ ss)) (h : Fine chain st) (hm : Home (s ∷ ss) b st) where
  found_here : (k : ℕ) → hand s b.id st ≡ some k → Brought chain (s ∷ ss) b st (k, st)
  found_here k e = record {
    fine = h;
    ext = Ext-refl st;
    leads = subst (λ x. Lead st x k b) c.0 (h.handy s b.id k b e hm.is_known);
    others = λ t i n. refl;
    newer = λ t i m. inl m;
  }

  not_owner : hand s b.id st ≡ none → s ≡ b.owner → ⊥
  not_owner e q = none-some {o = hand s b.id st} e (subst (λ x. hand x b.id st ≡ some b.slot) (sym q) hm.at_home)

  around_home : hand s b.id st ≡ none → In b.owner (s ∷ ss) → Home ss b st
  around_home e (inl q) = absurd (not_owner e (sym q))
  around_home e (inr m) = record { inside = m; at_home = hm.at_home; is_known = hm.is_known; is_local = hm.is_local }

  copy_here : hand s b.id st ≡ none → (r : ℕ × St) → Brought chain ss b st r → Brought chain (s ∷ ss) b st (copy_in s b r)
  unfolding copy_in slot_for
  copy_here e r br = record {
    fine = copy_fine chain s ss c.0 b r br.fine still (br.ext.known _ _ hm.is_known) br.leads;
    ext = Ext_trans br.ext (copy_ext chain s ss c.0 b r);
    leads = subst (λ x. Lead (copy_in s b r).1 x (fresh s r.1) b) c.0 (copy_lead chain s ss c.0 b r br.fine br.leads);
    others = λ t i n. hand_other t i r.1.slots (slot_for s (fresh s r.1) b) (λ p q. n (inl (sym p))) ∙ br.others t i (λ m. n (inr m));
    newer = λ t i m. fresher t i (in_copied chain s ss c.0 t i r.1.copies _ m);
  }
    where
      still : hand s b.id r.1 ≡ none
      still = br.others s b.id (not-around chain s ss c) ∙ e

      older : (t i : ℕ) → In i (copied t st.copies) ⊎ ((i ≡ b.id) × Between t ss b) → In i (copied t st.copies) ⊎ ((i ≡ b.id) × Between t (s ∷ ss) b)
      older t i (inl m) = inl m
      older t i (inr m) = inr (m.0, (not_owner e, inr m.1))

      fresher : (t i : ℕ) → In i (copied t r.1.copies) ⊎ ((s ≡ t) × (i ≡ b.id)) → In i (copied t st.copies) ⊎ ((i ≡ b.id) × Between t (s ∷ ss) b)
      fresher t i (inl m) = older t i (br.newer t i m)
      fresher t i (inr m) = inr (m.1, (not_owner e, inl (sym m.0)))

pub brought : (chain : ℕ → List ℕ) (ss : List ℕ) (b : Binding) (st : St) → Chained chain ss → Fine chain st → Home ss b st → Brought chain ss b st (bring ss b st)
unfolding bring bring_to
brought chain [] b st c h hm = absurd hm.inside
brought chain (s ∷ ss) b st c h hm = go (opened (hand s b.id st)) (λ z. brought chain ss b st c.1 h z)
  where
    go : Opened (hand s b.id st) → (Home ss b st → Brought chain ss b st (bring ss b st)) → Brought chain (s ∷ ss) b st (bring_to (hand s b.id st) s b st (bring ss b st))
    go (present k e) rec = rw e (found_here chain s ss b st c h hm k e)
    go (absent e) rec = rw e (copy_here chain s ss b st c h hm e (bring ss b st) (rec (around_home chain s ss b st c h hm e hm.inside)))

-- a block's variables
pub record Bound (chain : ℕ → List ℕ) (s : ℕ) (st : St) (bs : List Binding) (st' : St) : Type 0 where
  pub fine : Fine chain st'
  pub ext : Ext st st'
  pub homes : (n : ℕ) (b : Binding) → first (called n) bs ≡ some b → Home (s ∷ []) b st'

pub home_in_lem : (s : ℕ) (ss : List ℕ) (b : Binding) (st : St) → In s ss → Home (s ∷ []) b st → Home ss b st
home_in_lem s ss b st m h = record { inside = go h.inside; at_home = h.at_home; is_known = h.is_known; is_local = h.is_local }
  where
    go : In b.owner (s ∷ []) → In b.owner ss
    go (inl e) = rw e m
    go (inr x') = elim x' [ ]

pub bound : (chain : ℕ → List ℕ) (s : ℕ) (ss : List ℕ) (here : chain s ≡ s ∷ ss) (vs : List Var) (st : St) → Fine chain st → Bound chain s st (bind s vs st).0 (bind s vs st).1
unfolding bind first
bound chain s ss here [] st h = record { fine = h; ext = Ext-refl st; homes = λ n b e. absurd (none-some refl e) }
bound chain s ss here (v ∷ vs) st h = go (bound chain s ss here vs (add s (new s v st) st) (add_fine chain s ss here v st h))
  where
    self : Home (s ∷ []) (new s v st) (add s (new s v st) st)
    self = unfold add new slot_for in record { inside = inl refl; at_home = hand_here st.slots (slot_for s (fresh s st) (new s v st)) (h.newid s (length st.made) (omega arith)); is_known = at_end st.made (new s v st); is_local = refl }

    go : Bound chain s (add s (new s v st) st) (bind s vs (add s (new s v st) st)).0 (bind s vs (add s (new s v st) st)).1 → Bound chain s st (new s v st ∷ (bind s vs (add s (new s v st) st)).0) (bind s vs (add s (new s v st) st)).1
    go x = record { fine = x.fine; ext = Ext_trans (add_ext chain s ss here (new s v st) st) x.ext; homes = λ n b e. pick n b (tested (called n (new s v st))) e }
      where
        pick : (n : ℕ) (b : Binding) → Tested (called n (new s v st)) → cond (called n (new s v st)) (some (new s v st)) (first (called n) (bind s vs (add s (new s v st) st)).0) ≡ some b → Home (s ∷ []) b (bind s vs (add s (new s v st) st)).1
        pick n b (was t) e = let q : some (new s v st) ≡ some b = rw t at e in let w : new s v st ≡ b = cc in subst (λ y. Home (s ∷ []) y (bind s vs (add s (new s v st) st)).1) w (home_ext (s ∷ []) (new s v st) x.ext self)
        pick n b (wasnt t) e = x.homes n b (rw t at e)

name_ext : (ts : List Target) (bs : List Binding) (st : St) → Ext st (naming ts bs st)
unfolding naming
name_ext ts bs st = record { grow = λ s. omega arith; hands = λ s i k e. e; known = λ i b e. e; values = λ s k i e. e; keeps = λ s k h. refl }

pub blocked : (chain : ℕ → List ℕ) (s : ℕ) (ss : List ℕ) (here : chain s ≡ s ∷ ss) (ts : List Target) (st : St) → Fine chain st → Bound chain s st (block s ts st).0 (block s ts st).1
unfolding block
blocked chain s ss here ts st h = named (bound chain s ss here (merge [] ts) st h)
  where
    bs : List Binding
    bs = (bind s (merge [] ts) st).0

    st₁ : St
    st₁ = (bind s (merge [] ts) st).1

    named : Bound chain s st bs st₁ → Bound chain s st bs (naming ts bs st₁)
    named x = record {
      fine = unfold naming in record { clean = x.fine.clean; unset = x.fine.unset; newid = x.fine.newid; handy = λ t i k b e e'. Lead_ext (name_ext ts bs st₁) (chain t) k b (x.fine.handy t i k b e e'); once = x.fine.once; had = x.fine.had; shared = x.fine.shared };
      ext = Ext_trans x.ext (name_ext ts bs st₁);
      homes = λ n b e. home_ext (s ∷ []) b (name_ext ts bs st₁) (x.homes n b e);
    }

pub titled_ext : {st st' : St} → Ext st st' → (xs : List Named) → Titled st xs → Titled st' xs
titled_ext x xs h j y e b q = x.known b.id b (h j y e b q)

pub titled_all : (st : St) (bs : List Binding) (ts : List Target) → ((n : ℕ) (b : Binding) → first (called n) bs ≡ some b → get_elem? st.made b.id ≡ some b) → Titled st (map (name_of bs) ts)
unfolding name_of
titled_all st bs ts h = all_map _ (name_of bs) ts (λ j t e b q. h t.name b q)

pub titled_block : (chain : ℕ → List ℕ) (s : ℕ) (ts : List Target) (st : St) → Bound chain s st (block s ts st).0 (block s ts st).1 → Titled st st.named → Titled (block s ts st).1 (block s ts st).1.named
unfolding block naming
titled_block chain s ts st x h = all_append _ (bind s (merge [] ts) st).1.named (map (name_of (block s ts st).0) ts)
    (subst (Titled (block s ts st).1) (sym (bind-named s (merge [] ts) st)) (titled_ext x.ext st.named h))
    (titled_all (block s ts st).1 (block s ts st).0 ts (λ n b e. (x.homes n b e).is_known))
