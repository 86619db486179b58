-- One slot more, one copy more: what is at hand, what a slot holds, where it was copied from.
use Rattle.std.specs.Prelude.{◌≡◌, refl, ◌⊎◌, List, [], ◌∷◌, ◌++◌, Bool, true, false, cond, ◌&&◌, ℕ, suc, ◌≤◌, eqb}
use Rattle.std.proofs.Math.Path.{sym, ap₂}
use Rattle.std.proofs.Common.{◌∙◌, ap, inl, arith}
use Rattle.std.proofs.Math.Logic.{inr}
use Rattle.std.proofs.Math.Option.{none, some}
use Rattle.lexical.specs.Lists.{picked, picked_snoc, first, map_o, or_else, eqb-true, eqb_self, none-some, Tested, was, wasnt, tested, Opened, absent, present, opened, or_else_none, map_o_or_else, map_o_cond, first_append, count_snoc}
use Rattle.lexical.specs.Places.{In}
use Rattle.lexical.specs.State.{Slot, Copy}
use Rattle.lexical.specs.Block.{in_scope, fresh_in}
use Rattle.lexical.specs.Third.{holds, hand_in}
use Rattle.lexical.specs.Follow.{copy_of, copy_hand, copy_to, from_in, slot_at, value_in, copied}

-- one more at the end
pub hand_snoc : (s i : ℕ) (rs : List Slot) (r : Slot) → hand_in s i (rs ++ (r ∷ [])) ≡ or_else (hand_in s i rs) (cond (holds s i r) (some r.num) none)
unfolding hand_in first
hand_snoc s i rs r = ap (map_o _) (first_append (holds s i) rs (r ∷ [])) ∙ map_o_or_else _ _ _ ∙ ap (or_else (hand_in s i rs)) (unfold map_o in map_o_cond _ (holds s i r) r none)

pub from_snoc : (s k : ℕ) (cs : List Copy) (c : Copy) → from_in s k (cs ++ (c ∷ [])) ≡ or_else (from_in s k cs) (cond (copy_to s k c) (some c.parent) none)
unfolding from_in first
from_snoc s k cs c = ap (map_o _) (first_append (copy_to s k) cs (c ∷ [])) ∙ map_o_or_else _ _ _ ∙ ap (or_else (from_in s k cs)) (unfold map_o in map_o_cond _ (copy_to s k c) c none)

pub value_snoc : (s k : ℕ) (rs : List Slot) (r : Slot) → value_in s k (rs ++ (r ∷ [])) ≡ or_else (value_in s k rs) (cond (slot_at s k r) (some r.id) none)
unfolding value_in first
value_snoc s k rs r = ap (map_o _) (first_append (slot_at s k) rs (r ∷ [])) ∙ map_o_or_else _ _ _ ∙ ap (or_else (value_in s k rs)) (unfold map_o in map_o_cond _ (slot_at s k r) r none)

pub fresh_snoc : (s : ℕ) (rs : List Slot) (r : Slot) → fresh_in s (rs ++ (r ∷ [])) ≡ cond (eqb r.scope s) (suc (fresh_in s rs)) (fresh_in s rs)
unfolding fresh_in in_scope
fresh_snoc s rs r = count_snoc (in_scope s) rs r

pub copied_snoc : (s : ℕ) (cs : List Copy) (c : Copy) → copied s (cs ++ (c ∷ [])) ≡ copied s cs ++ cond (eqb c.scope s) (c.id ∷ []) []
unfolding copied
copied_snoc s cs c = picked_snoc (λ (c : Copy). eqb c.scope s) (λ c. c.id) cs c

pub both_true : (a b : Bool) → (a && b) ≡ true → (a ≡ true) × (b ≡ true)
both_true true b e = (refl, e)
both_true false b e = absurd (let y : ◌≡◌ {A = ℕ} 0 1 = cc in omega arith)

not-both : (a b : Bool) → (a ≡ true → b ≡ true → ⊥) → (a && b) ≡ false
not-both true true h = absurd (h refl refl)
not-both true false h = refl
not-both false b h = refl

holds_not : (s i : ℕ) (r : Slot) → (r.scope ≡ s → r.id ≡ i → ⊥) → holds s i r ≡ false
unfolding holds
holds_not s i r h = not-both _ _ (λ p q. h (eqb-true _ _ p) (eqb-true _ _ q))

copy_to-not : (s k : ℕ) (c : Copy) → (c.scope ≡ s → c.child ≡ k → ⊥) → copy_to s k c ≡ false
unfolding copy_to
copy_to-not s k c h = not-both _ _ (λ p q. h (eqb-true _ _ p) (eqb-true _ _ q))

slot_at_not : (s k : ℕ) (r : Slot) → (r.scope ≡ s → r.num ≡ k → ⊥) → slot_at s k r ≡ false
unfolding slot_at
slot_at_not s k r h = not-both _ _ (λ p q. h (eqb-true _ _ p) (eqb-true _ _ q))

pub value_other : (s k : ℕ) (rs : List Slot) (r : Slot) → (r.scope ≡ s → r.num ≡ k → ⊥) → value_in s k (rs ++ (r ∷ [])) ≡ value_in s k rs
value_other s k rs r h = value_snoc s k rs r ∙ (rw (slot_at_not s k r h) (or_else_none _))

pub value_here : (rs : List Slot) (r : Slot) → value_in r.scope r.num rs ≡ none → value_in r.scope r.num (rs ++ (r ∷ [])) ≡ some r.id
unfolding slot_at or_else
value_here rs r e = value_snoc r.scope r.num rs r ∙ (rw (e, eqb_self r.scope, eqb_self r.num) refl)

pub value_old : (s k i : ℕ) (rs : List Slot) (r : Slot) → value_in s k rs ≡ some i → value_in s k (rs ++ (r ∷ [])) ≡ some i
unfolding or_else
value_old s k i rs r e = value_snoc s k rs r ∙ (rw e refl)

pub hand_other : (s i : ℕ) (rs : List Slot) (r : Slot) → (r.scope ≡ s → r.id ≡ i → ⊥) → hand_in s i (rs ++ (r ∷ [])) ≡ hand_in s i rs
hand_other s i rs r h = hand_snoc s i rs r ∙ (rw (holds_not s i r h) (or_else_none _))

pub hand_here : (rs : List Slot) (r : Slot) → hand_in r.scope r.id rs ≡ none → hand_in r.scope r.id (rs ++ (r ∷ [])) ≡ some r.num
unfolding holds or_else
hand_here rs r e = hand_snoc r.scope r.id rs r ∙ (rw (e, eqb_self r.scope, eqb_self r.id) refl)

pub hand_old : (s i k : ℕ) (rs : List Slot) (r : Slot) → hand_in s i rs ≡ some k → hand_in s i (rs ++ (r ∷ [])) ≡ some k
unfolding or_else
hand_old s i k rs r e = hand_snoc s i rs r ∙ (rw e refl)

pub record Handed (s i k : ℕ) (rs : List Slot) (r : Slot) : Type 0 where
  pub was_none : hand_in s i rs ≡ none
  pub at_scope : r.scope ≡ s
  pub of_id : r.id ≡ i
  pub at_num : r.num ≡ k

pub handed : (s i k : ℕ) (rs : List Slot) (r : Slot) → hand_in s i (rs ++ (r ∷ [])) ≡ some k → (hand_in s i rs ≡ some k) ⊎ Handed s i k rs r
handed s i k rs r e = go (opened (hand_in s i rs)) (tested (holds s i r))
  where
    here : (eqb r.scope s ≡ true) × (eqb r.id i ≡ true) → hand_in s i rs ≡ none → r.num ≡ k → Handed s i k rs r
    here p z n = record { was_none = z; at_scope = eqb-true _ _ p.0; of_id = eqb-true _ _ p.1; at_num = n }

    go : Opened (hand_in s i rs) → Tested (holds s i r) → (hand_in s i rs ≡ some k) ⊎ Handed s i k rs r
    go (present a q) t = inl (q ∙ (unfold or_else in (ap (λ o. or_else o (cond (holds s i r) (some r.num) none)) (sym q)) ∙ sym (hand_snoc s i rs r) ∙ e))
    go (absent q) (was t) = inr (here (both_true _ _ (unfold holds in t)) q (num (unfold or_else in ap₂ (λ o (b : Bool). or_else o (cond b (some r.num) none)) (sym q) (sym t))))
      where
        num : some r.num ≡ or_else (hand_in s i rs) (cond (holds s i r) (some r.num) none) → r.num ≡ k
        num z = let y : some r.num ≡ some k = z ∙ sym (hand_snoc s i rs r) ∙ e in cc
    go (absent q) (wasnt t) = absurd (none-some {o = hand_in s i (rs ++ (r ∷ []))} (hand_snoc s i rs r ∙ (rw (q, t) (unfold or_else in refl))) e)

pub from_other : (s k : ℕ) (cs : List Copy) (c : Copy) → (c.scope ≡ s → c.child ≡ k → ⊥) → from_in s k (cs ++ (c ∷ [])) ≡ from_in s k cs
from_other s k cs c h = from_snoc s k cs c ∙ (rw (copy_to-not s k c h) (or_else_none _))

pub from_here : (cs : List Copy) (c : Copy) → from_in c.scope c.child cs ≡ none → from_in c.scope c.child (cs ++ (c ∷ [])) ≡ some c.parent
unfolding copy_to or_else
from_here cs c e = from_snoc c.scope c.child cs c ∙ (rw (e, eqb_self c.scope, eqb_self c.child) refl)

pub fresh_up : (s : ℕ) (rs : List Slot) (r : Slot) → fresh_in s rs ≤ fresh_in s (rs ++ (r ∷ []))
fresh_up s rs r = rw (fresh_snoc s rs r) (go (eqb r.scope s) _)
  where
    go : (b : Bool) (n : ℕ) → n ≤ cond b (suc n) n
    go true n = omega arith
    go false n = omega arith

pub fresh_at : (rs : List Slot) (r : Slot) → fresh_in r.scope (rs ++ (r ∷ [])) ≡ suc (fresh_in r.scope rs)
fresh_at rs r = fresh_snoc r.scope rs r ∙ (rw (eqb_self r.scope) refl)

pub copy_hand_snoc : (s i : ℕ) (cs : List Copy) (c : Copy) → copy_hand s i (cs ++ (c ∷ [])) ≡ or_else (copy_hand s i cs) (cond (eqb c.scope s && eqb c.id i) (some c.child) none)
unfolding copy_hand first
copy_hand_snoc s i cs c = ap (map_o _) (first_append (copy_of s i) cs (c ∷ [])) ∙ map_o_or_else _ _ _ ∙ ap (or_else (copy_hand s i cs)) (unfold map_o copy_of in map_o_cond _ (copy_of s i c) c none)

pub copied_of : (s i k : ℕ) (cs : List Copy) → copy_hand s i cs ≡ some k → In i (copied s cs)
unfolding copy_hand first map_o copied picked
copied_of s i k [] e = absurd (none-some refl e)
copied_of s i k (c ∷ cs) e = go (tested (copy_of s i c)) e (λ z. copied_of s i k cs z)
  where
    more : (b : Bool) → In i (copied s cs) → In i (cond b (c.id ∷ copied s cs) (copied s cs))
    more true m = inr m
    more false m = m

    here : (eqb c.scope s ≡ true) × (eqb c.id i ≡ true) → In i (cond (eqb c.scope s) (c.id ∷ copied s cs) (copied s cs))
    here p = rw p.0 (inl (sym (eqb-true c.id i p.1)))

    go : Tested (copy_of s i c) → map_o (λ (c : Copy). c.child) (cond (copy_of s i c) (some c) (first (copy_of s i) cs)) ≡ some k → (copy_hand s i cs ≡ some k → In i (copied s cs))
        → In i (cond (eqb c.scope s) (c.id ∷ copied s cs) (copied s cs))
    go (was t) z rec = here (both_true (eqb c.scope s) (eqb c.id i) (unfold copy_of in t))
    go (wasnt t) z rec = more (eqb c.scope s) (rec (rw t at z))
