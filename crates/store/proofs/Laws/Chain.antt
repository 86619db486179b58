-- The chain of a binding's slots: the last slot that holds it, and for each slot the one before it.
use Rattle.std.specs.Prelude.{ℕ, suc, ◌+◌, ◌≤◌, ◌≡◌, refl, cond, List, [], ◌∷◌, ◌++◌, eqb, length, take}
use Rattle.std.proofs.Common.{sym, ap, ◌∙◌, append-nil, append_assoc, arith, zero-add, length-append, take_all}
use Rattle.std.proofs.Math.Option.{some}
use Rattle.std.proofs.Math.ListN.{get_elem?}
use Rattle.std.proofs.Math.Seq.{take-append_seam}
use Rattle.std.proofs.lemmas.List.{take-append-le}
use Rattle.lexical.specs.Lists.{eqb-true, eqb-false, Tested, was, wasnt, tested, Opened, absent, present, opened}
use Rattle.lexical.specs.Places.{at-below, at_end, at_left}
use Rattle.lexical.specs.State.{Slot}
use Rattle.lexical.specs.Third.{hand_in}
use Rattle.lexical.proofs.Theory.Slots.{hand_other}
use Rattle.store.specs.Sections.{or_zero}
use Rattle.store.specs.Image.{last_from, last_of, before}
use Rattle.store.proofs.Laws.Points.{at_others}

-- ---- one slot more

pub last_snoc : (i : ℕ) (rs : List Slot) (r : Slot) → last_of i (rs ++ (r ∷ [])) ≡ cond (eqb r.id i) (suc (length rs)) (last_of i rs)
unfolding last_from
last_snoc i rs r = go 0 0 rs ∙ ap (λ (n : ℕ). cond (eqb r.id i) (suc n) (last_of i rs)) (zero-add (length rs))
  where
    go : (k last : ℕ) (rs : List Slot) → last_from i k last (rs ++ (r ∷ [])) ≡ cond (eqb r.id i) (suc (k + length rs)) (last_from i k last rs)
    go k last [] = let e : k ≡ k + 0 = omega arith in ap (λ (n : ℕ). cond (eqb r.id i) (suc n) last) e
    go k last (x ∷ rs) =
        let e : suc k + length rs ≡ k + suc (length rs) = omega arith in
        go (suc k) (cond (eqb x.id i) (suc k) last) rs ∙ ap (λ (n : ℕ). cond (eqb r.id i) (suc n) (last_from i (suc k) (cond (eqb x.id i) (suc k) last) rs)) e

pub before_end : (rs : List Slot) (r : Slot) → before (rs ++ (r ∷ [])) (length rs) ≡ last_of r.id rs
unfolding before or_zero
before_end rs r = rw (at_end rs r, take-append_seam rs (r ∷ [])) refl

pub before_others : (rs : List Slot) (r : Slot) (j : ℕ) → (j ≡ length rs → ⊥) → before (rs ++ (r ∷ [])) j ≡ before rs j
unfolding before or_zero
before_others rs r j h = go (opened (get_elem? rs j))
  where
    go : Opened (get_elem? rs j) → before (rs ++ (r ∷ [])) j ≡ before rs j
    go (absent e) = rw (at_others rs r j h, e) refl
    go (present x e) = let l : j ≤ length rs = omega (arith, at-below rs j x e) in rw (at_others rs r j h, e, take-append-le j rs (r ∷ []) l) refl

-- ---- the last slot

-- place c - 1 is the last of these slots that holds binding i: no slot after it does
pub record Last (i : ℕ) (rs : List Slot) (c : ℕ) : Type 0 where
  pub few : c ≤ length rs
  pub here : (j : ℕ) (r : Slot) → c ≡ suc j → get_elem? rs j ≡ some r → r.id ≡ i
  pub hand : (s : ℕ) → hand_in s i rs ≡ hand_in s i (take c rs)

one_more : (i : ℕ) (rs : List Slot) (r : Slot) (c : ℕ) → Last i rs c → Last i (rs ++ (r ∷ [])) (cond (eqb r.id i) (suc (length rs)) c)
one_more i rs r c l = go (tested (eqb r.id i))
  where
    go : Tested (eqb r.id i) → Last i (rs ++ (r ∷ [])) (cond (eqb r.id i) (suc (length rs)) c)
    go (was e) =
        rw e (record {
          few = omega (arith, length-append rs (r ∷ []));
          here = λ j x q p. let n : j ≡ length rs = omega arith in let z : r ≡ x = cc (at_end rs r) in rw (← z) (eqb-true r.id i e);
          hand = λ s. ap (hand_in s i) (sym (take_all (suc (length rs)) (rs ++ (r ∷ [])) (omega (arith, length-append rs (r ∷ [])))));
        })
    go (wasnt e) =
        rw e (record {
          few = omega (arith, l.few, length-append rs (r ∷ []));
          here = λ j x q p. l.here j x q (sym (at_left rs (r ∷ []) j (omega (arith, l.few))) ∙ p);
          hand = λ s. hand_other s i rs r (λ _ z. eqb-false r.id i e z) ∙ l.hand s ∙ ap (hand_in s i) (sym (take-append-le c rs (r ∷ []) l.few));
        })

pub last_is : (i : ℕ) (rs : List Slot) → Last i rs (last_of i rs)
unfolding last_from
last_is i rs = go [] 0 rs (record { few = omega arith; here = λ j r e q. absurd (omega arith); hand = λ s. refl })
  where
    go : (pre : List Slot) (last : ℕ) (rs : List Slot) → Last i pre last → Last i (pre ++ rs) (last_from i (length pre) last rs)
    go pre last [] l = rw append-nil l
    go pre last (r ∷ rs) l =
        let n : length (pre ++ (r ∷ [])) ≡ suc (length pre) = omega (arith, length-append pre (r ∷ [])) in
        rw (n, append_assoc) at (go (pre ++ (r ∷ [])) (cond (eqb r.id i) (suc (length pre)) last) rs (one_more i pre r last l))
