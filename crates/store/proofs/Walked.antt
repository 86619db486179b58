-- The loop of `hand`: back along the chain of a binding's slots, keeping the last slot found, which is the first in order.
use Rattle.std.specs.Prelude.{None, Some}
use Rattle.std.specs.Prelude as rust
use Prim.Native.Nat.{ℕ, zero, suc, ◌+◌, ◌<◌, ◌≤◌}
use mathlib.Core.Path.{◌≡◌, refl, sym, ap, ap₂, ◌∙◌}
use mathlib.Core.Bool.{cond}
use mathlib.Core.List.{List, [], ◌∷◌, ◌++◌}
use mathlib.Core.Option.{Option, none, some}
use native.Mathlib.Omega.{arith}
use native.Mathlib.Decide.{ℕ_discrete}
use lib.ListN.{length, get_or, take, get_elem?}
use lib.Seq.{length-take-le, take-take}
use Rattle.lexical.specs.Lists.{first, map_o, or_else, or_else_none, or_else_assoc, eqb_self, eqb-not, none-some, Opened, absent, present, opened}
use Rattle.lexical.specs.Places.{at-below}
use Rattle.lexical.specs.State.{Slot}
use Rattle.lexical.specs.Third.{holds, hand_in}
use Rattle.lexical.proofs.Theory.Slots.{hand_snoc}
use Rattle.answer.specs.Records.{slot_scope}
use Rattle.store.specs.Sections.{or_zero}
use Rattle.store.specs.Words.{slot_word}
use Rattle.store.specs.Image.{last_of, before, SlotsIn}
use Rattle.answer.specs.declared.ids.LocalSlotId.{LocalSlotId}
use Rattle.store.specs.Hands.{Slotted, hand_of}
use Rattle.store.proofs.Laws.Points.{absent_past, word_at_lem}
use Rattle.store.proofs.Laws.Chain.{Last, last_is}

-- what is found so far
abbrev pub best_of : rust.Option LocalSlotId → Option ℕ
best_of None = none
best_of (Some k) = some k.0

hand_best : (best : rust.Option LocalSlotId) → hand_of (best_of best) ≡ best
hand_best None = refl
hand_best (Some k) = refl

-- ---- lists

take_snoc : {A : Type 0} (xs : List A) (j : ℕ) (a : A) → get_elem? xs j ≡ some a → take (suc j) xs ≡ take j xs ++ (a ∷ [])
take_snoc [] j a e = absurd (none-some refl e)
take_snoc (x ∷ xs) zero a e = let z : x ≡ a = cc in rw z refl
take_snoc (x ∷ xs) (suc j) a e = ap (λ l. x ∷ l) (take_snoc xs j a e)

at_take : {A : Type 0} (xs : List A) (j i : ℕ) → i < j → get_elem? (take j xs) i ≡ get_elem? xs i
at_take xs zero i h = absurd (omega arith)
at_take [] (suc j) i h = refl
at_take (x ∷ xs) (suc j) zero h = refl
at_take (x ∷ xs) (suc j) (suc i) h = at_take xs j i (omega arith)

-- ---- the loop

-- at slot record c - 1, with `best` found after it: what is left are the slots before place c
pub record Led (rs : List Slot) (s i c : ℕ) (best : rust.Option LocalSlotId) : Type 0 where
  pub few : c ≤ length rs
  pub here : (j : ℕ) (r : Slot) → c ≡ suc j → get_elem? rs j ≡ some r → r.id ≡ i
  pub hand : hand_in s i rs ≡ or_else (hand_in s i (take c rs)) (best_of best)

-- what `found` gives at slot record j
pub record Seen (w t : List ℕ) (s j : ℕ) (best x : rust.Option LocalSlotId) : Type 0 where
  pub here : slot_scope (get_or w (2048 + j) 0) ≡ s → x ≡ Some (record { 0 = get_or t (16640 + j) 0 })
  pub other : (slot_scope (get_or w (2048 + j) 0) ≡ s → ⊥) → x ≡ best

pub led_end : {rs : List Slot} {s i : ℕ} {best : rust.Option LocalSlotId} → Led rs s i 0 best → best ≡ hand_of (hand_in s i rs)
unfolding hand_in first map_o or_else
led_end {best = best} l = sym (ap hand_of l.hand ∙ hand_best best)

module _ {rs : List Slot} {P : ℕ → ℕ} {w t : List ℕ} (m : SlotsIn rs P w t) (s i : ℕ) where
  pub led_start : i < 2304 → Led rs s i (get_or t (9728 + i) 0) None
  led_start h =
      let l = last_is i rs in
      rw (m.tail i h) (record { few = l.few; here = l.here; hand = l.hand s ∙ sym (or_else_none _) })

  -- the binding that slot record j holds, and the slots before it
  back_is : (j : ℕ) (r : Slot) → get_elem? rs j ≡ some r → r.id ≡ i → get_or t (12544 + j) 0 ≡ last_of i (take j rs)
  unfolding before or_zero
  back_is j r e q = m.back j (omega (arith, m.few, at-below rs j r e)) ∙ (rw (e, q) refl)

  found-is : (j : ℕ) (best x : rust.Option LocalSlotId) (r : Slot) → get_elem? rs j ≡ some r → r.id ≡ i → Seen w t s j best x → or_else (cond (holds s i r) (some r.num) none) (best_of best) ≡ best_of x
  unfolding holds or_else slot_word
  found-is j best x r e q f =
      let h : j < 4096 = omega (arith, m.few, at-below rs j r e) in
      let a : slot_scope (get_or w (2048 + j) 0) ≡ r.scope = omega (arith, m.rows j h, word_at_lem slot_word rs j r e, (m.sound j r e).0, (m.sound j r e).2) in
      elim (ℕ_discrete r.scope s) [
        | yes z ↦ let y : get_or t (16640 + j) 0 ≡ r.num = m.nums j h ∙ word_at_lem (λ (r : Slot). r.num) rs j r e in rw (f.here (a ∙ z), y, z, q, eqb_self s, eqb_self i) refl
        | no z ↦ let y : x ≡ best = f.other (λ u. z (sym a ∙ u)) in rw (y, eqb-not r.scope s z) refl
      ]

  led_next : (j : ℕ) (best x : rust.Option LocalSlotId) → Led rs s i (suc j) best → Seen w t s j best x → (get_or t (12544 + j) 0 < suc j) × Led rs s i (get_or t (12544 + j) 0) x
  led_next j best x l f = go (opened (get_elem? rs j))
    where
      go : Opened (get_elem? rs j) → (get_or t (12544 + j) 0 < suc j) × Led rs s i (get_or t (12544 + j) 0) x
      go (absent e) = absurd (omega (arith, l.few, absent_past rs j e))
      go (present r e) =
          rw (back_is j r e q) (
            omega (arith, k.few, long),
            record {
              few = omega (arith, k.few, long, l.few);
              here = λ n x u v. k.here n x u (at_take rs j n (omega (arith, k.few, long)) ∙ v);
              hand = l.hand
                  ∙ ap (λ (o : Option ℕ). or_else o (best_of best)) (ap (hand_in s i) (take_snoc rs j r e) ∙ hand_snoc s i (take j rs) r)
                  ∙ or_else_assoc (hand_in s i (take j rs)) _ (best_of best)
                  ∙ ap₂ or_else (k.hand s ∙ ap (hand_in s i) (take-take (last_of i (take j rs)) j rs (omega (arith, k.few, long)))) (found-is j best x r e q f);
            },
          )
        where
          q : r.id ≡ i
          q = l.here j r refl e

          k : Last i (take j rs) (last_of i (take j rs))
          k = last_is i (take j rs)

          long : length (take j rs) ≡ j
          long = length-take-le j rs (omega (arith, l.few))

-- the same for any slots that the lists hold
pub led_on : {w t : List ℕ} {s i j : ℕ} {best x : rust.Option LocalSlotId} → Seen w t s j best x → ((g : Slotted w t) → Led g.slots s i (suc j) best)
    → (g : Slotted w t) → (get_or t (12544 + j) 0 < suc j) × Led g.slots s i (get_or t (12544 + j) 0) x
led_on {s = s} {i} {j} {best} {x} f l g = led_next g.are s i j best x (l g) f
