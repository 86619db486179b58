-- What the steps of `bring` rest on: `lexical`'s bring by cases, what is at hand in a scope, and the scope at a level.
use Prim.Native.Nat.{ℕ, suc, ◌+◌, ◌<◌}
use mathlib.Core.Path.{◌≡◌, refl, sym, ◌∙◌}
use mathlib.Core.List.{List, [], ◌∷◌}
use mathlib.Core.Option.{Option, none, some}
use native.Mathlib.Omega.{arith}
use lib.ListN.{length, get_or, get_elem?}
use Rattle.std.specs.Prelude.{None, Some}
use Rattle.lexical.specs.Lists.{first, map_o, none-some, Tested, was, wasnt, tested}
use Rattle.lexical.specs.State.{Binding, Slot, St}
use Rattle.lexical.specs.Third.{holds, hand_in, hand, copy_in, bring_to, bring}
use Rattle.answer.specs.declared.ids.LocalSlotId.{LocalSlotId}
use Rattle.store.specs.Hands.{hand_of}
use Rattle.store.specs.Meanings.{Stacked}

-- ---- `lexical`'s bring

pub bring_here : (s : ℕ) (ss : List ℕ) (b : Binding) (st : St) (k : ℕ) → hand s b.id st ≡ some k → bring (s ∷ ss) b st ≡ (k, st)
unfolding bring bring_to
bring_here s ss b st k e = rw e refl

pub bring-copied : (s : ℕ) (ss : List ℕ) (b : Binding) (st : St) → hand s b.id st ≡ none → bring (s ∷ ss) b st ≡ copy_in s b (bring ss b st)
unfolding bring bring_to
bring-copied s ss b st e = rw e refl

-- ---- what is at hand

pub hand-small : (s i k n : ℕ) (rs : List Slot) → ((j : ℕ) (r : Slot) → get_elem? rs j ≡ some r → r.num < n) → hand_in s i rs ≡ some k → k < n
unfolding hand_in first map_o
hand-small s i k n [] h e = absurd (none-some refl e)
hand-small s i k n (r ∷ rs) h e = go (tested (holds s i r)) (hand-small s i k n rs (λ j x. h (suc j) x))
  where
    go : Tested (holds s i r) → (hand_in s i rs ≡ some k → k < n) → k < n
    go (was q) _ = let z : some r.num ≡ some k = rw q at e in let y : r.num ≡ k = cc in omega (arith, h 0 r refl)
    go (wasnt q) rest = rest (rw q at e)

pub hand_at : (o : Option ℕ) (k : LocalSlotId) → Some k ≡ hand_of o → o ≡ some k.0
hand_at none k e = cc
hand_at (some x) k e = let z : k ≡ record { 0 = x } = cc in rw z refl

pub hand-nothing : (o : Option ℕ) → None ≡ hand_of o → o ≡ none
hand-nothing none e = refl
hand-nothing (some x) e = cc

-- ---- the scope at a level

pub record Innermost (level scope : ℕ) (inner t : List ℕ) : Type 0 where
  pub outer : List ℕ
  pub is : inner ≡ scope ∷ outer
  pub level_is : level ≡ length outer
  pub small : scope < 256
  pub stack : Stacked outer t

pub innermost : (level scope : ℕ) (inner t : List ℕ) → level + 1 ≡ length inner → scope ≡ get_or t (20736 + level) 0 → Stacked inner t → Innermost level scope inner t
unfolding Stacked
innermost level scope [] t l e s = absurd (omega arith)
innermost level scope (x ∷ xs) t l e s =
    let z : level ≡ length xs = omega arith in
    let y : x ≡ scope = sym (e ∙ (rw z s.0)) in
    record { outer = xs; is = rw y refl; level_is = z; small = rw (← y) s.1; stack = s.2 }

pub length_none : (xs : List ℕ) → length xs ≡ 0 → xs ≡ []
length_none [] e = refl
length_none (x ∷ xs) e = absurd (omega arith)
