-- A list of numbers as bytes: each element a field of w bits, one after the other.
use Rattle.std.specs.Prelude.{ℕ, ◌+◌, ◌*◌, ◌^◌, ◌≤◌, ◌<◌, ◌≡◌, refl, ◌⊎◌, List, length, get_or, map}
use Rattle.std.proofs.Common.{sym, ap, ◌∙◌, subst, inl, inr, ⊎_elim, arith, mul-suc, mul-le-mul_left, add-one, map-id}
use Rattle.std.proofs.Math.Decide.{ℕ_discrete}
use Rattle.bits.specs.Field.{bit_of, field_of}
use Rattle.bits.specs.Put.{Written}
use Rattle.bits.proofs.PutLaws.{written_fits, written_apart}

-- s, with the first n elements of xs from bit `at` on, w bits each
pub record Laid (w : ℕ) (xs : List ℕ) (n at : ℕ) (s s' : List ℕ) : Type 0 where
  pub long : length s' ≡ length s
  pub elements : (i : ℕ) → i < n → field_of s' (at + w * i) w ≡ get_or xs i 0
  pub other : (i : ℕ) → (i < at) ⊎ (at + w * n ≤ i) → bit_of s' i ≡ bit_of s i

pub laid_none : (w : ℕ) (xs : List ℕ) (at : ℕ) (s : List ℕ) → Laid w xs 0 at s s
laid_none w xs at s = record { long = refl; elements = λ i h. let z : ⊥ = omega arith in absurd z; other = λ i h. refl }

step_below : (w i n : ℕ) → i < n → w * i + w ≤ w * n
step_below w i n h = subst (λ (x : ℕ). x ≤ w * n) (mul-suc w i) (mul-le-mul_left w h)

-- one element more
pub laid_more : {w : ℕ} {xs s t u : List ℕ} {at n x : ℕ} → Laid w xs n at s t → Written t (at + w * n) w x u → x ≡ get_or xs n 0 → x < 2 ^ w → Laid w xs (n + 1) at s u
laid_more {w} {xs} {s} {t} {u} {at} {n} {x} l p e h = record {
  long = p.long ∙ l.long;
  elements = λ i b. elim (ℕ_discrete i n) [
    | yes q ↦ subst (λ (k : ℕ). field_of u (at + w * k) w ≡ get_or xs k 0) (sym q) (written_fits p h ∙ e)
    | no q ↦ written_apart p (at + w * i) w (inl (omega (arith, step_below w i n (omega arith)))) ∙ l.elements i (omega arith)
  ];
  other = λ i b. let m : w * (n + 1) ≡ w * n + w = ap (λ (k : ℕ). w * k) (add-one n) ∙ mul-suc w n in
      ⊎_elim (λ a. p.other i (inl (omega arith)) ∙ l.other i (inl a)) (λ a. p.other i (inr (omega arith)) ∙ l.other i (inr (omega arith))) b;
}

-- a list of numbers, each read as itself: what `put` leaves of u32 and of u64
pub laid_itself : {w : ℕ} {xs s s' : List ℕ} {n at : ℕ} → Laid w (map (λ x. x) xs) n at s s' → Laid w xs n at s s'
laid_itself l = rw map-id at l
