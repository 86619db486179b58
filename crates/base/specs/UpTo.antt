-- Lists by their places: the list of what a function gives for 0, 1, .. up to a number, and how many of these numbers pass a test.
use Prim.Native.Nat.{ℕ, zero, suc, ◌+◌, ◌-◌, ◌≤◌, ◌<◌}
use Rattle.std.specs.Prelude.{◌≡◌, Bool, true, false, cond, length, get_or}
use Rattle.std.proofs.Math.Path.{refl, ap, ap₂}
use Rattle.std.proofs.Common.{◌∙◌, arith}
use Rattle.std.proofs.Math.Option.{some}
use mathlib.Core.List.{List, [], ◌∷◌, ◌++◌}
use Rattle.std.proofs.Math.ListN.{get_elem?}

unfoldable pub tally : (ℕ → Bool) → ℕ → ℕ
tally p zero = 0
tally p (suc n) = cond (p n) (suc (tally p n)) (tally p n)

pub tally_all : (n : ℕ) → tally (λ i. true) n ≡ n
unfolding tally
tally_all zero = refl
tally_all (suc n) = ap suc (tally_all n)

-- the same, counted from 0 on
pub tally-front : (p : ℕ → Bool) (n : ℕ) → tally p (suc n) ≡ cond (p 0) (suc (tally (λ i. p (suc i)) n)) (tally (λ i. p (suc i)) n)
unfolding tally
tally-front p zero = refl
tally-front p (suc n) = rw (tally-front p n) (swap (p 0) (p (suc n)) (tally (λ i. p (suc i)) n))
  where
    swap : (a b : Bool) (x : ℕ) → cond b (suc (cond a (suc x) x)) (cond a (suc x) x) ≡ cond a (suc (cond b (suc x) x)) (cond b (suc x) x)
    swap true true x = refl
    swap true false x = refl
    swap false true x = refl
    swap false false x = refl

module _ {A : Type 0} where
  -- the places of a list that stands after another
  pub at_right : (xs ys : List A) (i : ℕ) → length xs ≤ i → get_elem? (xs ++ ys) i ≡ get_elem? ys (i - length xs)
  at_right [] ys i h = let e : i - 0 ≡ i = omega arith in rw e refl
  at_right (x ∷ xs) ys zero h = absurd (omega arith)
  at_right (x ∷ xs) ys (suc i) h = let e : suc i - suc (length xs) ≡ i - length xs = omega arith in rw e (at_right xs ys i (omega arith))

  pub at_behind : (xs ys : List A) (i : ℕ) → get_elem? (xs ++ ys) (length xs + i) ≡ get_elem? ys i
  at_behind xs ys i = let e : length xs + i - length xs ≡ i = omega arith in at_right xs ys (length xs + i) (omega arith) ∙ rw e refl

  -- a place holds something where it is in the list
  pub at_some : (xs : List A) (i : ℕ) → i < length xs → (a : A) × (get_elem? xs i ≡ some a)
  at_some [] i h = absurd (omega arith)
  at_some (x ∷ xs) zero h = (x, refl)
  at_some (x ∷ xs) (suc i) h = at_some xs i (omega arith)

  unfoldable pub up_to : (ℕ → A) → ℕ → List A
  up_to f zero = []
  up_to f (suc n) = f 0 ∷ up_to (λ k. f (suc k)) n

  -- one more, at the end
  pub up_to_snoc : (f : ℕ → A) (n : ℕ) → up_to f (suc n) ≡ up_to f n ++ (f n ∷ [])
  unfolding up_to
  up_to_snoc f zero = refl
  up_to_snoc f (suc n) = ap (λ (l : List A). f 0 ∷ l) (up_to_snoc (λ k. f (suc k)) n)

  -- its front
  pub up_to_front : (f : ℕ → A) (k n : ℕ) → k ≤ n → (ys : List A) × (up_to f n ≡ up_to f k ++ ys)
  unfolding up_to
  up_to_front f zero n h = (up_to f n, refl)
  up_to_front f (suc k) zero h = absurd (omega arith)
  up_to_front f (suc k) (suc n) h = let r = up_to_front (λ k. f (suc k)) k n (omega arith) in (r.0, ap (λ (l : List A). f 0 ∷ l) r.1)

  pub up_to_length : (f : ℕ → A) (n : ℕ) → length (up_to f n) ≡ n
  unfolding up_to
  up_to_length f zero = refl
  up_to_length f (suc n) = ap suc (up_to_length (λ k. f (suc k)) n)

  pub up_to_at : (f : ℕ → A) (n k : ℕ) → k < n → get_elem? (up_to f n) k ≡ some (f k)
  unfolding up_to
  up_to_at f zero k h = absurd (omega arith)
  up_to_at f (suc n) zero h = refl
  up_to_at f (suc n) (suc k) h = up_to_at (λ k. f (suc k)) n k (omega arith)

  pub up_to_get : (f : ℕ → A) (n k : ℕ) (d : A) → k < n → get_or (up_to f n) k d ≡ f k
  unfolding up_to
  up_to_get f zero k d h = absurd (omega arith)
  up_to_get f (suc n) zero d h = refl
  up_to_get f (suc n) (suc k) d h = up_to_get (λ k. f (suc k)) n k d (omega arith)

  -- a list is what stands at its places
  pub up_to_is : (f : ℕ → A) (xs : List A) → ((i : ℕ) (a : A) → get_elem? xs i ≡ some a → a ≡ f i) → xs ≡ up_to f (length xs)
  unfolding up_to
  up_to_is f [] h = refl
  up_to_is f (x ∷ xs) h = ap₂ ◌∷◌ (h 0 x refl) (up_to_is (λ k. f (suc k)) xs (λ i a e. h (suc i) a e))
