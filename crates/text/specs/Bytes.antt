-- Bytes of a text: words in quotes, numbers in decimal, pieces one after the other.
--     decimal-small, decimal_step    what `decimal` is, by its last digit
--     decimal_value, decimal_lead    the digits are those of the number, and the first is 0 for 0 alone
use Rattle.std.specs.Prelude.{ℕ, zero, suc, ◌+◌, ◌*◌, ◌-◌, ◌/◌, ◌%◌, ◌≤◌, ◌<◌, ◌≡◌, refl, cond, List, [], ◌∷◌, ◌++◌, ltb, get_or}
use Prim.Native.Char.{code}
use Prim.Native.String as string
use Rattle.std.proofs.Common.{ap, ◌∙◌, append_assoc, arith, lt-ltb, le-ltb}
use Rattle.std.proofs.Math.Decide.{dec_lt}

-- the bytes of a word in quotes
abbrev pub ascii : string.String → List ℕ
ascii string.[] = []
ascii (string.◌∷◌ c s) = code c ∷ ascii s

-- pieces of a text, one after the other
abbrev pub joined : List (List ℕ) → List ℕ
joined [] = []
joined (p ∷ ps) = p ++ joined ps

pub joined_append : (ps qs : List (List ℕ)) → joined (ps ++ qs) ≡ joined ps ++ joined qs
joined_append [] qs = refl
joined_append (p ∷ ps) qs = rw append_assoc (ap (λ (t : List ℕ). p ++ t) (joined_append ps qs))

-- the texts for 0, 1, .. up to n, one after the other
abbrev pub each : (ℕ → List ℕ) → ℕ → List ℕ
each f zero = []
each f (suc n) = each f n ++ f n

-- the digits of n in decimal, at most so many of them, the most significant first
unfoldable pub digits : ℕ → ℕ → List ℕ
digits zero n = []
digits (suc k) n = cond (ltb n 10) [] (digits k (n / 10)) ++ ((48 + n % 10) ∷ [])

unfoldable pub decimal : ℕ → List ℕ
decimal n = digits (suc n) n

-- as many digits as there may be is enough
digits_enough : (k l n : ℕ) → n < k → n < l → digits k n ≡ digits l n
unfolding digits
digits_enough zero l n h g = absurd (omega arith)
digits_enough (suc k) zero n h g = absurd (omega arith)
digits_enough (suc k) (suc l) n h g = elim (dec_lt n 10) [
  | yes s ↦ rw (lt-ltb n 10 s) refl
  | no s ↦ ap (λ (x : List ℕ). cond (ltb n 10) [] x ++ ((48 + n % 10) ∷ [])) (digits_enough k l (n / 10) (omega arith) (omega arith))
]

pub decimal-small : (n : ℕ) → n < 10 → decimal n ≡ (48 + n) ∷ []
unfolding decimal digits
decimal-small n h = let e : n % 10 ≡ n = omega arith in simp (lt-ltb n 10 h, e)

pub decimal_step : (n : ℕ) → 10 ≤ n → decimal n ≡ decimal (n / 10) ++ ((48 + n % 10) ∷ [])
unfolding decimal digits
decimal_step n h = simp (le-ltb n 10 h) (ap (λ (x : List ℕ). x ++ ((48 + n % 10) ∷ [])) (digits_enough n (suc (n / 10)) (n / 10) (omega arith) (omega arith)))

-- the number that digits stand for
abbrev pub value_of : List ℕ → ℕ → ℕ
value_of [] acc = acc
value_of (d ∷ ds) acc = value_of ds (acc * 10 + (d - 48))

value_append : (xs ys : List ℕ) (acc : ℕ) → value_of (xs ++ ys) acc ≡ value_of ys (value_of xs acc)
value_append [] ys acc = refl
value_append (x ∷ xs) ys acc = value_append xs ys (acc * 10 + (x - 48))

-- by induction over anything of `decimal`: the small numbers, and the step
module _ (P : ℕ → List ℕ → Type 0) (small : (n : ℕ) → n < 10 → P n ((48 + n) ∷ [])) (step : (n : ℕ) → 10 ≤ n → P (n / 10) (decimal (n / 10)) → P n (decimal (n / 10) ++ ((48 + n % 10) ∷ []))) where
  decimal-below : (k n : ℕ) → n < k → P n (decimal n)
  decimal-below zero n h = absurd (omega arith)
  decimal-below (suc k) n h = elim (dec_lt n 10) [
    | yes s ↦ rw (decimal-small n s) (small n s)
    | no s ↦ rw (decimal_step n (omega arith)) (step n (omega arith) (decimal-below k (n / 10) (omega arith)))
  ]

  pub decimal_all : (n : ℕ) → P n (decimal n)
  decimal_all n = decimal-below (suc n) n (omega arith)

pub decimal_value : (n : ℕ) → value_of (decimal n) 0 ≡ n
decimal_value = decimal_all (λ n ds. value_of ds 0 ≡ n) (λ n h. omega arith)
    (λ n h e. value_append (decimal (n / 10)) ((48 + n % 10) ∷ []) 0 ∙ omega (arith, e))

lead : (xs ys : List ℕ) → (get_or xs 0 48 ≡ 48 → ⊥) → get_or (xs ++ ys) 0 48 ≡ 48 → ⊥
lead [] ys f e = f refl
lead (x ∷ xs) ys f e = f e

pub decimal_lead : (n : ℕ) → 0 < n → get_or (decimal n) 0 48 ≡ 48 → ⊥
decimal_lead = decimal_all (λ n ds. 0 < n → get_or ds 0 48 ≡ 48 → ⊥) (λ n h z e. omega arith)
    (λ n h f z. lead (decimal (n / 10)) ((48 + n % 10) ∷ []) (f (omega arith)))
