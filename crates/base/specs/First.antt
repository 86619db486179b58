-- The first number of a list whose condition holds (document 01, "Numbers given back"): the conditions are asked in the order of the list.
use Rattle.std.specs.Prelude.{ℕ, zero, suc, ◌≡◌, refl, Bool, true, false, cond, List, [], ◌∷◌, ◌++◌, ◌⊎◌, eqb, T}
use Rattle.std.proofs.Common.{sym, ◌∙◌, subst, inl, inr, arith, eqb-true, eq-eqb, ne_eqb}

infix 68 ◌when◌
-- a number, and the condition on which it is answered
pub data Row : Type 1 where
  ◌when◌ : ℕ → Type 0 → Row

-- a row is asked: its number where its condition holds, otherwise what the rows after it say
pub data Asked (n : ℕ) (C After : Type 0) (r : ℕ) : Type 0 where
  here : C → r ≡ n → Asked n C After r
  later : (C → ⊥) → After → Asked n C After r

-- r is the first number whose condition holds, 0 if none
abbrev pub First : List Row → ℕ → Type 0
First [] r = r ≡ 0
First (n when C ∷ rows) r = Asked n C (First rows r) r

-- no condition holds
abbrev pub NoneHolds : List Row → Type 0
NoneHolds [] = Unit {0}
NoneHolds (n when C ∷ rows) = (C → ⊥) × NoneHolds rows

-- the condition of the number k
abbrev pub At : List Row → ℕ → Type 0
At [] k = ⊥
At (n when C ∷ rows) k = cond (eqb n k) C (At rows k)

-- no second answer fits
pub first_one : (rows : List Row) {r q : ℕ} → First rows r → First rows q → r ≡ q
first_one [] e d = e ∙ sym d
first_one (n when C ∷ rows) (here c e) (here d f) = e ∙ sym f
first_one (n when C ∷ rows) (here c e) (later d f) = absurd (d c)
first_one (n when C ∷ rows) (later c e) (here d f) = absurd (c d)
first_one (n when C ∷ rows) (later c e) (later d f) = first_one rows e f

-- ---- answer 0
pub none_first : (rows : List Row) → NoneHolds rows → First rows 0
none_first [] h = refl
none_first (n when C ∷ rows) h = later h.0 (none_first rows h.1)

-- no row has the number 0
abbrev pub numbered : List Row → Bool
numbered [] = true
numbered (zero when C ∷ rows) = false
numbered (suc n when C ∷ rows) = numbered rows

pub first-none : (rows : List Row) (r : ℕ) → T (numbered rows) → r ≡ 0 → First rows r → NoneHolds rows
first-none [] r t z e = tt
first-none (zero when C ∷ rows) r t z f = absurd t
first-none (suc n when C ∷ rows) r t z (here c e) = absurd (omega arith)
first-none (suc n when C ∷ rows) r t z (later c f) = (c, first-none rows r t z f)

-- ---- lists one after the other
pub first-front : (xs ys : List Row) {r : ℕ} → (r ≡ 0 → ⊥) → First xs r → First (xs ++ ys) r
first-front [] ys z e = absurd (z e)
first-front (n when C ∷ xs) ys z (here c e) = here c e
first-front (n when C ∷ xs) ys z (later c f) = later c (first-front xs ys z f)

pub first-after : (xs ys : List Row) (r : ℕ) → NoneHolds xs → First ys r → First (xs ++ ys) r
first-after [] ys r h f = f
first-after (n when C ∷ xs) ys r h f = later h.0 (first-after xs ys r h.1 f)

pub none_both : (xs ys : List Row) → NoneHolds xs → NoneHolds ys → NoneHolds (xs ++ ys)
none_both [] ys h k = k
none_both (n when C ∷ xs) ys h k = (h.0, none_both xs ys h.1 k)

pub none-front : (xs ys : List Row) → NoneHolds (xs ++ ys) → NoneHolds xs
none-front [] ys h = tt
none-front (n when C ∷ xs) ys h = (h.0, none-front xs ys h.1)

pub none_after : (xs ys : List Row) → NoneHolds (xs ++ ys) → NoneHolds ys
none_after [] ys h = h
none_after (n when C ∷ xs) ys h = none_after xs ys h.1

-- ---- the condition of a number
module _ (n : ℕ) (C : Type 0) (rows : List Row) (k : ℕ) where
  pub at_cases : At (n when C ∷ rows) k → ((n ≡ k) × C) ⊎ At rows k
  at_cases a = pick (eqb n k) refl a
    where
      pick : (b : Bool) → eqb n k ≡ b → cond b C (At rows k) → ((n ≡ k) × C) ⊎ At rows k
      pick true e c = inl (eqb-true n k e, c)
      pick false e c = inr c

  pub at_here : n ≡ k → C → At (n when C ∷ rows) k
  at_here e c = subst (λ (b : Bool). cond b C (At rows k)) (sym (eq-eqb n k e)) c

  pub at-later : (n ≡ k → ⊥) → At rows k → At (n when C ∷ rows) k
  at-later e a = subst (λ (b : Bool). cond b C (At rows k)) (sym (ne_eqb n k e)) a

pub none-at : (rows : List Row) → NoneHolds rows → (k : ℕ) → At rows k → ⊥
none-at [] h k a = a
none-at (n when C ∷ rows) h k a = elim (at_cases n C rows k a) [ inl c ↦ h.0 c.1 | inr b ↦ none-at rows h.1 k b ]
