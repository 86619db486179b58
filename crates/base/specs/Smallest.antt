-- A list whose numbers stand once, or in rising order: the first number whose condition holds, by the numbers.
use Rattle.std.specs.Prelude.{ℕ, ◌≤◌, ◌<◌, ◌≡◌, refl, Bool, true, false, cond, not, List, [], ◌∷◌, eqb, ltb, T}
use Rattle.std.proofs.Common.{sym, ap, ◌∙◌, subst, inl, inr, arith, ltb→lt}
use Rattle.base.specs.Table.{both, both_left, both_right}
use Rattle.base.specs.First.{Row, ◌when◌, First, here, later, At, at_cases, at_here, at-later}

-- each number stands once
abbrev pub named : ℕ → List Row → Bool
named k [] = false
named k (n when C ∷ rows) = cond (eqb n k) true (named k rows)

abbrev pub apart : List Row → Bool
apart [] = true
apart (n when C ∷ rows) = both (not (named n rows)) (apart rows)

at_named : (rows : List Row) (k : ℕ) → At rows k → named k rows ≡ true
at_named [] k a = absurd a
at_named (n when C ∷ rows) k a = pick (eqb n k) (at_named rows k) a
  where
    pick : (b : Bool) → (At rows k → named k rows ≡ true) → cond b C (At rows k) → cond b true (named k rows) ≡ true
    pick true f c = refl
    pick false f b = f b

-- the answer's condition holds
pub first-at : (rows : List Row) (r : ℕ) → T (apart rows) → (r ≡ 0 → ⊥) → First rows r → At rows r
first-at [] r t z e = absurd (z e)
first-at (n when C ∷ rows) r t z (here c e) = at_here n C rows r (sym e) c
first-at (n when C ∷ rows) r t z (later c f) =
    let a = first-at rows r (both_right (not (named n rows)) (apart rows) t) z f in
    at-later n C rows r (λ e. subst (λ (b : Bool). T (not b)) (ap (λ (k : ℕ). named k rows) e ∙ at_named rows r a) (both_left (not (named n rows)) (apart rows) t)) a

-- ---- numbers in rising order, from above m
abbrev pub rising : ℕ → List Row → Bool
rising m [] = true
rising m (n when C ∷ rows) = both (ltb m n) (rising n rows)

at_above : (rows : List Row) (m k : ℕ) → T (rising m rows) → At rows k → m < k
at_above [] m k t a = absurd a
at_above (n when C ∷ rows) m k t a =
    let h = ltb→lt m n (both_left (ltb m n) (rising n rows) t) in
    elim (at_cases n C rows k a) [ inl c ↦ omega (arith, c.0) | inr b ↦ omega (arith, at_above rows n k (both_right (ltb m n) (rising n rows) t) b) ]

-- the smallest number whose condition holds, 0 if none
pub data Smallest (rows : List Row) (r : ℕ) : Type 0 where
  smallest : At rows r → ((k : ℕ) → At rows k → r ≤ k) → Smallest rows r
  none : r ≡ 0 → ((k : ℕ) → At rows k → ⊥) → Smallest rows r

rising_smallest : (rows : List Row) (m r : ℕ) → T (rising m rows) → First rows r → Smallest rows r
rising_smallest [] m r t e = none e (λ k a. a)
rising_smallest (n when C ∷ rows) m r t (here c e) =
    let up = both_right (ltb m n) (rising n rows) t in
    smallest (at_here n C rows r (sym e) c) (λ k a. elim (at_cases n C rows k a) [ inl d ↦ omega (arith, e, d.0) | inr b ↦ omega (arith, e, at_above rows n k up b) ])
rising_smallest (n when C ∷ rows) m r t (later c f) =
    let up = both_right (ltb m n) (rising n rows) t in
    elim (rising_smallest rows n r up f) [
      | smallest a l ↦ smallest (at-later n C rows r (λ e. omega (arith, e, at_above rows n r up a)) a) (λ k b. elim (at_cases n C rows k b) [ inl d ↦ absurd (c d.1) | inr g ↦ l k g ])
      | none e l ↦ none e (λ k b. elim (at_cases n C rows k b) [ inl d ↦ c d.1 | inr g ↦ l k g ])
    ]

-- there the first is the smallest
pub first_smallest : (rows : List Row) (r : ℕ) → T (rising 0 rows) → First rows r → Smallest rows r
first_smallest rows r t f = rising_smallest rows 0 r t f
