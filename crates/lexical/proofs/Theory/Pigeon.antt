-- Counting numbers in lists: distinct numbers of a list are no more than it is long; if they are as many, it has each once.
use Rattle.std.specs.Prelude.{◌≡◌, refl, ◌⊎◌, List, [], ◌∷◌, cond, ℕ, suc, ◌≤◌, eqb, length}
use Rattle.std.proofs.Common.{sym, ◌∙◌, ap, subst, inl, inr, arith}
use Rattle.lexical.specs.Lists.{eqb-true, eqb-false, Tested, was, wasnt, tested}
use Rattle.lexical.specs.Places.{In, Distinct}

-- the first of a number taken away
without : ℕ → List ℕ → List ℕ
without x [] = []
without x (y ∷ ys) = cond (eqb x y) ys (y ∷ without x ys)

without_length : (x : ℕ) (ys : List ℕ) → In x ys → suc (length (without x ys)) ≡ length ys
unfolding without
without_length x (y ∷ ys) m = go (tested (eqb x y)) m (λ z. without_length x ys z)
  where
    go : Tested (eqb x y) → (x ≡ y) ⊎ In x ys → (In x ys → suc (length (without x ys)) ≡ length ys) → suc (length (cond (eqb x y) ys (y ∷ without x ys))) ≡ suc (length ys)
    go (was e) m rec = rw e refl
    go (wasnt e) (inl q) rec = absurd (eqb-false x y e q)
    go (wasnt e) (inr m) rec = rw e (ap suc (rec m))
without_length x [] m = elim m [ ]

without_keeps : (x t : ℕ) (ys : List ℕ) → In t ys → (t ≡ x → ⊥) → In t (without x ys)
unfolding without
without_keeps x t (y ∷ ys) m n = go (tested (eqb x y)) m (λ z. without_keeps x t ys z n)
  where
    go : Tested (eqb x y) → (t ≡ y) ⊎ In t ys → (In t ys → In t (without x ys)) → In t (cond (eqb x y) ys (y ∷ without x ys))
    go (was e) (inl q) rec = absurd (n (q ∙ sym (eqb-true x y e)))
    go (was e) (inr m) rec = rw e m
    go (wasnt e) (inl q) rec = rw e (inl q)
    go (wasnt e) (inr m) rec = rw e (inr (rec m))
without_keeps x t [] m n = elim m [ ]

pub at_most : (xs ys : List ℕ) → Distinct xs → ((t : ℕ) → In t xs → In t ys) → length xs ≤ length ys
at_most [] ys d h = omega arith
at_most (x ∷ xs) ys d h = omega (
  arith,
  without_length x ys (h x (inl refl)),
  at_most xs (without x ys) d.1 (λ t m. without_keeps x t ys (h t (inr m)) (λ e. d.0 (subst (λ y. In y xs) e m))),
)

-- is a number there
pub has : (x : ℕ) (ys : List ℕ) → Dec (In x ys)
has x [] = no (λ m. m)
has x (y ∷ ys) = go (tested (eqb x y)) (has x ys)
  where
    go : Tested (eqb x y) → Dec (In x ys) → Dec ((x ≡ y) ⊎ In x ys)
    go (was e) d = yes (inl (eqb-true x y e))
    go (wasnt e) (yes m) = yes (inr m)
    go (wasnt e) (no n) = no other
      where
        other : (x ≡ y) ⊎ In x ys → ⊥
        other (inl q) = eqb-false x y e q
        other (inr m) = n m

without_in : (x t : ℕ) (ys : List ℕ) → In t (without x ys) → In t ys
unfolding without
without_in x t (y ∷ ys) m = go (tested (eqb x y)) m (λ z. without_in x t ys z)
  where
    go : Tested (eqb x y) → In t (cond (eqb x y) ys (y ∷ without x ys)) → (In t (without x ys) → In t ys) → (t ≡ y) ⊎ In t ys
    go (was e) z rec = inr (rw e at z)
    go (wasnt e) z rec = later (rw e at z)
      where
        later : (t ≡ y) ⊎ In t (without x ys) → (t ≡ y) ⊎ In t ys
        later (inl q) = inl q
        later (inr m) = inr (rec m)
without_in x t [] m = elim m [ ]

without_distinct : (x : ℕ) (ys : List ℕ) → Distinct ys → Distinct (without x ys) × (In x (without x ys) → ⊥)
unfolding without
without_distinct x [] d = (tt, λ m. m)
without_distinct x (y ∷ ys) d = go (tested (eqb x y)) (without_distinct x ys d.1)
  where
    go : Tested (eqb x y) → Distinct (without x ys) × (In x (without x ys) → ⊥) → Distinct (cond (eqb x y) ys (y ∷ without x ys)) × (In x (cond (eqb x y) ys (y ∷ without x ys)) → ⊥)
    go (was e) h = rw e (d.1, λ m. d.0 (subst (λ t. In t ys) (eqb-true x y e) m))
    go (wasnt e) h = rw e (((λ m. d.0 (without_in x y ys m)), h.0), other)
      where
        other : (x ≡ y) ⊎ In x (without x ys) → ⊥
        other (inl q) = eqb-false x y e q
        other (inr m) = h.1 m

-- a list no longer than the distinct numbers in it has each of them once, and no other
pub pigeonhole : (xs ys : List ℕ) → Distinct ys → ((t : ℕ) → In t ys → In t xs) → length xs ≤ length ys → Distinct xs × ((t : ℕ) → In t xs → In t ys)
pigeonhole [] ys d h le = (tt, λ t m. absurd m)
pigeonhole (x ∷ xs) ys d h le = go (has x xs) (has x ys) (λ z e l. pigeonhole xs (without x ys) z e l)
  where
    -- without x the others would have to hold too many
    crowded : ((t : ℕ) → In t ys → In t xs) → ⊥
    crowded e = omega (arith, at_most ys xs d e)

    past : In x xs → (t : ℕ) → In t ys → In t xs
    past m t n = pick (h t n)
      where
        pick : (t ≡ x) ⊎ In t xs → In t xs
        pick (inl q) = subst (λ y. In y xs) (sym q) m
        pick (inr z) = z

    beside : (In x ys → ⊥) → (t : ℕ) → In t ys → In t xs
    beside n t m = pick (h t m)
      where
        pick : (t ≡ x) ⊎ In t xs → In t xs
        pick (inl q) = absurd (n (subst (λ y. In y ys) q m))
        pick (inr z) = z

    rest : (t : ℕ) → In t (without x ys) → In t xs
    rest t m = pick (h t (without_in x t ys m))
      where
        pick : (t ≡ x) ⊎ In t xs → In t xs
        pick (inl q) = absurd ((without_distinct x ys d).1 (subst (λ y. In y (without x ys)) q m))
        pick (inr z) = z

    go : Dec (In x xs) → Dec (In x ys) → (Distinct (without x ys) → ((t : ℕ) → In t (without x ys) → In t xs) → length xs ≤ length (without x ys) → Distinct xs × ((t : ℕ) → In t xs → In t (without x ys)))
        → Distinct (x ∷ xs) × ((t : ℕ) → In t (x ∷ xs) → In t ys)
    go (yes m) b rec = absurd (crowded (past m))
    go (no n) (no k) rec = absurd (crowded (beside k))
    go (no n) (yes m) rec = let r = rec (without_distinct x ys d).0 rest (omega (arith, without_length x ys m)) in ((n, r.0), within r.1)
      where
        within : ((t : ℕ) → In t xs → In t (without x ys)) → (t : ℕ) → (t ≡ x) ⊎ In t xs → In t ys
        within k t (inl q) = subst (λ y. In y ys) (sym q) m
        within k t (inr z) = without_in x t ys (k t z)
