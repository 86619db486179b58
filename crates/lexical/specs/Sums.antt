-- Sums over a list: its length, and how often a number stands in it, are two of them.
use Rattle.std.specs.Prelude.{◌≡◌, refl, List, [], ◌∷◌, ◌++◌, map, cond, ℕ, ◌+◌, eqb, length}
use Rattle.std.proofs.Common.{ap, arith}

unfoldable pub total : {A : Type 0} → (A → ℕ) → List A → ℕ
total g [] = 0
total g (x ∷ xs) = g x + total g xs

-- a weight of 1 for one number alone; how often it stands in a list
unfoldable pub one : ℕ → ℕ → ℕ
one x n = cond (eqb x n) 1 0

abbrev pub times : ℕ → List ℕ → ℕ
times x l = total (one x) l

pub total_append : {A : Type 0} (g : A → ℕ) (xs ys : List A) → total g (xs ++ ys) ≡ total g xs + total g ys
unfolding total
total_append g [] ys = omega arith
total_append g (x ∷ xs) ys = omega (arith, total_append g xs ys)

pub total_ones : {A : Type 0} (xs : List A) → total (λ x. 1) xs ≡ length xs
unfolding total
total_ones [] = refl
total_ones (x ∷ xs) = omega (arith, total_ones xs)

pub total_zeros : {A : Type 0} (xs : List A) → total (λ x. 0) xs ≡ 0
unfolding total
total_zeros [] = refl
total_zeros (x ∷ xs) = omega (arith, total_zeros xs)

pub total-map : {A B : Type 0} (u : B → ℕ) (f : A → B) (xs : List A) → total u (map f xs) ≡ total (λ x. u (f x)) xs
unfolding total
total-map u f [] = refl
total-map u f (x ∷ xs) = ap (λ n. u (f x) + n) (total-map u f xs)
