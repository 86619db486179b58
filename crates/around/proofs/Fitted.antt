-- What a list of places holds: as many numbers as fit, and zeros behind.
--     fitted_zeros   scope 0 alone is zeros
--     fitted_more    one number more
--     holds_more, holds-none, holds_as   the same, with their count
use Prim.Native.Nat.{ℕ, zero, suc, ◌+◌, ◌<◌}
use mathlib.Core.Path.{◌≡◌, refl, sym, ap, ◌∙◌}
use mathlib.Core.List.{List, [], ◌∷◌, ◌++◌}
use native.Mathlib.Omega.{arith}
use native.Mathlib.Decide.{ℕ_discrete, dec_lt}
use lib.ListN.{length, get_or, set, replicate, length-set, length-replicate, get_or-replicate, length-append, get_or-eq_default, get_or-append}
use lib.Seq.{get_or-set_same, get_or-set_other, get_or-append_seam, ext_get_or}
use Rattle.base.specs.UpTo.{up_to_length, up_to_get}
use Rattle.around.specs.Scopes.{fitted, Holds}

-- a list is fitted, if each of its places says so
fitted-is : (l xs : List ℕ) (n : ℕ) → length l ≡ n → ((j : ℕ) → j < n → get_or l j 0 ≡ get_or xs j 0) → l ≡ fitted n xs
fitted-is l xs n e h = ext_get_or 0 l (fitted n xs) (e ∙ sym (up_to_length (λ i. get_or xs i 0) n))
    (λ j b. h j (omega arith) ∙ sym (up_to_get (λ i. get_or xs i 0) n j 0 (omega arith)))

fitted-at : (xs : List ℕ) (n j : ℕ) → j < n → get_or (fitted n xs) j 0 ≡ get_or xs j 0
fitted-at xs n j h = up_to_get (λ i. get_or xs i 0) n j 0 h

pub fitted_none : (n : ℕ) → replicate n 0 ≡ fitted n []
fitted_none n = fitted-is (replicate n 0) [] n (length-replicate n 0) (λ j h. get_or-replicate n j 0 0 h)

one-zero : (j : ℕ) → ◌≡◌ {A = ℕ} (get_or (0 ∷ []) j 0) 0
one-zero zero = refl
one-zero (suc j) = refl

pub fitted_zeros : (n : ℕ) → replicate n 0 ≡ fitted n (0 ∷ [])
fitted_zeros n = fitted-is (replicate n 0) (0 ∷ []) n (length-replicate n 0) (λ j h. get_or-replicate n j 0 0 h ∙ sym (one-zero j))

-- an element of a list with one more at its end
snoc_at : (xs : List ℕ) (a j : ℕ) → (j ≡ length xs → ⊥) → get_or xs j 0 ≡ get_or (xs ++ (a ∷ [])) j 0
snoc_at xs a j h =
    elim (dec_lt j (length xs)) [
      | yes l ↦ sym (get_or-append xs (a ∷ []) 0 j l)
      | no l ↦ get_or-eq_default xs 0 {n = j} (omega arith) ∙ sym (get_or-eq_default (xs ++ (a ∷ [])) 0 {n = j} (omega (arith, length-append xs (a ∷ []))))
    ]

pub fitted_more : (n : ℕ) (xs : List ℕ) (a : ℕ) → set (fitted n xs) (length xs) a ≡ fitted n (xs ++ (a ∷ []))
fitted_more n xs a = fitted-is (set (fitted n xs) (length xs) a) (xs ++ (a ∷ [])) n (length-set (fitted n xs) (length xs) a ∙ long) at
  where
    long : length (fitted n xs) ≡ n
    long = up_to_length (λ i. get_or xs i 0) n

    at : (j : ℕ) → j < n → get_or (set (fitted n xs) (length xs) a) j 0 ≡ get_or (xs ++ (a ∷ [])) j 0
    at j h =
        elim (ℕ_discrete j (length xs)) [
          | yes e ↦ rw e (get_or-set_same (fitted n xs) (length xs) a 0 (omega (arith, long)) ∙ sym (get_or-append_seam xs a [] 0))
          | no e ↦ get_or-set_other (fitted n xs) (length xs) j a 0 e ∙ fitted-at xs n j h ∙ snoc_at xs a j e
        ]

module _ {xs : List ℕ} {n : ℕ} {out : List ℕ} (h : Holds xs n out out) where
  pub holds_more : (a : ℕ) (new : List ℕ) → new ≡ set out n a → Holds (xs ++ (a ∷ [])) (n + 1) out new
  holds_more a new e = record {
    count = omega (arith, h.count, length-append xs (a ∷ []));
    places = e ∙ ap (λ (l : List ℕ). set l n a) h.places ∙ ap (λ (k : ℕ). set (fitted (length out) xs) k a) h.count ∙ fitted_more (length out) xs a;
  }

pub holds-none : (old new : List ℕ) → new ≡ replicate (length old) 0 → Holds [] 0 old new
holds-none old new e = record { count = refl; places = e ∙ fitted_none (length old) }

-- another list as long as before, and the same numbers
pub holds_as : {xs ys : List ℕ} {n : ℕ} {mid old new : List ℕ} → Holds xs n mid new → xs ≡ ys → length mid ≡ length old → Holds ys n old new
holds_as {xs} {ys} {n} {mid} {old} h e l = record { count = h.count ∙ ap length e; places = h.places ∙ ap (λ (k : ℕ). fitted k xs) l ∙ ap (fitted (length old)) e }
