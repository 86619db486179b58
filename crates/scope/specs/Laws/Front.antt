-- A buffer that holds some records, element by element: past the records, and past its end, there are zeros.
--     front-is, front_get   a buffer holds some records if and only if its elements are theirs
use Rattle.std.specs.Prelude.{ℕ, zero, suc, ◌-◌, ◌<◌, ◌≤◌, ◌≡◌, refl, List, [], ◌∷◌, ◌++◌, map, length, get_or, replicate}
use Rattle.std.proofs.Common.{sym, ap, ◌∙◌, arith, length-append, ext_get_or}
use Rattle.std.proofs.lemmas.List.{length-replicate}
use Rattle.store.specs.Sections.{word_at, or_zero}
use Rattle.store.proofs.Laws.Points.{zeros}
use Rattle.answer.specs.Buffers.{Front}

pub get_past : (l : List ℕ) (i : ℕ) → length l ≤ i → get_or l i 0 ≡ 0
get_past [] i h = refl
get_past (x ∷ l) zero h = absurd (omega arith)
get_past (x ∷ l) (suc i) h = get_past l i (omega arith)

get_padded : (xs : List ℕ) (k i : ℕ) → get_or (xs ++ replicate k 0) i 0 ≡ get_or xs i 0
get_padded [] k i = zeros k i
get_padded (x ∷ xs) k zero = refl
get_padded (x ∷ xs) k (suc i) = get_padded xs k i

pub front-is : (l : List ℕ) (n : ℕ) (xs : List ℕ) → length l ≡ n → length xs ≤ n → ((i : ℕ) → i < n → get_or l i 0 ≡ get_or xs i 0) → Front l n xs
front-is l n xs e h p = ext_get_or 0 l (xs ++ replicate (n - length xs) 0)
    (omega (arith, length-append xs (replicate (n - length xs) 0), length-replicate {A = ℕ} (n - length xs) 0))
    (λ i b. p i (omega arith) ∙ sym (get_padded xs (n - length xs) i))

pub front_get : (l : List ℕ) (n : ℕ) (xs : List ℕ) → Front l n xs → (i : ℕ) → get_or l i 0 ≡ get_or xs i 0
front_get l n xs e i = ap (λ (x : List ℕ). get_or x i 0) e ∙ get_padded xs (n - length xs) i

-- the elements of a section that holds a list
pub word_get : {A : Type 0} (f : A → ℕ) (xs : List A) (i : ℕ) → word_at f xs i ≡ get_or (map f xs) i 0
unfolding or_zero
word_get f [] i = refl
word_get f (x ∷ xs) zero = refl
word_get f (x ∷ xs) (suc i) = word_get f xs i
