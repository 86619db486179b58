-- Lists element by element: an element replaced, elements behind others, two lists that are alike.
use Rattle.std.specs.Prelude.{ℕ, zero, suc, ◌+◌, ◌<◌, ◌≡◌, refl, List, [], ◌∷◌, ◌++◌, map, length, set}
use Rattle.std.proofs.Common.{ap, arith, zero-add}
use Rattle.std.proofs.Math.Option.{some}
use Rattle.std.proofs.Math.ListN.{get_elem?}
use Rattle.store.proofs.Laws.Points.{Replaced}

module _ {A : Type 0} where
  pub replaced_set : (xs : List A) (k : ℕ) (a : A) → k < length xs → Replaced k a xs (set xs k a)
  replaced_set [] k a h = absurd (omega arith)
  replaced_set (x ∷ xs) zero a h = record { here = refl; other = λ i o. go i o }
    where
      go : (i : ℕ) → (i ≡ 0 → ⊥) → get_elem? (a ∷ xs) i ≡ get_elem? (x ∷ xs) i
      go zero o = absurd (o refl)
      go (suc i) o = refl
  replaced_set (x ∷ xs) (suc k) a h = let r = replaced_set xs k a (omega arith) in record { here = r.here; other = λ i o. go i o r }
    where
      go : (i : ℕ) → (i ≡ suc k → ⊥) → Replaced k a xs (set xs k a) → get_elem? (x ∷ set xs k a) i ≡ get_elem? (x ∷ xs) i
      go zero o r = refl
      go (suc i) o r = r.other i (omega arith)

  pub replaced_behind : (ys : List A) {k : ℕ} {a : A} {xs xs' : List A} → Replaced k a xs xs' → Replaced (length ys + k) a (ys ++ xs) (ys ++ xs')
  replaced_behind [] {k} {a} {xs} {xs'} r = rw zero-add r
  replaced_behind (y ∷ ys) {k} {a} {xs} {xs'} r = let e : suc (length ys) + k ≡ suc (length ys + k) = omega arith in rw e (go (replaced_behind ys r))
    where
      go : Replaced (length ys + k) a (ys ++ xs) (ys ++ xs') → Replaced (suc (length ys + k)) a (y ∷ (ys ++ xs)) (y ∷ (ys ++ xs'))
      go r = record { here = r.here; other = λ i o. other i o }
        where
          other : (i : ℕ) → (i ≡ suc (length ys + k) → ⊥) → get_elem? (y ∷ (ys ++ xs')) i ≡ get_elem? (y ∷ (ys ++ xs)) i
          other zero o = refl
          other (suc i) o = r.other i (omega arith)

pub map-set : {A B : Type 0} (f : A → B) (xs : List A) (k : ℕ) (x y : A) → get_elem? xs k ≡ some x → f y ≡ f x → map f (set xs k y) ≡ map f xs
map-set f [] k x y e q = refl
map-set f (z ∷ xs) zero x y e q = let p : z ≡ x = cc in rw (q, p) refl
map-set f (z ∷ xs) (suc k) x y e q = ap (λ (l : List _). f z ∷ l) (map-set f xs k x y e q)

-- functions that agree on the elements of a list
pub map_like : {A B : Type 0} (f g : A → B) (xs : List A) → ((j : ℕ) (x : A) → get_elem? xs j ≡ some x → f x ≡ g x) → map f xs ≡ map g xs
map_like f g [] h = refl
map_like f g (x ∷ xs) h = rw (h 0 x refl, map_like f g xs (λ j y e. h (suc j) y e)) refl
