-- Elements of lists by a number that they have, and lists of rows that are made element by element.
--     times-at, found_at, first_once   an element that has a number; the first that has it, where one alone has it
--     times_in, in_times               a number in a list
--     row_in, row_from                 rows, of which each element gives one or none
use Prim.Native.Nat.{ℕ, zero, suc, ◌+◌, ◌≤◌}
use Rattle.std.proofs.Math.Path.{◌≡◌, refl, sym}
use Rattle.std.proofs.Common.{ap, ◌∙◌, inl, inr, arith}
use Rattle.std.proofs.Math.Bool.{true}
use mathlib.Core.List.{List, [], ◌∷◌, ◌++◌, map}
use Rattle.std.proofs.Math.Option.{some}
use Rattle.std.proofs.Math.Dec.{eqb}
use Rattle.std.specs.Prelude.{length}
use Rattle.std.proofs.Math.ListN.{get_elem?}
use Rattle.base.specs.UpTo.{at_behind}
use Rattle.lexical.specs.Lists.{first, none-some, eqb_self, eqb-true, Tested, was, wasnt, tested}
use Rattle.lexical.specs.Places.{In}
use Rattle.lexical.specs.Sums.{total, one, times}

module _ {A : Type 0} (f : A → ℕ) where
  pub times-at : (i : ℕ) (xs : List A) (j : ℕ) (a : A) → get_elem? xs j ≡ some a → f a ≡ i → 1 ≤ times i (map f xs)
  unfolding total one
  times-at i [] j a e q = absurd (none-some refl e)
  times-at i (x ∷ xs) zero a e q = let z : x ≡ a = cc in let y : eqb i (f x) ≡ true = rw (z, q) (eqb_self i) in rw y (omega arith)
  times-at i (x ∷ xs) (suc j) a e q = omega (arith, times-at i xs j a e q)

  pub found_at : (i : ℕ) (xs : List A) → 1 ≤ times i (map f xs) → (j : ℕ) × (a : A) × (get_elem? xs j ≡ some a) × (f a ≡ i)
  unfolding total one
  found_at i [] h = absurd (omega arith)
  found_at i (x ∷ xs) h = go (tested (eqb i (f x))) (λ l. found_at i xs l)
    where
      go : Tested (eqb i (f x)) → (1 ≤ times i (map f xs) → (j : ℕ) × (a : A) × (get_elem? xs j ≡ some a) × (f a ≡ i)) → (j : ℕ) × (a : A) × (get_elem? (x ∷ xs) j ≡ some a) × (f a ≡ i)
      go (was q) r = (0, x, refl, sym (eqb-true i (f x) q))
      go (wasnt q) r = let z : one i (f x) ≡ 0 = rw q refl in let (j, a, at, n) = r (omega arith) in (suc j, a, at, n)

  pub first_once : (i : ℕ) (xs : List A) → times i (map f xs) ≤ 1 → (j : ℕ) (a : A) → get_elem? xs j ≡ some a → f a ≡ i → first (λ x. eqb (f x) i) xs ≡ some a
  unfolding first total one
  first_once i [] h j a e q = absurd (none-some refl e)
  first_once i (x ∷ xs) h j a e q = go (tested (eqb (f x) i)) j e (λ j z. first_once i xs (omega (arith, h)) j a z q)
    where
      go : Tested (eqb (f x) i) → (j : ℕ) → get_elem? (x ∷ xs) j ≡ some a → ((j : ℕ) → get_elem? xs j ≡ some a → first (λ x. eqb (f x) i) xs ≡ some a) → first (λ x. eqb (f x) i) (x ∷ xs) ≡ some a
      go (was t) zero z r = rw t z
      go (was t) (suc j) z r = absurd (let u : eqb i (f x) ≡ true = rw (eqb-true (f x) i t) (eqb_self i) in let v : one i (f x) ≡ 1 = rw u refl in omega (arith, h, times-at i xs j a z q))
      go (wasnt t) zero z r = absurd (let y : x ≡ a = cc in let u : eqb (f x) i ≡ true = rw (y, q) (eqb_self i) in let v : ◌≡◌ {A = ℕ} 0 1 = cc in omega arith)
      go (wasnt t) (suc j) z r = rw t (r j z)

pub times_in : (x : ℕ) (xs : List ℕ) → In x xs → 1 ≤ times x xs
unfolding total one
times_in x (y ∷ xs) (inl e) = let z : eqb x y ≡ true = rw e (eqb_self y) in rw z (omega arith)
times_in x (y ∷ xs) (inr m) = omega (arith, times_in x xs m)
times_in x [] m = absurd m

pub in_times : (x : ℕ) (xs : List ℕ) → 1 ≤ times x xs → In x xs
unfolding total one
in_times x [] h = absurd (omega arith)
in_times x (y ∷ xs) h = go (tested (eqb x y)) (λ l. in_times x xs l)
  where
    go : Tested (eqb x y) → (1 ≤ times x xs → In x xs) → In x (y ∷ xs)
    go (was e) r = inl (eqb-true x y e)
    go (wasnt e) r = let z : one x y ≡ 0 = rw e refl in inr (r (omega arith))

-- what g makes of a list is what h makes of its elements, one after the other
module _ {A : Type 0} (g : List A → List (List ℕ)) (h : A → List (List ℕ)) (none_left : g [] ≡ []) (more : (e : A) (es : List A) → g (e ∷ es) ≡ h e ++ g es) where
  pub row_in : (es : List A) (j : ℕ) (e : A) (row : List ℕ) → get_elem? es j ≡ some e → h e ≡ row ∷ [] → (k : ℕ) × (get_elem? (g es) k ≡ some row)
  row_in [] j e row p r = absurd (none-some refl p)
  row_in (x ∷ es) zero e row p r = let z : x ≡ e = cc in (0, rw (more x es, z, r) refl)
  row_in (x ∷ es) (suc j) e row p r = let (k, a) = row_in es j e row p r in (length (h x) + k, ap (λ (l : List (List ℕ)). get_elem? l (length (h x) + k)) (more x es) ∙ at_behind (h x) (g es) k ∙ a)

  pub row_from : ((e : A) → length (h e) ≤ 1) → (es : List A) (k : ℕ) (row : List ℕ) → get_elem? (g es) k ≡ some row → (j : ℕ) × (e : A) × (get_elem? es j ≡ some e) × (h e ≡ row ∷ [])
  row_from s [] k row a = absurd (none-some refl (rw none_left at a))
  row_from s (x ∷ es) k row a = go (h x) refl (s x) (ap (λ (l : List (List ℕ)). get_elem? l k) (sym (more x es)) ∙ a) (λ k p. row_from s es k row p)
    where
      go : (l : List (List ℕ)) → h x ≡ l → length l ≤ 1 → get_elem? (h x ++ g es) k ≡ some row → ((k : ℕ) → get_elem? (g es) k ≡ some row → (j : ℕ) × (e : A) × (get_elem? es j ≡ some e) × (h e ≡ row ∷ []))
          → (j : ℕ) × (e : A) × (get_elem? (x ∷ es) j ≡ some e) × (h e ≡ row ∷ [])
      go [] e n p r = let (j, y, q, w) = r k (rw e at p) in (suc j, y, q, w)
      go (m ∷ []) e n p r = here k (rw e at p)
        where
          here : (k : ℕ) → get_elem? (m ∷ g es) k ≡ some row → (j : ℕ) × (y : A) × (get_elem? (x ∷ es) j ≡ some y) × (h y ≡ row ∷ [])
          here zero p = let z : m ≡ row = cc in (0, x, refl, e ∙ ap (λ (w : List ℕ). w ∷ []) z)
          here (suc k) p = let (j, y, q, w) = r k p in (suc j, y, q, w)
      go (m ∷ (n' ∷ l)) e n p r = absurd (omega arith)
