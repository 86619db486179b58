-- What is said of those elements of a list that pass a test, against the places where they stand.
--     chosen_append, chosen-tally, chosen_all   one list after another; how many pass; where all pass
--     chosen_in, in_chosen              what is said is said of an element that passes, and the other way
--     chosen_distinct, distinct_chosen  nothing is said twice: no two that pass say the same
use Prim.Native.Nat.{ℕ, zero, suc, ◌<◌}
use Rattle.std.proofs.Math.Path.{◌≡◌, refl, sym, ap}
use Rattle.std.proofs.Common.{◌∙◌, subst, inl, inr}
use Rattle.std.specs.Prelude.{Bool, false, length}
use Rattle.std.proofs.Math.Bool.{true, cond}
use Rattle.std.proofs.Math.Option.{some}
use mathlib.Core.List.{List, [], ◌∷◌, ◌++◌}
use native.Mathlib.Omega.{arith}
use Rattle.std.proofs.Math.ListN.{get_elem?}
use Rattle.base.specs.UpTo.{tally, tally-front}
use Rattle.lexical.specs.Places.{In, Distinct}

unfoldable pub chosen : {A B : Type 0} → (A → Bool) → (A → B) → List A → List B
chosen p g [] = []
chosen p g (x ∷ xs) = cond (p x) (g x ∷ chosen p g xs) (chosen p g xs)

cond_append : {B : Type 0} (b : Bool) (x : B) (xs ys : List B) → cond b (x ∷ (xs ++ ys)) (xs ++ ys) ≡ cond b (x ∷ xs) xs ++ ys
cond_append true x xs ys = refl
cond_append false x xs ys = refl

cond-length : {B : Type 0} (b : Bool) (x : B) (xs : List B) → length (cond b (x ∷ xs) xs) ≡ cond b (suc (length xs)) (length xs)
cond-length true x xs = refl
cond-length false x xs = refl

module _ {A B : Type 0} (p : A → Bool) (g : A → B) where
  pub chosen_append : (xs ys : List A) → chosen p g (xs ++ ys) ≡ chosen p g xs ++ chosen p g ys
  unfolding chosen
  chosen_append [] ys = refl
  chosen_append (x ∷ xs) ys = ap (λ (zs : List B). cond (p x) (g x ∷ zs) zs) (chosen_append xs ys) ∙ cond_append (p x) (g x) (chosen p g xs) (chosen p g ys)

  pub chosen-tally : (q : ℕ → Bool) (xs : List A) → ((i : ℕ) (a : A) → get_elem? xs i ≡ some a → p a ≡ q i) → length (chosen p g xs) ≡ tally q (length xs)
  unfolding chosen tally
  chosen-tally q [] h = refl
  chosen-tally q (x ∷ xs) h =
      cond-length (p x) (g x) (chosen p g xs)
      ∙ ap (λ (b : Bool). cond b (suc (length (chosen p g xs))) (length (chosen p g xs))) (h 0 x refl)
      ∙ ap (λ (n : ℕ). cond (q 0) (suc n) n) (chosen-tally (λ i. q (suc i)) xs (λ i a e. h (suc i) a e))
      ∙ sym (tally-front q (length xs))

  -- where all pass, each stands at its place
  pub chosen_all : ((a : A) → p a ≡ true) → (xs : List A) (i : ℕ) (b : B) → get_elem? (chosen p g xs) i ≡ some b → (a : A) × (get_elem? xs i ≡ some a) × (b ≡ g a)
  unfolding chosen
  chosen_all h [] i b e = absurd (let z : ◌≡◌ {A = ℕ} 0 1 = cc in omega arith)
  chosen_all h (x ∷ xs) zero b e = let d : some (g x) ≡ some b = rw (h x) at e in (x, refl, (cc))
  chosen_all h (x ∷ xs) (suc i) b e = chosen_all h xs i b (rw (h x) at e)

module _ {A : Type 0} (p : A → Bool) (g : A → ℕ) where
  -- an element of xs that passes and says x
  pub record Said (x : ℕ) (xs : List A) : Type 0 where
    pub index : ℕ
    pub one : A
    pub at : get_elem? xs index ≡ some one
    pub passes : p one ≡ true
    pub is : x ≡ g one

  said_later : (x : ℕ) (y : A) (ys : List A) → Said x ys → Said x (y ∷ ys)
  said_later x y ys r = record { index = suc r.index; one = r.one; at = r.at; passes = r.passes; is = r.is }

  said_first : (x : ℕ) (y : A) (ys : List A) (b : Bool) → p y ≡ b → In x (cond b (g y ∷ chosen p g ys) (chosen p g ys)) → (In x (chosen p g ys) → Said x ys) → Said x (y ∷ ys)
  said_first x y ys true e (inl q) later = record { index = 0; one = y; at = refl; passes = e; is = q }
  said_first x y ys true e (inr n) later = said_later x y ys (later n)
  said_first x y ys false e n later = said_later x y ys (later n)

  pub chosen_in : (x : ℕ) (xs : List A) → In x (chosen p g xs) → Said x xs
  unfolding chosen
  chosen_in x (y ∷ ys) m = said_first x y ys (p y) refl m (λ n. chosen_in x ys n)
  chosen_in x [] m = elim m [ ]

  in_longer : (x : ℕ) (y : A) (ys : List A) (b : Bool) → In x (chosen p g ys) → In x (cond b (g y ∷ chosen p g ys) (chosen p g ys))
  in_longer x y ys true m = inr m
  in_longer x y ys false m = m

  pub in_chosen : (xs : List A) (i : ℕ) (a : A) → get_elem? xs i ≡ some a → p a ≡ true → In (g a) (chosen p g xs)
  unfolding chosen
  in_chosen [] i a e t = absurd (let z : ◌≡◌ {A = ℕ} 0 1 = cc in omega arith)
  in_chosen (y ∷ ys) zero a e t = let d : y ≡ a = cc in rw (d, t) (inl refl)
  in_chosen (y ∷ ys) (suc i) a e t = in_longer (g a) y ys (p y) (in_chosen ys i a e t)

  -- no two that pass say the same
  abbrev pub Apart : List A → Type 0
  Apart xs = (i j : ℕ) (a b : A) → i < j → get_elem? xs i ≡ some a → get_elem? xs j ≡ some b → p a ≡ true → p b ≡ true → g a ≡ g b → ⊥

  one_more : (y : A) (ys : List A) (b : Bool) → p y ≡ b → Apart (y ∷ ys) → Distinct (chosen p g ys) → Distinct (cond b (g y ∷ chosen p g ys) (chosen p g ys))
  one_more y ys true e h d =
      ((λ m. let r = chosen_in (g y) ys m in h 0 (suc r.index) y r.one (omega arith) refl r.at e r.passes r.is), d)
  one_more y ys false e h d = d

  pub chosen_distinct : (xs : List A) → Apart xs → Distinct (chosen p g xs)
  unfolding chosen
  chosen_distinct [] h = tt
  chosen_distinct (y ∷ ys) h = one_more y ys (p y) refl h (chosen_distinct ys (λ i j a b l. h (suc i) (suc j) a b (omega arith)))

  one_less : (y : A) (ys : List A) (b : Bool) → Distinct (cond b (g y ∷ chosen p g ys) (chosen p g ys)) → Distinct (chosen p g ys)
  one_less y ys true d = d.1
  one_less y ys false d = d

  pub distinct_chosen : (xs : List A) → Distinct (chosen p g xs) → Apart xs
  unfolding chosen
  distinct_chosen [] d i j a b l e f s t q = absurd (let z : ◌≡◌ {A = ℕ} 0 1 = cc in omega arith)
  distinct_chosen (y ∷ ys) d i zero a b l e f s t q = omega arith
  distinct_chosen (y ∷ ys) d zero (suc j) a b l e f s t q =
      let x : y ≡ a = cc in
      let u : p y ≡ true = ap p x ∙ s in
      let v : Distinct (g y ∷ chosen p g ys) = rw u at d in
      v.0 (subst (λ (n : ℕ). In n (chosen p g ys)) (sym (ap g x ∙ q)) (in_chosen ys j b f t))
  distinct_chosen (y ∷ ys) d (suc i) (suc j) a b l e f s t q = distinct_chosen ys (one_less y ys (p y) d) i j a b (omega arith) e f s t q
