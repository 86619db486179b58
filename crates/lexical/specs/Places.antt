-- Elements of a list by their places; what holds of all of them, of some; numbers in a list and lists that have each number once.
use Rattle.std.specs.Prelude.{◌≡◌, refl, ◌⊎◌, List, [], ◌∷◌, ◌++◌, map, Bool, true, false, cond, ◌≤◌, ℕ, zero, suc, ◌+◌, ◌<◌, length}
use Rattle.std.proofs.Common.{ap, sym, ◌∙◌, subst, inl, inr, arith}
use Rattle.std.proofs.Math.Option.{Option, none, some}
use Rattle.std.proofs.Math.ListN.{get_elem?}
use Rattle.lexical.specs.Lists.{first, map_o, none-some, Tested, was, wasnt, tested, Opened, absent, present, opened}

pub at_append : {A : Type 0} (xs ys : List A) (i : ℕ) (a : A) → get_elem? xs i ≡ some a → get_elem? (xs ++ ys) i ≡ some a
at_append [] ys i a e = absurd (let z : ◌≡◌ {A = ℕ} 0 1 = cc in omega arith)
at_append (x ∷ xs) ys zero a e = e
at_append (x ∷ xs) ys (suc i) a e = at_append xs ys i a e

pub at_end : {A : Type 0} (xs : List A) (a : A) → get_elem? (xs ++ (a ∷ [])) (length xs) ≡ some a
at_end [] a = refl
at_end (x ∷ xs) a = at_end xs a

pub at-below : {A : Type 0} (xs : List A) (i : ℕ) (a : A) → get_elem? xs i ≡ some a → i < length xs
at-below [] i a e = absurd (let z : ◌≡◌ {A = ℕ} 0 1 = cc in omega arith)
at-below (x ∷ xs) zero a e = omega arith
at-below (x ∷ xs) (suc i) a e = let h = at-below xs i a e in omega arith

pub at_left : {A : Type 0} (xs ys : List A) (i : ℕ) → i < length xs → get_elem? (xs ++ ys) i ≡ get_elem? xs i
at_left [] ys i h = absurd (omega arith)
at_left (x ∷ xs) ys zero h = refl
at_left (x ∷ xs) ys (suc i) h = at_left xs ys i (omega arith)

-- an element of a list with one more at its end
pub at_snoc : {A : Type 0} (xs : List A) (y : A) (i : ℕ) (a : A) → get_elem? (xs ++ (y ∷ [])) i ≡ some a → (get_elem? xs i ≡ some a) ⊎ ((i ≡ length xs) × (y ≡ a))
at_snoc [] y zero a e = inr (refl, (let z : y ≡ a = cc in z))
at_snoc [] y (suc i) a e = absurd (none-some refl e)
at_snoc (x ∷ xs) y zero a e = inl e
at_snoc (x ∷ xs) y (suc i) a e = go (at_snoc xs y i a e)
  where
    go : (get_elem? xs i ≡ some a) ⊎ ((i ≡ length xs) × (y ≡ a)) → (get_elem? xs i ≡ some a) ⊎ ((suc i ≡ suc (length xs)) × (y ≡ a))
    go (inl q) = inl q
    go (inr q) = inr (ap suc q.0, q.1)

-- an element of two lists, one behind the other
pub at_either : {A : Type 0} (xs ys : List A) (i : ℕ) (a : A) → get_elem? (xs ++ ys) i ≡ some a → (get_elem? xs i ≡ some a) ⊎ ((k : ℕ) × (get_elem? ys k ≡ some a))
at_either [] ys i a e = inr (i, e)
at_either (x ∷ xs) ys zero a e = inl e
at_either (x ∷ xs) ys (suc i) a e = at_either xs ys i a e

pub at_behind : {A : Type 0} (xs ys : List A) (k : ℕ) → get_elem? (xs ++ ys) (length xs + k) ≡ get_elem? ys k
at_behind [] ys k = let e : 0 + k ≡ k = omega arith in ap (get_elem? ys) e
at_behind (x ∷ xs) ys k = let e : suc (length xs) + k ≡ suc (length xs + k) = omega arith in ap (get_elem? (x ∷ (xs ++ ys))) e ∙ at_behind xs ys k

-- what holds of every element, of some element
abbrev pub All : {A : Type 0} → (A → Type 0) → List A → Type 0
All {A = A} P xs = (j : ℕ) (x : A) → get_elem? xs j ≡ some x → P x

abbrev pub Some : {A : Type 0} → (A → Type 0) → List A → Type 0
Some {A = A} P xs = (j : ℕ) × (x : A) × (get_elem? xs j ≡ some x) × P x

pub all_none : {A : Type 0} (P : A → Type 0) → All P []
all_none P j x e = absurd (none-some refl e)

pub all_cons : {A : Type 0} (P : A → Type 0) (y : A) (xs : List A) → P y → All P xs → All P (y ∷ xs)
all_cons P y xs p h zero x e = let z : y ≡ x = cc in subst P z p
all_cons P y xs p h (suc j) x e = h j x e

pub all_append : {A : Type 0} (P : A → Type 0) (xs ys : List A) → All P xs → All P ys → All P (xs ++ ys)
all_append P [] ys a b = b
all_append P (x ∷ xs) ys a b = all_cons P x (xs ++ ys) (a zero x refl) (all_append P xs ys (λ j y e. a (suc j) y e) b)

pub all_snoc : {A : Type 0} (P : A → Type 0) (xs : List A) (y : A) → All P xs → P y → All P (xs ++ (y ∷ []))
all_snoc P xs y a p = all_append P xs (y ∷ []) a (all_cons P y [] p (all_none P))

pub all_map : {A B : Type 0} (P : B → Type 0) (f : A → B) (xs : List A) → All (λ x. P (f x)) xs → All P (map f xs)
all_map P f [] h = all_none P
all_map P f (x ∷ xs) h = all_cons P (f x) (map f xs) (h zero x refl) (all_map P f xs (λ j y e. h (suc j) y e))

pub all_to : {A : Type 0} (P Q : A → Type 0) (xs : List A) → ((a : A) → P a → Q a) → All P xs → All Q xs
all_to P Q xs h p j x e = h x (p j x e)

pub some_left : {A : Type 0} (P : A → Type 0) (xs ys : List A) → Some P xs → Some P (xs ++ ys)
some_left P xs ys (j, x, e, p) = (j, x, at_append xs ys j x e, p)

pub some_right : {A : Type 0} (P : A → Type 0) (xs ys : List A) → Some P ys → Some P (xs ++ ys)
some_right P [] ys h = h
some_right P (x ∷ xs) ys h = let r = some_right P xs ys h in (suc r.0, r.1, r.2, r.3)

pub some_end : {A : Type 0} (P : A → Type 0) (xs : List A) (y : A) → P y → Some P (xs ++ (y ∷ []))
some_end P xs y p = (length xs, y, at_end xs y, p)

pub map_at : {A B : Type 0} (f : A → B) (xs : List A) (j : ℕ) (x : A) → get_elem? xs j ≡ some x → get_elem? (map f xs) j ≡ some (f x)
map_at f [] j x e = absurd (none-some refl e)
map_at f (y ∷ xs) zero x e = let z : y ≡ x = cc in ap (λ w. some (f w)) z
map_at f (y ∷ xs) (suc j) x e = map_at f xs j x e

pub map-from : {A B : Type 0} (f : A → B) (xs : List A) (j : ℕ) (y : B) → get_elem? (map f xs) j ≡ some y → (x : A) × (get_elem? xs j ≡ some x) × (f x ≡ y)
map-from f [] j y e = absurd (none-some refl e)
map-from f (x ∷ xs) zero y e = (x, refl, (let z : f x ≡ y = cc in z))
map-from f (x ∷ xs) (suc j) y e = map-from f xs j y e

-- two lists that give one, element by element
pub paired : {A B C : Type 0} (f : A → C) (g : B → C) (xs : List A) (ys : List B) → map f xs ≡ map g ys → (j : ℕ) (x : A) → get_elem? xs j ≡ some x → (y : B) × (get_elem? ys j ≡ some y) × (f x ≡ g y)
paired f g [] ys h j x e = absurd (none-some refl e)
paired f g (a ∷ xs) [] h j x e = absurd (omega (arith, ap length h))
paired f g (a ∷ xs) (b ∷ ys) h zero x e = let z : a ≡ x = cc in (b, refl, subst (λ w. f w ≡ g b) z (let q : f a ≡ g b = cc in q))
paired f g (a ∷ xs) (b ∷ ys) h (suc j) x e = paired f g xs ys (let q : map f xs ≡ map g ys = cc in q) j x e

-- the first that passes a test stands somewhere and passes it
pub first-at : {A : Type 0} (p : A → Bool) (xs : List A) (a : A) → first p xs ≡ some a → (j : ℕ) × (get_elem? xs j ≡ some a) × (p a ≡ true)
unfolding first
first-at p [] a e = absurd (none-some refl e)
first-at p (x ∷ xs) a e = go (tested (p x)) e (λ z. first-at p xs a z)
  where
    go : Tested (p x) → cond (p x) (some x) (first p xs) ≡ some a → (first p xs ≡ some a → (j : ℕ) × (get_elem? xs j ≡ some a) × (p a ≡ true)) → (j : ℕ) × (get_elem? (x ∷ xs) j ≡ some a) × (p a ≡ true)
    go (was t) z rec = let y : some x ≡ some a = rw t at z in let w : x ≡ a = cc in (zero, y, subst (λ b. p b ≡ true) w t)
    go (wasnt t) z rec = let r = rec (rw t at z) in (suc r.0, r.1, r.2)

-- none passes it, if each that passed would be refuted
pub first_no : {A : Type 0} (p : A → Bool) (xs : List A) → ((j : ℕ) (a : A) → get_elem? xs j ≡ some a → p a ≡ true → ⊥) → first p xs ≡ none
first_no p xs h = go (opened (first p xs))
  where
    go : Opened (first p xs) → first p xs ≡ none
    go (absent e) = e
    go (present a e) = let r = first-at p xs a e in absurd (h r.0 a r.1 r.2)

pub map_o_none : {A B : Type 0} (f : A → B) (o : Option A) → o ≡ none → map_o f o ≡ none
unfolding map_o
map_o_none f o e = rw e refl

pub map_o_some : {A B : Type 0} (f : A → B) (o : Option A) (b : B) → map_o f o ≡ some b → (a : A) × (o ≡ some a) × (f a ≡ b)
unfolding map_o
map_o_some f none b e = absurd (none-some refl e)
map_o_some f (some a) b e = (a, refl, (let z : f a ≡ b = cc in z))

pub first_has : {A : Type 0} (p : A → Bool) (xs : List A) (j : ℕ) (a : A) → get_elem? xs j ≡ some a → p a ≡ true → first p xs ≡ none → ⊥
unfolding first
first_has p [] j a e t n = none-some refl e
first_has p (x ∷ xs) j a e t n = go (tested (p x)) j e n (λ i z m. first_has p xs i a z t m)
  where
    go : Tested (p x) → (j : ℕ) → get_elem? (x ∷ xs) j ≡ some a → cond (p x) (some x) (first p xs) ≡ none → ((i : ℕ) → get_elem? xs i ≡ some a → first p xs ≡ none → ⊥) → ⊥
    go (was q) j z m rec = none-some {a = x} {o = cond (p x) (some x) (first p xs)} m (rw q refl)
    go (wasnt q) zero z m rec = let w : x ≡ a = cc in let v : true ≡ false = sym t ∙ ap p (sym w) ∙ q in let y : ◌≡◌ {A = ℕ} 0 1 = cc in omega arith
    go (wasnt q) (suc i) z m rec = rec i z (rw q at m)

-- numbers in a list, and lists that have each number once
abbrev pub In : ℕ → List ℕ → Type 0
In x [] = ⊥
In x (y ∷ ys) = (x ≡ y) ⊎ In x ys

abbrev pub Distinct : List ℕ → Type 0
Distinct [] = Unit {0}
Distinct (x ∷ xs) = (In x xs → ⊥) × Distinct xs

pub at_in : (xs : List ℕ) (k x : ℕ) → get_elem? xs k ≡ some x → In x xs
at_in [] k x e = absurd (none-some refl e)
at_in (y ∷ xs) zero x e = let z : y ≡ x = cc in inl (sym z)
at_in (y ∷ xs) (suc k) x e = inr (at_in xs k x e)

pub in_snoc : (x y : ℕ) (xs : List ℕ) → In x (xs ++ (y ∷ [])) → In x xs ⊎ (x ≡ y)
in_snoc x y [] (inl e) = inr e
in_snoc x y (z ∷ xs) (inl e) = inl (inl e)
in_snoc x y (z ∷ xs) (inr h) = go (in_snoc x y xs h)
  where
    go : In x xs ⊎ (x ≡ y) → ((x ≡ z) ⊎ In x xs) ⊎ (x ≡ y)
    go (inl m) = inl (inr m)
    go (inr e) = inr e
in_snoc x y [] (inr h) = elim h [ ]

pub distinct_snoc : (x : ℕ) (xs : List ℕ) → Distinct xs → (In x xs → ⊥) → Distinct (xs ++ (x ∷ []))
distinct_snoc x [] d n = ((λ h. h), tt)
distinct_snoc x (y ∷ ys) d n = ((λ h. go (in_snoc y x ys h)), distinct_snoc x ys d.1 (λ h. n (inr h)))
  where
    go : In y ys ⊎ (y ≡ x) → ⊥
    go (inl m) = d.0 m
    go (inr e) = n (inl (sym e))

pub in_left : (t : ℕ) (xs ys : List ℕ) → In t xs → In t (xs ++ ys)
in_left t (x ∷ xs) ys (inl e) = inl e
in_left t (x ∷ xs) ys (inr m) = inr (in_left t xs ys m)
in_left t [] ys x' = elim x' [ ]

pub in_right : (t : ℕ) (xs ys : List ℕ) → In t ys → In t (xs ++ ys)
in_right t [] ys m = m
in_right t (x ∷ xs) ys m = inr (in_right t xs ys m)

pub distinct_right : (xs ys : List ℕ) → Distinct (xs ++ ys) → Distinct ys
distinct_right [] ys d = d
distinct_right (x ∷ xs) ys d = distinct_right xs ys d.1

pub distinct_left : (xs ys : List ℕ) → Distinct (xs ++ ys) → Distinct xs
distinct_left [] ys d = tt
distinct_left (x ∷ xs) ys d = ((λ m. d.0 (in_left x xs ys m)), distinct_left xs ys d.1)

pub disjoint : (t : ℕ) (xs ys : List ℕ) → Distinct (xs ++ ys) → In t xs → In t ys → ⊥
disjoint t (x ∷ xs) ys d (inl e) m = d.0 (in_right x xs ys (rw (← e) m))
disjoint t (x ∷ xs) ys d (inr n) m = disjoint t xs ys d.1 n m
disjoint t [] ys d x3 m = elim x3 [ ]

-- k numbers from n on
unfoldable pub up_from : ℕ → ℕ → List ℕ
up_from n zero = []
up_from n (suc k) = n ∷ up_from (suc n) k

up_from_lem : (t n k : ℕ) → In t (up_from n k) → n ≤ t
unfolding up_from
up_from_lem t n (suc k) (inl e) = omega arith
up_from_lem t n (suc k) (inr m) = omega (arith, up_from_lem t (suc n) k m)
up_from_lem t n zero m = absurd m

pub up_from_distinct : (n k : ℕ) → Distinct (up_from n k)
unfolding up_from
up_from_distinct n zero = tt
up_from_distinct n (suc k) = ((λ m. omega (arith, up_from_lem n (suc n) k m)), up_from_distinct (suc n) k)
