-- What the definitions need of lists and options: the first that passes a test, how many pass it, where a number stands; and tests by their values.
use Rattle.std.specs.Prelude.{◌≡◌, refl, List, [], ◌∷◌, ◌++◌, Bool, true, false, cond, ℕ, suc, eqb, T, length}
use Rattle.std.proofs.Common.{ap, sym, ◌∙◌, arith, eqb→eq}
use Rattle.std.proofs.Math.Option.{Option, none, some}
use Rattle.std.proofs.Math.Dec.{eqb_refl}

unfoldable pub or_else : {A : Type 0} → Option A → Option A → Option A
or_else none y = y
or_else (some x) y = some x

unfoldable pub map_o : {A B : Type 0} → (A → B) → Option A → Option B
map_o f none = none
map_o f (some a) = some (f a)

unfoldable pub first : {A : Type 0} → (A → Bool) → List A → Option A
first p [] = none
first p (x ∷ xs) = cond (p x) (some x) (first p xs)

unfoldable pub count : {A : Type 0} → (A → Bool) → List A → ℕ
count p [] = 0
count p (x ∷ xs) = cond (p x) (suc (count p xs)) (count p xs)

-- what f says of those that pass a test
unfoldable pub picked : {A B : Type 0} → (A → Bool) → (A → B) → List A → List B
picked p f [] = []
picked p f (x ∷ xs) = cond (p x) (f x ∷ picked p f xs) (picked p f xs)

unfoldable pub place : ℕ → List ℕ → Option ℕ
place n [] = none
place n (x ∷ xs) = cond (eqb x n) (some 0) (map_o suc (place n xs))

-- tests
pub T_true : {b : Bool} → b ≡ true → T b
T_true e = rw e tt

pub true-T : (b : Bool) → T b → b ≡ true
true-T true t = refl
true-T false t = absurd t

pub eqb_self : (n : ℕ) → eqb n n ≡ true
eqb_self n = true-T (eqb n n) (eqb_refl n)

pub eqb-true : (m n : ℕ) → eqb m n ≡ true → m ≡ n
eqb-true m n e = eqb→eq m n (T_true e)

-- a test's value, kept as an equation
pub data Tested (b : Bool) : Type 0 where
  was : b ≡ true → Tested b
  wasnt : b ≡ false → Tested b

pub tested : (b : Bool) → Tested b
tested true = was refl
tested false = wasnt refl

pub data Opened {A : Type 0} (o : Option A) : Type 0 where
  absent : o ≡ none → Opened o
  present : (a : A) → o ≡ some a → Opened o

pub opened : {A : Type 0} (o : Option A) → Opened o
opened none = absent refl
opened (some a) = present a refl

pub or_else_none : {A : Type 0} (x : Option A) → or_else x none ≡ x
unfolding or_else
or_else_none none = refl
or_else_none (some x) = refl

pub or_else_assoc : {A : Type 0} (x y z : Option A) → or_else (or_else x y) z ≡ or_else x (or_else y z)
unfolding or_else
or_else_assoc none y z = refl
or_else_assoc (some x) y z = refl

pub map_o_or_else : {A B : Type 0} (f : A → B) (x y : Option A) → map_o f (or_else x y) ≡ or_else (map_o f x) (map_o f y)
unfolding map_o or_else
map_o_or_else f none y = refl
map_o_or_else f (some x) y = refl

pub map_o_cond : {A B : Type 0} (f : A → B) (b : Bool) (x : A) (y : Option A) → map_o f (cond b (some x) y) ≡ cond b (some (f x)) (map_o f y)
unfolding map_o
map_o_cond f true x y = refl
map_o_cond f false x y = refl

pub or_else_cond : {A : Type 0} (b : Bool) (x : A) (y z : Option A) → or_else (cond b (some x) y) z ≡ cond b (some x) (or_else y z)
unfolding or_else
or_else_cond true x y z = refl
or_else_cond false x y z = refl

pub first_append : {A : Type 0} (p : A → Bool) (xs ys : List A) → first p (xs ++ ys) ≡ or_else (first p xs) (first p ys)
unfolding first or_else
first_append p [] ys = refl
first_append p (x ∷ xs) ys = ap (cond (p x) (some x)) (first_append p xs ys) ∙ sym (or_else_cond (p x) x (first p xs) (first p ys))

pub count_snoc : {A : Type 0} (p : A → Bool) (xs : List A) (y : A) → count p (xs ++ (y ∷ [])) ≡ cond (p y) (suc (count p xs)) (count p xs)
unfolding count
count_snoc p [] y = refl
count_snoc p (x ∷ xs) y = go (p x) (p y) _ _ (count_snoc p xs y)
  where
    go : (b c : Bool) (m n : ℕ) → m ≡ cond c (suc n) n → cond b (suc m) m ≡ cond c (suc (cond b (suc n) n)) (cond b (suc n) n)
    go true true m n e = ap suc e
    go true false m n e = ap suc e
    go false true m n e = e
    go false false m n e = e

-- by the two values of a test
pub either : (b : Bool) (P : Bool → Type 0) → P true → P false → P b
either true P t f = t
either false P t f = f

-- a fact that is asked only where a test holds
abbrev pub If : Bool → Type 0 → Type 0
If true P = P
If false P = Unit {0}

pub if_map : {P Q : Type 0} (b : Bool) → (P → Q) → If b P → If b Q
if_map true h p = h p
if_map false h p = tt

pub if_both : (P Q : Type 0) (b : Bool) → If b P → If b Q → If b (P × Q)
if_both P Q true p q = (p, q)
if_both P Q false p q = tt

pub eqb-false : (m n : ℕ) → eqb m n ≡ false → m ≡ n → ⊥
eqb-false m n e q = let z : eqb m m ≡ false = rw (← q) at e in let y : ◌≡◌ {A = ℕ} 0 1 = cc (eqb_self m) in omega arith

pub eqb-not : (m n : ℕ) → (m ≡ n → ⊥) → eqb m n ≡ false
eqb-not m n h = go (tested (eqb m n))
  where
    go : Tested (eqb m n) → eqb m n ≡ false
    go (was e) = absurd (h (eqb-true m n e))
    go (wasnt e) = e

pub none-some : {A : Type 0} {a : A} {o : Option A} → o ≡ none → o ≡ some a → ⊥
none-some p q = let y : ◌≡◌ {A = ℕ} 0 1 = cc in omega arith

pub first_old : {A : Type 0} (p : A → Bool) (xs ys : List A) (a : A) → first p xs ≡ some a → first p (xs ++ ys) ≡ some a
unfolding or_else
first_old p xs ys a e = first_append p xs ys ∙ (rw e refl)

pub first_here : {A : Type 0} (p : A → Bool) (xs : List A) (a : A) → first p xs ≡ none → p a ≡ true → first p (xs ++ (a ∷ [])) ≡ some a
unfolding or_else first
first_here p xs a e t = first_append p xs (a ∷ []) ∙ (rw (e, t) refl)

pub first_other : {A : Type 0} (p : A → Bool) (xs : List A) (a : A) → p a ≡ false → first p (xs ++ (a ∷ [])) ≡ first p xs
unfolding first
first_other p xs a t = first_append p xs (a ∷ []) ∙ (rw t (or_else_none _))

pub picked-length : {A B : Type 0} (p : A → Bool) (f : A → B) (xs : List A) → length (picked p f xs) ≡ count p xs
unfolding picked count
picked-length p f [] = refl
picked-length p f (x ∷ xs) = go (p x) (picked-length p f xs)
  where
    go : (b : Bool) → length (picked p f xs) ≡ count p xs → length (cond b (f x ∷ picked p f xs) (picked p f xs)) ≡ cond b (suc (count p xs)) (count p xs)
    go true e = ap suc e
    go false e = e

pub picked_snoc : {A B : Type 0} (p : A → Bool) (f : A → B) (xs : List A) (y : A) → picked p f (xs ++ (y ∷ [])) ≡ picked p f xs ++ cond (p y) (f y ∷ []) []
unfolding picked
picked_snoc p f [] y = refl
picked_snoc p f (x ∷ xs) y = go (p x) (picked_snoc p f xs y)
  where
    go : (b : Bool) → picked p f (xs ++ (y ∷ [])) ≡ picked p f xs ++ cond (p y) (f y ∷ []) [] → cond b (f x ∷ picked p f (xs ++ (y ∷ []))) (picked p f (xs ++ (y ∷ []))) ≡ cond b (f x ∷ picked p f xs) (picked p f xs) ++ cond (p y) (f y ∷ []) []
    go true e = ap (λ l. f x ∷ l) e
    go false e = e
