-- What resolving needs of a forest, and what of it passes to parts of the forest: to a node by itself and what follows it, to a node's children,
-- to a function's children inside the function, and to either part of a forest put together.
use Prim.Native.Nat.{ℕ, suc, ◌+◌, ◌≤◌, ◌<◌}
use mathlib.Core.Path.{◌≡◌, refl, sym, ap, ◌∙◌, subst}
use mathlib.Core.Logic.{◌⊎◌, inl, inr}
use mathlib.Core.List.{List, [], ◌∷◌, ◌++◌, append_assoc, append-nil}
use native.Mathlib.Omega.{arith}
use native.Mathlib.Decide.{ℕ_discrete}
use native.Mathlib.Nat.{le-max_left, le-max_right, max-le}
use lib.ListN.{length}
use Rattle.lexical.specs.Places.{In, Distinct, in_left, in_right, distinct_left, distinct_right}
use Rattle.lexical.specs.Tree.{Forest, nil, node, scopes_in, ◌⊕◌, listed}
use Rattle.lexical.proofs.Laws.Nodes.{scopes_def, scopes_lambda, scopes_others}
use Rattle.nodefile.specs.Height.{height}
use Rattle.nodefile.specs.Valid.{Valid}
use Rattle.nodefile.proofs.Laws.Parts.{valid_apart}

-- ss: the scopes around
pub record Fine (ss : List ℕ) (f : Forest) : Type 0 where
  pub valid : Valid f
  pub deep : length ss + height f ≤ 127
  pub apart : Distinct (scopes_in f)
  pub unmet : (s : ℕ) → In s (scopes_in f) → In s ss → ⊥

-- ---- heights

module _ (a k v : ℕ) (kids rest : Forest) where
  height_kids : height kids < height (node a k v kids rest)
  height_kids = omega (arith, le-max_left (suc (height kids)) (height rest))

  height_rest : height rest ≤ height (node a k v kids rest)
  height_rest = le-max_right (suc (height kids)) (height rest)

  height-alone : height (node a k v kids nil) ≤ height (node a k v kids rest)
  height-alone = max-le (le-max_left (suc (height kids)) (height rest)) (omega arith)

height-front : (f g : Forest) → height f ≤ height (f ⊕ g)
unfolding ◌⊕◌
height-front nil g = omega arith
height-front (node a k v kids rest) g = max-le (le-max_left _ _) (omega (arith, height-front rest g, le-max_right (suc (height kids)) (height (rest ⊕ g))))

height-back : (f g : Forest) → height g ≤ height (f ⊕ g)
unfolding ◌⊕◌
height-back nil g = omega arith
height-back (node a k v kids rest) g = omega (arith, height-back rest g, le-max_right (suc (height kids)) (height (rest ⊕ g)))

height-joined : (f g : Forest) (n : ℕ) → height f ≤ n → height g ≤ n → height (f ⊕ g) ≤ n
unfolding ◌⊕◌
height-joined nil g n p q = q
height-joined (node a k v kids rest) g n p q =
    max-le
    (omega (arith, le-max_left (suc (height kids)) (height rest)))
    (height-joined rest g n (omega (arith, le-max_right (suc (height kids)) (height rest))) q)

-- ---- scopes

scopes_nil : scopes_in nil ≡ []
unfolding scopes_in listed
scopes_nil = refl

-- a node's own scopes, before those below it and after it
record Own (k v : ℕ) : Type 0 where
  pub own : List ℕ
  pub is : (a : ℕ) (kids rest : Forest) → scopes_in (node a k v kids rest) ≡ own ++ (scopes_in kids ++ scopes_in rest)

own_scopes : (k v : ℕ) → Own k v
own_scopes k v = go (ℕ_discrete k 6) (ℕ_discrete k 12)
  where
    go : Dec (k ≡ 6) → Dec (k ≡ 12) → Own k v
    go (yes e) d = record { own = v ∷ []; is = λ a kids rest. rw e (scopes_def a v kids rest) }
    go (no n) (yes e) = record { own = v ∷ []; is = λ a kids rest. rw e (scopes_lambda a v kids rest) }
    go (no n) (no m) = record { own = []; is = λ a kids rest. scopes_others k n m a v kids rest }

-- each number of xs is one of ys, and xs has none twice if ys has none
record Within (xs ys : List ℕ) : Type 0 where
  pub among : (s : ℕ) → In s xs → In s ys
  pub once : Distinct ys → Distinct xs

within_left : (xs ys : List ℕ) → Within xs (xs ++ ys)
within_left xs ys = record { among = λ s m. in_left s xs ys m; once = λ d. distinct_left xs ys d }

within_right : (xs ys : List ℕ) → Within ys (xs ++ ys)
within_right xs ys = record { among = λ s m. in_right s xs ys m; once = λ d. distinct_right xs ys d }

within_trans : {xs ys zs : List ℕ} → Within xs ys → Within ys zs → Within xs zs
within_trans p q = record { among = λ s m. q.among s (p.among s m); once = λ d. p.once (q.once d) }

module _ (a k v : ℕ) (kids rest : Forest) where
  scopes_kids : Within (scopes_in kids) (scopes_in (node a k v kids rest))
  scopes_kids =
      let o = own_scopes k v in
      rw (o.is a kids rest) (within_trans (within_left (scopes_in kids) (scopes_in rest)) (within_right o.own _))

  scopes_rest : Within (scopes_in rest) (scopes_in (node a k v kids rest))
  scopes_rest =
      let o = own_scopes k v in
      rw (o.is a kids rest) (within_trans (within_right (scopes_in kids) (scopes_in rest)) (within_right o.own _))

  scopes_alone : Within (scopes_in (node a k v kids nil)) (scopes_in (node a k v kids rest))
  scopes_alone =
      let o = own_scopes k v in
      let e : scopes_in (node a k v kids nil) ≡ o.own ++ scopes_in kids = o.is a kids nil ∙ ap (λ (l : List ℕ). o.own ++ (scopes_in kids ++ l)) scopes_nil ∙ ap (λ (l : List ℕ). o.own ++ l) (append-nil (scopes_in kids)) in
      let d : scopes_in (node a k v kids rest) ≡ (o.own ++ scopes_in kids) ++ scopes_in rest = o.is a kids rest ∙ sym (append_assoc o.own (scopes_in kids) (scopes_in rest)) in
      rw (e, d) (within_left (o.own ++ scopes_in kids) (scopes_in rest))

scopes_joined : (f g : Forest) → scopes_in (f ⊕ g) ≡ scopes_in f ++ scopes_in g
unfolding ◌⊕◌
scopes_joined nil g = rw scopes_nil refl
scopes_joined (node a k v kids rest) g =
    let o = own_scopes k v in
    o.is a kids (rest ⊕ g) ∙ ap (λ (l : List ℕ). o.own ++ (scopes_in kids ++ l)) (scopes_joined rest g) ∙ rw (o.is a kids rest, append_assoc o.own (scopes_in kids ++ scopes_in rest) (scopes_in g), append_assoc (scopes_in kids) (scopes_in rest) (scopes_in g)) refl

-- ---- parts of a forest

valid_front : (f g : Forest) → Valid (f ⊕ g) → Valid f
unfolding Valid ◌⊕◌
valid_front nil g h = tt
valid_front (node a k v kids rest) g h = (h.0, h.1, valid_front rest g h.2)

valid_back : (f g : Forest) → Valid (f ⊕ g) → Valid g
unfolding Valid ◌⊕◌
valid_back nil g h = h
valid_back (node a k v kids rest) g h = valid_back rest g h.2

valid_joined : (f g : Forest) → Valid f → Valid g → Valid (f ⊕ g)
unfolding Valid ◌⊕◌
valid_joined nil g p q = q
valid_joined (node a k v kids rest) g p q = (p.0, p.1, valid_joined rest g p.2 q)

module _ {ss : List ℕ} where
  fine_part : {f g : Forest} → Fine ss g → Valid f → height f ≤ height g → Within (scopes_in f) (scopes_in g) → Fine ss f
  fine_part h v e w = record { valid = v; deep = omega (arith, h.deep); apart = w.once h.apart; unmet = λ s m. h.unmet s (w.among s m) }

  pub fine_apart : (a k v : ℕ) (kids rest : Forest) → Fine ss (node a k v kids rest) → Fine ss (node a k v kids nil) × Fine ss rest
  fine_apart a k v kids rest h =
      let p = valid_apart a k v kids rest h.valid in
      (fine_part h p.0 (height-alone a k v kids rest) (scopes_alone a k v kids rest), fine_part h p.1 (height_rest a k v kids rest) (scopes_rest a k v kids rest))

  pub fine_kids : (a k v : ℕ) (kids rest : Forest) → Fine ss (node a k v kids rest) → Fine ss kids
  fine_kids a k v kids rest h = fine_part h (unfold Valid in h.valid.1) (omega (arith, height_kids a k v kids rest)) (scopes_kids a k v kids rest)

  pub fine_front : (f g : Forest) → Fine ss (f ⊕ g) → Fine ss f
  fine_front f g h = fine_part h (valid_front f g h.valid) (height-front f g) (rw (scopes_joined f g) (within_left (scopes_in f) (scopes_in g)))

  pub fine_back : (f g : Forest) → Fine ss (f ⊕ g) → Fine ss g
  fine_back f g h = fine_part h (valid_back f g h.valid) (height-back f g) (rw (scopes_joined f g) (within_right (scopes_in f) (scopes_in g)))

  -- a node's children before what follows it, where it is no function
  pub fine_opened : (a k v : ℕ) (kids rest : Forest) → (k ≡ 6 → ⊥) → (k ≡ 12 → ⊥) → Fine ss (node a k v kids rest) → Fine ss (kids ⊕ rest)
  fine_opened a k v kids rest n m h =
      let z : scopes_in (node a k v kids rest) ≡ scopes_in (kids ⊕ rest) = scopes_others k n m a v kids rest ∙ sym (scopes_joined kids rest) in
      record {
        valid = unfold Valid in valid_joined kids rest h.valid.1 h.valid.2;
        deep = omega (arith, h.deep, height-joined kids rest (height (node a k v kids rest)) (omega (arith, height_kids a k v kids rest)) (height_rest a k v kids rest));
        apart = subst Distinct z h.apart;
        unmet = λ s i. h.unmet s (subst (In s) (sym z) i);
      }

-- ---- a function

module _ (a k v : ℕ) (kids rest : Forest) (function : (k ≡ 6) ⊎ (k ≡ 12)) where
  scopes_function : scopes_in (node a k v kids rest) ≡ v ∷ (scopes_in kids ++ scopes_in rest)
  scopes_function = go function
    where
      go : (k ≡ 6) ⊎ (k ≡ 12) → scopes_in (node a k v kids rest) ≡ v ∷ (scopes_in kids ++ scopes_in rest)
      go (inl e) = rw e (scopes_def a v kids rest)
      go (inr e) = rw e (scopes_lambda a v kids rest)

  module _ {ss : List ℕ} (h : Fine ss (node a k v kids rest)) where
    -- there is room for its scope, which is none of those around
    pub fine_room : length ss < 127
    fine_room = omega (arith, h.deep, height_kids a k v kids rest)

    pub fine_new : In v ss → ⊥
    fine_new m = h.unmet v (rw scopes_function (inl refl)) m

    -- what is inside it
    pub fine_inside : Fine (v ∷ ss) kids
    fine_inside =
        let q = fine_kids a k v kids rest h in
        let d : Distinct (v ∷ (scopes_in kids ++ scopes_in rest)) = subst Distinct scopes_function h.apart in
        record { valid = q.valid; deep = omega (arith, h.deep, height_kids a k v kids rest); apart = q.apart; unmet = λ s m o. other s m o d.0 }
      where
        other : (s : ℕ) → In s (scopes_in kids) → (s ≡ v) ⊎ In s ss → (In v (scopes_in kids ++ scopes_in rest) → ⊥) → ⊥
        other s m (inl e) n = n (in_left v (scopes_in kids) (scopes_in rest) (subst (λ (x : ℕ). In x (scopes_in kids)) e m))
        other s m (inr o) n = (fine_kids a k v kids rest h).unmet s m o
