-- Number 8: a walk over a row of the table and the children of a node, one place after the other.
use Rattle.std.specs.Prelude.{ℕ, ◌+◌, ◌≤◌, ◌<◌, ◌≡◌, refl, Bool, true, false, List, [], ◌∷◌, leb, map, length, get_or, drop, eqb}
use Rattle.std.proofs.Common.{sym, ap, ◌∙◌, subst, arith, le-leb, leb-true, ne_eqb, add-one, drop_of_length-le}
use Rattle.std.proofs.Math.Seq.{drop-cons}
use Rattle.lexical.specs.Table.{Item, one, opt, many, within, head_in, drop_one, drop_many, is_empty, matches}
use Rattle.lexical.proofs.Theory.Slots.{both_true}
use Rattle.nodefile.specs.Kinds.{number}
use Rattle.nodefile.specs.Node.{kind_of, after}
use Rattle.nodefile.specs.Kids.{Kids, no_kids, kid, Fits, kids_cons}
use Rattle.nodefile.proofs.Laws.Fitting.{fits_first}
use Rattle.shape.specs.declared.children.Kinds.{Kinds}
use Rattle.shape.specs.declared.children.Item.{Item as Place}
use Rattle.shape.specs.declared.children.Item.TheVariants as place
use Rattle.shape.specs.Inside.Row.{place_of, HeadIn}

-- a part that falls into nodes and has less than 8 bytes has none
kids_short : {t ks : List ℕ} → Kids t ks → length t < 8 → ks ≡ []
kids_short no_kids h = refl
kids_short (kid a b r) h = absurd (omega arith)

kids_some : {t ks : List ℕ} {k : ℕ} → Kids t (k ∷ ks) → (k ≡ kind_of t) × (8 ≤ length t)
kids_some (kid a b r) = (refl, omega arith)

pub none_left : {t ks : List ℕ} → Kids t ks → is_empty ks ≡ eqb (length t) 0
unfolding is_empty
none_left no_kids = refl
none_left (kid {t = t} a b r) = sym (ne_eqb (length t) 0 (λ z. omega arith))

-- ---- what a place takes, and what is left of the row

module _ (lo hi k : ℕ) (ls : List ℕ) (is : List Item) (e : within lo hi k ≡ true) where
  one_takes : matches (one lo hi ∷ is) (k ∷ ls) ≡ matches is ls
  unfolding matches head_in drop_one
  one_takes = rw e refl

  opt_takes : matches (opt lo hi ∷ is) (k ∷ ls) ≡ matches is ls
  unfolding matches drop_one
  opt_takes = rw e refl

  many_takes : matches (many lo hi ∷ is) (k ∷ ls) ≡ matches (many lo hi ∷ is) ls
  unfolding matches drop_many
  many_takes = rw e refl

module _ (lo hi : ℕ) (is : List Item) where
  one_lacks : (ls : List ℕ) → head_in lo hi ls ≡ false → matches (one lo hi ∷ is) ls ≡ false
  unfolding matches
  one_lacks ls e = rw e refl

  opt_passed : (ls : List ℕ) → head_in lo hi ls ≡ false → matches (opt lo hi ∷ is) ls ≡ matches is ls
  unfolding matches drop_one head_in
  opt_passed [] e = refl
  opt_passed (k ∷ ls) e = rw e refl

  many_passed : (ls : List ℕ) → head_in lo hi ls ≡ false → matches (many lo hi ∷ is) ls ≡ matches is ls
  unfolding matches drop_many head_in
  many_passed [] e = refl
  many_passed (k ∷ ls) e = rw e refl

-- ---- the first node of a part

taken : (t : List ℕ) (k : Kinds) → HeadIn t k → within (number k.0) (number k.1) (kind_of t) ≡ true
unfolding within
taken t k h = rw (le-leb (number k.0) (kind_of t) h.1, le-leb (kind_of t) (number k.1) h.2)

other : (t : List ℕ) (k : Kinds) (ls : List ℕ) → Kids t ls → (HeadIn t k → ⊥) → head_in (number k.0) (number k.1) ls ≡ false
unfolding within head_in
other t k [] m n = refl
other t k (j ∷ ls) m n = pick (within (number k.0) (number k.1) j) refl
  where
    pick : (b : Bool) → within (number k.0) (number k.1) j ≡ b → within (number k.0) (number k.1) j ≡ false
    pick false e = e
    pick true e =
        let f = kids_some m in
        let h = both_true (leb (number k.0) j) (leb j (number k.1)) e in
        absurd (n (f.1, omega (arith, f.0, leb-true (number k.0) j h.0), omega (arith, f.0, leb-true j (number k.1) h.1)))

-- ---- the walk

-- the children ks are as the whole row says if those in t are as what is left of it
pub record Step (whole : List Item) (ks : List ℕ) (left : List Item) (t : List ℕ) : Type 0 where
  pub ls : List ℕ
  pub kids : Kids t ls
  pub same : matches whole ks ≡ matches left ls

-- the places from i on are left of a row, and t of the children
pub record Filling (row : List Place) (kids : List ℕ) (i : ℕ) (t : List ℕ) : Type 0 where
  pub fits : Fits t
  pub left : (ks : List ℕ) → Kids kids ks → Step (map place_of row) ks (map place_of (drop i row)) t

pub filling_all : (row : List Place) {kids : List ℕ} → Fits kids → Filling row kids 0 kids
filling_all row f = record { fits = f; left = λ ks k. record { ls = ks; kids = k; same = refl } }

module _ {row : List Place} {kids : List ℕ} {i : ℕ} {t : List ℕ} (f : Filling row kids i t) where
  -- no place is left
  pub filling_end : length row ≤ i → (ks : List ℕ) → Kids kids ks → eqb (length t) 0 ≡ matches (map place_of row) ks
  unfolding matches is_empty
  filling_end l ks k =
      let s = f.left ks k in
      let e : drop i row ≡ [] = drop_of_length-le row l in
      let r : matches (map place_of row) ks ≡ is_empty s.ls = s.same ∙ ap (λ (is : List Place). matches (map place_of is) s.ls) e in
      sym (r ∙ none_left s.kids)

  -- the first child is taken, or the place is passed over; the places from j on are left
  goes_on : (j : ℕ) → 8 ≤ length t → ((ls : List ℕ) → matches (map place_of (drop i row)) (kind_of t ∷ ls) ≡ matches (map place_of (drop j row)) ls)
      → {u : List ℕ} → u ≡ after t → Filling row kids j u
  goes_on j h g {u} q = record { fits = subst Fits (sym q) (fits_first f.fits (omega arith)).2; left = λ ks k. more (f.left ks k) }
    where
      more : {ks : List ℕ} → Step (map place_of row) ks (map place_of (drop i row)) t → Step (map place_of row) ks (map place_of (drop j row)) u
      more s = let n = kids_cons s.kids (omega arith) in record { ls = n.0; kids = subst (λ (v : List ℕ). Kids v n.0) (sym q) n.2; same = s.same ∙ ap (matches (map place_of (drop i row))) n.1 ∙ g n.0 }

  stands : (j : ℕ) → ((ls : List ℕ) → Kids t ls → matches (map place_of (drop i row)) ls ≡ matches (map place_of (drop j row)) ls) → Filling row kids j t
  stands j g = record { fits = f.fits; left = λ ks k. let s = f.left ks k in record { ls = s.ls; kids = s.kids; same = s.same ∙ g s.ls s.kids } }

  module _ (d : Place) (l : i < length row) where
    -- the place that the walk has come to, and those after it
    here : {x : Place} → get_or row i d ≡ x → map place_of (drop i row) ≡ place_of x ∷ map place_of (drop (i + 1) row)
    here {x} e = ap (map place_of) (drop-cons row i d l) ∙ rw (e, add-one i) refl

    module _ {k : Kinds} (e : get_or row i d ≡ place.One k) where
      pub one_filled : HeadIn t k → {u : List ℕ} → u ≡ after t → Filling row kids (i + 1) u
      one_filled h q = goes_on (i + 1) h.0 (λ ls. ap (λ is. matches is (kind_of t ∷ ls)) (here e) ∙ one_takes _ _ (kind_of t) ls _ (taken t k h)) q

      pub one_missing : (HeadIn t k → ⊥) → (ks : List ℕ) → Kids kids ks → false ≡ matches (map place_of row) ks
      one_missing n ks m = let s = f.left ks m in sym (s.same ∙ ap (λ is. matches is s.ls) (here e) ∙ one_lacks _ _ _ s.ls (other t k s.ls s.kids n))

    module _ {k : Kinds} (e : get_or row i d ≡ place.Opt k) where
      pub opt_filled : HeadIn t k → {u : List ℕ} → u ≡ after t → Filling row kids (i + 1) u
      opt_filled h q = goes_on (i + 1) h.0 (λ ls. ap (λ is. matches is (kind_of t ∷ ls)) (here e) ∙ opt_takes _ _ (kind_of t) ls _ (taken t k h)) q

      pub opt_missing : (HeadIn t k → ⊥) → Filling row kids (i + 1) t
      opt_missing n = stands (i + 1) (λ ls m. ap (λ is. matches is ls) (here e) ∙ opt_passed _ _ _ ls (other t k ls m n))

    module _ {k : Kinds} (e : get_or row i d ≡ place.Many k) where
      pub many_filled : HeadIn t k → {u : List ℕ} → u ≡ after t → Filling row kids i u
      many_filled h q = goes_on i h.0 (λ ls. ap (λ is. matches is (kind_of t ∷ ls)) (here e) ∙ many_takes _ _ (kind_of t) ls _ (taken t k h) ∙ ap (λ is. matches is ls) (sym (here e))) q

      pub many_missing : (HeadIn t k → ⊥) → Filling row kids (i + 1) t
      many_missing n = stands (i + 1) (λ ls m. ap (λ is. matches is ls) (here e) ∙ many_passed _ _ _ ls (other t k ls m n))
