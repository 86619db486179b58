-- A part of the node list that falls into whole nodes, one after the other: "each child is judged from its own stretch" (document 01).
--     kids_first, kids_cons, kids_none   what such a part starts with
--     kids_one                           one list of kinds only
--     fits_dec                           whether a part falls into nodes is decided
--     node_field, kind_at, size_at_lem   a field of the node p nodes into a part, as a reader of the part finds it
--     next, fits_on, fits_back, fits_size   one node on, as a walk by sizes goes
use Rattle.std.specs.Prelude.{ℕ, zero, suc, ◌+◌, ◌-◌, ◌*◌, ◌≤◌, ◌<◌, ◌≡◌, refl, List, [], ◌∷◌, length, drop}
use Rattle.std.proofs.Common.{sym, ap, ◌∙◌, subst, arith, not-suc-le-zero, add-zero, length-drop, drop-drop}
use Rattle.std.proofs.Math.Decide.{dec_lt, dec_le}
use Rattle.bits.specs.Field.{field_of}
use Rattle.bits.proofs.FieldLaws.{field_record}
use Rattle.nodefile.specs.Node.{kind_of, size_of, after}

-- the kinds of the nodes that a part falls into
pub data Kids : List ℕ → List ℕ → Type 0 where
  no_kids : Kids [] []
  kid : {t ks : List ℕ} → 0 < size_of t → 8 * size_of t ≤ length t → Kids (after t) ks → Kids t (kind_of t ∷ ks)

abbrev pub Fits : List ℕ → Type 0
Fits t = (ks : List ℕ) × Kids t ks

-- ---- what a part that falls into nodes starts with

pub kids_first : {t ks : List ℕ} → Kids t ks → 0 < length t → (0 < size_of t) × (8 * size_of t ≤ length t) × Fits (after t)
kids_first no_kids h = absurd (not-suc-le-zero h)
kids_first (kid {ks = ks} a b r) h = (a, b, (ks, r))

pub kids_cons : {t ks : List ℕ} → Kids t ks → 0 < length t → (ls : List ℕ) × (ks ≡ kind_of t ∷ ls) × Kids (after t) ls
kids_cons no_kids h = absurd (not-suc-le-zero h)
kids_cons (kid {ks = ls} a b r) h = (ls, refl, r)

pub kids_none : {t ks : List ℕ} → Kids t ks → length t ≡ 0 → ks ≡ []
kids_none no_kids h = refl
kids_none (kid a b r) h = let z : ⊥ = omega arith in absurd z

pub kids_one : {t ks ls : List ℕ} → Kids t ks → Kids t ls → ks ≡ ls
kids_one no_kids q = sym (kids_none q refl)
kids_one (kid {t = t} a b r) q =
    let d = kids_cons q (omega arith) in
    ap (◌∷◌ (kind_of t)) (kids_one r d.2) ∙ sym d.1

-- by a number f above the length
fits_dec_in : (f : ℕ) (t : List ℕ) → length t < f → Dec (Fits t)
fits_dec_in zero t h = let z : ⊥ = omega arith in absurd z
fits_dec_in (suc f) [] h = yes ([], no_kids)
fits_dec_in (suc f) (x ∷ u) h =
    let t = x ∷ u in
    elim (dec_lt 0 (size_of t)) [
      | no a ↦ no (λ g. a (kids_first g.1 (omega arith)).0)
      | yes a ↦ elim (dec_le (8 * size_of t) (length t)) [
        | no b ↦ no (λ g. b (kids_first g.1 (omega arith)).1)
        | yes b ↦ elim (fits_dec_in f (after t) (omega (arith, length-drop (8 * size_of t) t))) [
          | no d ↦ no (λ g. d (kids_first g.1 (omega arith)).2)
          | yes d ↦ yes (_, kid a b d.1)
        ]
      ]
    ]

pub fits_dec : (t : List ℕ) → Dec (Fits t)
fits_dec t = fits_dec_in (suc (length t)) t (omega arith)

-- ---- the node p nodes into a part

pub node_field : (t : List ℕ) (p at w : ℕ) → field_of t (64 * p + at) w ≡ field_of (drop (8 * p) t) at w
node_field t p at w = sym (field_record t 8 p at w)

pub kind_at : (t : List ℕ) (p : ℕ) → field_of t (64 * p) 5 ≡ kind_of (drop (8 * p) t)
kind_at t p = ap (λ (x : ℕ). field_of t x 5) (sym (add-zero (64 * p))) ∙ node_field t p 0 5

pub size_at_lem : (t : List ℕ) (p : ℕ) → field_of t (64 * p + 8) 16 ≡ size_of (drop (8 * p) t)
size_at_lem t p = node_field t p 8 16

-- one node on
pub next : (t : List ℕ) (p s : ℕ) → s ≡ size_of (drop (8 * p) t) → after (drop (8 * p) t) ≡ drop (8 * (p + s)) t
next t p s e =
    let q : 8 * p + 8 * size_of (drop (8 * p) t) ≡ 8 * (p + s) = omega arith in
    drop-drop (8 * size_of (drop (8 * p) t)) (8 * p) t ∙ ap (λ (x : ℕ). drop x t) q

module _ (t : List ℕ) (p s : ℕ) (e : s ≡ size_of (drop (8 * p) t)) (inside : 8 * p < length t) where
  rest : length (drop (8 * p) t) ≡ length t - 8 * p
  rest = length-drop (8 * p) t

  pub fits_on : Fits (drop (8 * p) t) → Fits (drop (8 * (p + s)) t)
  fits_on f = subst Fits (next t p s e) (kids_first f.1 (omega (arith, rest))).2

  pub fits_back : 0 < s → 8 * (p + s) ≤ length t → Fits (drop (8 * (p + s)) t) → Fits (drop (8 * p) t)
  fits_back z l f = (_, kid {t = drop (8 * p) t} (omega arith) (omega (arith, rest)) (subst (λ (u : List ℕ). Kids u f.0) (sym (next t p s e)) f.1))

  pub fits_size : Fits (drop (8 * p) t) → (0 < s) × (8 * (p + s) ≤ length t)
  fits_size f = let k = kids_first f.1 (omega (arith, rest)) in omega (arith, rest)
