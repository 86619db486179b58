-- A table into which numbers are put at their places, each place at most once.
--     stored_other   a place at which nothing was put
--     stored_at      one at which something was put
use Rattle.std.specs.Prelude.{ℕ, zero, suc, ◌<◌, ◌≡◌, refl, List, [], ◌∷◌, map, length, get_or, set}
use Rattle.std.proofs.Common.{ap, ◌∙◌, inl, inr, length-set, get_or-set_same, get_or-set_other}
use Rattle.std.proofs.Math.Option.{some}
use Rattle.std.proofs.Math.ListN.{get_elem?}
use Rattle.lexical.specs.Lists.{none-some}
use Rattle.lexical.specs.Places.{In, Distinct}
use Rattle.around.specs.Outer.{stored}

-- the places
abbrev pub places : List (ℕ × ℕ) → List ℕ
places xs = map (λ (x : ℕ × ℕ). x.0) xs

pub stored_other : (xs : List (ℕ × ℕ)) (l : List ℕ) (s : ℕ) → (In s (places xs) → ⊥) → get_or (stored xs l) s 0 ≡ get_or l s 0
unfolding stored
stored_other [] l s n = refl
stored_other (x ∷ xs) l s n = stored_other xs (set l x.0 x.1) s (λ m. n (inr m)) ∙ get_or-set_other l x.0 s x.1 0 (λ e. n (inl e))

pub stored_at : (xs : List (ℕ × ℕ)) (l : List ℕ) (j s o : ℕ) → get_elem? xs j ≡ some (s, o) → Distinct (places xs) → s < length l → get_or (stored xs l) s 0 ≡ o
unfolding stored
stored_at [] l j s o e d h = absurd (none-some refl e)
stored_at (x ∷ xs) l zero s o e d h =
    let p : x ≡ (s, o) = cc in
    let a : x.0 ≡ s = ap (λ (y : ℕ × ℕ). y.0) p in
    let b : x.1 ≡ o = ap (λ (y : ℕ × ℕ). y.1) p in
    stored_other xs (set l x.0 x.1) s (λ m. d.0 (rw a m)) ∙ rw (a, b) (get_or-set_same l s o 0 h)
stored_at (x ∷ xs) l (suc j) s o e d h = stored_at xs (set l x.0 x.1) j s o e d.1 (rw length-set h)
