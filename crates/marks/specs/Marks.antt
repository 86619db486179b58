-- Marks: the cells of a list that hold a mark are those of the numbers met so far, no two of which are alike.
-- One account for the names of a list (number 6), the scope numbers (10) and the parameters' names (11).
use Rattle.std.specs.Prelude.{ℕ, zero, suc, ◌<◌, ◌≡◌, refl, List, [], ◌∷◌, ◌++◌, length, get_or, set, replicate}
use Rattle.std.proofs.Common.{sym, subst, inl, ⊎_elim, get_or-set_same, get_or-set_other}
use Rattle.std.proofs.Math.Decide.{ℕ_discrete}
use Rattle.lexical.specs.Places.{In, Distinct, in_snoc, distinct_snoc, in_left, in_right, disjoint}

pub record Marked (M : ℕ → Type 0) (seen xs : List ℕ) : Type 0 where
  pub into : (v : ℕ) → In v xs → M (get_or seen v 0)
  pub back : (v : ℕ) → M (get_or seen v 0) → In v xs
  pub apart : Distinct xs

-- a cell that is not 0
abbrev pub Set : ℕ → Type 0
Set x = x ≡ 0 → ⊥

module _ {M : ℕ → Type 0} where
  pub marked_none : (seen : List ℕ) → ((v : ℕ) → M (get_or seen v 0) → ⊥) → Marked M seen []
  marked_none seen n = record { into = λ v h. absurd h; back = n; apart = tt }

  module _ {seen xs : List ℕ} (m : Marked M seen xs) (v : ℕ) where
    -- a number met for the first time
    pub marked_more : (w : ℕ) → v < length seen → M w → (M (get_or seen v 0) → ⊥) → Marked M (set seen v w) (xs ++ (v ∷ []))
    marked_more w l h n = record {
      into = λ u i. ⊎_elim (old u) (λ e. new u e) (in_snoc u v xs i);
      back = λ u i. elim (ℕ_discrete u v) [
        | yes e ↦ in_right u xs (v ∷ []) (inl e)
        | no e ↦ in_left u xs (v ∷ []) (m.back u (subst M (get_or-set_other seen v u w 0 e) i))
      ];
      apart = distinct_snoc v xs m.apart (λ i. n (m.into v i));
    }
      where
        new : (u : ℕ) → u ≡ v → M (get_or (set seen v w) u 0)
        new u e = subst (λ x. M (get_or (set seen v w) x 0)) (sym e) (subst M (sym (get_or-set_same seen v w 0 l)) h)

        old : (u : ℕ) → In u xs → M (get_or (set seen v w) u 0)
        old u i = elim (ℕ_discrete u v) [ yes e ↦ new u e | no e ↦ subst M (sym (get_or-set_other seen v u w 0 e)) (m.into u i) ]

    -- a number met again
    pub marked_again : M (get_or seen v 0) → (ys : List ℕ) → Distinct (xs ++ (v ∷ ys)) → ⊥
    marked_again h ys d = disjoint v xs (v ∷ ys) d (m.back v h) (inl refl)

-- no cell of a list of zeros holds a mark
pub zeros : (n v : ℕ) → ◌≡◌ {A = ℕ} (get_or (replicate n 0) v 0) 0
zeros zero v = refl
zeros (suc n) zero = refl
zeros (suc n) (suc v) = zeros n v
