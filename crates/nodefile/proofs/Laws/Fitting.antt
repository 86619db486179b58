-- A part that falls into nodes, one node further; and the parts that a reader takes out of it.
use Rattle.std.specs.Prelude.{ℕ, ◌-◌, ◌*◌, ◌≤◌, ◌<◌, ◌≡◌, List, [], ◌∷◌, length, take, drop}
use Rattle.std.proofs.Common.{sym, ap, ◌∙◌, subst, arith}
use Rattle.base.specs.Parts.{part-from}
use Rattle.nodefile.specs.Node.{size_of, below}
use Rattle.nodefile.specs.Kids.{no_kids, kid, Fits, kids_first}

pub fits_none : (t : List ℕ) → length t ≡ 0 → Fits t
fits_none [] h = ([], no_kids)
fits_none (x ∷ t) h = absurd (omega arith)

pub fits_first : {t : List ℕ} → Fits t → 0 < length t → (0 < size_of t) × (8 * size_of t ≤ length t) × Fits (drop (8 * size_of t) t)
fits_first f h = kids_first f.1 h

-- what a reader goes on with, `&t[8 * s..]`
pub rest_is : {s : ℕ} (t : List ℕ) → s ≡ size_of t → take (length t - 8 * s) (drop (8 * s) t) ≡ drop (8 * size_of t) t
rest_is {s} t e = part-from t (8 * s) ∙ ap (λ (x : ℕ). drop (8 * x) t) e

pub fits_on : {s : ℕ} (t : List ℕ) → s ≡ size_of t → 0 < length t → Fits t → Fits (take (length t - 8 * s) (drop (8 * s) t))
fits_on t e h f = subst Fits (sym (rest_is t e)) (fits_first f h).2

pub fits_cons : {t : List ℕ} → 0 < size_of t → 8 * size_of t ≤ length t → Fits (drop (8 * size_of t) t) → Fits t
fits_cons a b f = (_, kid a b f.1)

pub fits_back : {s : ℕ} (t : List ℕ) → s ≡ size_of t → 0 < s → 8 * s ≤ length t → Fits (take (length t - 8 * s) (drop (8 * s) t)) → Fits t
fits_back t e a b f = fits_cons (omega arith) (omega arith) (subst Fits (rest_is t e) f)

-- the part that a reader takes out for the children, `&t[8..8 * s]`
pub below-is : {s : ℕ} (t : List ℕ) → s ≡ size_of t → take (8 * s - 8) (drop 8 t) ≡ below t
below-is t e = ap (λ (x : ℕ). take (8 * x - 8) (drop 8 t)) e
