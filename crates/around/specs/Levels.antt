-- The steps of the walk over all nodes: no siblings, no levels, and one sibling more; and what is noted of one part after another.
use Rattle.std.specs.Prelude.{ℕ, zero, suc, ◌+◌, ◌<◌, ◌≤◌, ◌≡◌, refl, cond, List, [], ◌∷◌, ◌++◌, eqb, length, set}
use Rattle.std.proofs.Common.{◌∙◌, length-set, le-leb}
use Rattle.std.proofs.lemmas.Bool.{lt-leb}
use Rattle.lexical.specs.Tree.{when}
use Rattle.nodefile.specs.Listed.{kind_at, value_at, is_scope}
use Rattle.around.specs.Descent.{end_at}
use Rattle.around.specs.Outer.{outer_in, stored}

pub outer-none : (f d : ℕ) (ns : List ℕ) (p e scope inner : ℕ) → e ≤ p → outer_in f d ns p e scope inner ≡ []
unfolding outer_in
outer-none zero d ns p e scope inner h = refl
outer-none (suc f) zero ns p e scope inner h = refl
outer-none (suc f) (suc d) ns p e scope inner h = rw (le-leb e p h)

pub outer_flat : (f : ℕ) (ns : List ℕ) (p e scope inner : ℕ) → outer_in f 0 ns p e scope inner ≡ []
unfolding outer_in
outer_flat zero ns p e scope inner = refl
outer_flat (suc f) ns p e scope inner = refl

-- the scope that node p stands in, and the one that the last of its children stands in
abbrev pub here_at : List ℕ → ℕ → ℕ → ℕ → ℕ → ℕ
here_at ns p e scope inner = cond (eqb (end_at ns p e) e) inner scope

abbrev pub last_at : List ℕ → ℕ → ℕ → ℕ
last_at ns p here = cond (is_scope (kind_at ns p)) (value_at ns p) here

pub outer_more : (f d : ℕ) (ns : List ℕ) (p e scope inner : ℕ) → p < e
    → outer_in (suc f) (suc d) ns p e scope inner
    ≡ when (is_scope (kind_at ns p)) (value_at ns p, here_at ns p e scope inner)
    ++ (outer_in f d ns (p + 1) (end_at ns p e) (here_at ns p e scope inner) (last_at ns p (here_at ns p e scope inner)) ++ outer_in f (suc d) ns (end_at ns p e) e scope inner)
unfolding outer_in
outer_more f d ns p e scope inner h = rw (lt-leb e p h)

pub stored_append : (xs ys : List (ℕ × ℕ)) (l : List ℕ) → stored (xs ++ ys) l ≡ stored ys (stored xs l)
unfolding stored
stored_append [] ys l = refl
stored_append (x ∷ xs) ys l = stored_append xs ys (set l x.0 x.1)

pub stored-length : (xs : List (ℕ × ℕ)) (l : List ℕ) → length (stored xs l) ≡ length l
unfolding stored
stored-length [] l = refl
stored-length (x ∷ xs) l = stored-length xs (set l x.0 x.1) ∙ length-set l x.0 x.1
