-- All nodes of a part in order: forests that stand one after the other. The first node's children and its later siblings take its place.
use Prim.Native.Nat.{ℕ, ◌+◌, ◌-◌, ◌*◌, ◌≤◌}
use mathlib.Core.Path.{◌≡◌, refl, sym, ◌∙◌, subst}
use mathlib.Core.List.{List, [], ◌∷◌, ◌++◌}
use native.Mathlib.Omega.{arith}
use lib.ListN.{length, take, drop, length-take, length-drop}
use lib.Seq.{take-take, drop-drop, drop-length, take-length}
use Rattle.base.specs.Parts.{drop-take}
use Rattle.lexical.specs.Tree.{Forest, nil, node, Way, is_fn, when, listed, scopes_in, params_in}
use Rattle.lexical.specs.Binders.{Names}
use Rattle.lexical.specs.State.{Row, St}
use Rattle.lexical.specs.Second.{declare}
use Rattle.nodefile.specs.Node.{size_of, kind_of, value_of, below}
use Rattle.nodefile.specs.Reads.{Reads, count_of}
use Rattle.nodefile.proofs.Laws.Reads.{reads_none, reads_length, reads_size}
use Rattle.nodefile.specs.Valid.{Valid}
use Rattle.nodefile.proofs.Laws.Parts.{kind_take, size_take, value_take}

-- the part t, whose first node has the number n, holds these forests, one after the other
abbrev pub Stand : List ℕ → ℕ → List Forest → Type 0
Stand t n [] = t ≡ []
Stand t n (f ∷ fs) = Reads (take (8 * count_of f) t) n f × Stand (drop (8 * count_of f) t) (n + count_of f) fs

-- walk two over them, their functions' parameters and scope numbers, and what judging leaves of them
abbrev pub declare_all : Names → List Forest → List Row × St → List Row × St
declare_all N [] x = x
declare_all N (f ∷ fs) x = declare_all N fs (declare N f x)

abbrev pub params_all : List Forest → List (ℕ × ℕ)
params_all [] = []
params_all (f ∷ fs) = params_in f ++ params_all fs

abbrev pub scopes_all : List Forest → List ℕ
scopes_all [] = []
scopes_all (f ∷ fs) = scopes_in f ++ scopes_all fs

-- a node's own scope number, if it is a function
abbrev pub own_scope : Way → ℕ → List ℕ
own_scope w v = when (is_fn w) v

abbrev pub ValidAll : List Forest → Type 0
ValidAll [] = Unit {0}
ValidAll (f ∷ fs) = Valid f × ValidAll fs

-- ---- one forest

pub stand_one : (t : List ℕ) (n : ℕ) (f : Forest) → Reads t n f → Stand t n (f ∷ [])
stand_one t n f r =
    let e : 8 * count_of f ≡ length t = sym (reads_length f t n r) in
    rw (e, take-length t, drop-length t) (r, refl)

-- ---- none left

pub stand_end : (N : Names) (fs : List Forest) (t : List ℕ) (n : ℕ) (x : List Row × St) → length t ≡ 0 → Stand t n fs → (declare_all N fs x ≡ x) × (params_all fs ≡ [])
unfolding declare params_in listed
stand_end N [] t n x h s = (refl, refl)
stand_end N (f ∷ fs) t n x h s =
    let e : f ≡ nil = reads_none f (take (8 * count_of f) t) n (omega (arith, length-take (8 * count_of f) t)) s.0 in
    let q = stand_end N fs (drop (8 * count_of f) t) (n + count_of f) x (omega (arith, length-drop (8 * count_of f) t)) s.1 in
    rw e q

-- ---- the first node

module _ (t : List ℕ) (n a k v : ℕ) (kids rest : Forest) (r : Reads (take (8 * count_of (node a k v kids rest)) t) n (node a k v kids rest)) where
  first_long : 8 ≤ 8 * count_of (node a k v kids rest)
  first_long = omega arith

  pub first_size : size_of t ≡ 1 + count_of kids
  first_size = sym (size_take t (8 * count_of (node a k v kids rest)) first_long) ∙ reads_size a k v kids rest _ n r

  pub first_kind : kind_of t ≡ k
  first_kind = sym (kind_take t (8 * count_of (node a k v kids rest)) first_long) ∙ sym r.kind

  pub first_value : value_of t ≡ v
  first_value = sym (value_take t (8 * count_of (node a k v kids rest)) first_long) ∙ sym r.value

  pub first_inside : 8 * size_of t ≤ length t
  first_inside = omega (arith, first_size, reads_length (node a k v kids rest) _ n r, length-take (8 * count_of (node a k v kids rest)) t)

  -- below and after it
  kids_at : Reads (take (8 * count_of kids) (drop 8 t)) (n + 1) kids
  kids_at =
      let z : 8 * (1 + count_of kids) - 8 ≡ 8 * count_of kids = omega arith in
      let y : 8 * (1 + (count_of kids + count_of rest)) - 8 ≡ 8 * (count_of kids + count_of rest) = omega arith in
      let e : below (take (8 * count_of (node a k v kids rest)) t) ≡ take (8 * count_of kids) (drop 8 t) =
      rw (reads_size a k v kids rest _ n r, z, drop-take 8 (8 * (1 + (count_of kids + count_of rest))) t, y)
      (take-take (8 * count_of kids) (8 * (count_of kids + count_of rest)) (drop 8 t) (omega arith)) in
      subst (λ (l : List ℕ). Reads l (n + 1) kids) e r.under

  pub first_under : Reads (below t) (n + 1) kids
  first_under =
      let z : 8 * size_of t - 8 ≡ 8 * count_of kids = omega (arith, first_size) in
      rw z kids_at

  rest_at : Reads (take (8 * count_of rest) (drop (8 * count_of kids) (drop 8 t))) (n + 1 + count_of kids) rest
  rest_at =
      let z : 8 * (1 + (count_of kids + count_of rest)) - 8 * (1 + count_of kids) ≡ 8 * count_of rest = omega arith in
      let y : 8 * (1 + count_of kids) ≡ 8 + 8 * count_of kids = omega arith in
      let x : n + (1 + count_of kids) ≡ n + 1 + count_of kids = omega arith in
      let e : drop (8 * (1 + count_of kids)) (take (8 * count_of (node a k v kids rest)) t) ≡ take (8 * count_of rest) (drop (8 * count_of kids) (drop 8 t)) =
      drop-take (8 * (1 + count_of kids)) (8 * (1 + (count_of kids + count_of rest))) t ∙ (rw (z, y, drop-drop (8 * count_of kids) 8 t) refl) in
      let q = rw (reads_size a k v kids rest (take (8 * count_of (node a k v kids rest)) t) n r) at r.after in
      subst (λ (l : List ℕ). Reads l (n + 1 + count_of kids) rest) e (rw (← x) q)

  pub stand_more : (fs : List Forest) → Stand (drop (8 * count_of (node a k v kids rest)) t) (n + count_of (node a k v kids rest)) fs → Stand (drop 8 t) (n + 1) (kids ∷ rest ∷ fs)
  stand_more fs s =
      let y : 8 * (1 + (count_of kids + count_of rest)) ≡ 8 + (8 * count_of kids + 8 * count_of rest) = omega arith in
      let x : n + (1 + (count_of kids + count_of rest)) ≡ n + 1 + count_of kids + count_of rest = omega arith in
      let e : drop (8 * (1 + (count_of kids + count_of rest))) t ≡ drop (8 * count_of rest) (drop (8 * count_of kids) (drop 8 t)) =
      rw (drop-drop (8 * count_of rest) (8 * count_of kids) (drop 8 t), drop-drop (8 * count_of kids + 8 * count_of rest) 8 t, y) refl in
      (kids_at, (rest_at, subst (λ (l : List ℕ). Stand l (n + 1 + count_of kids + count_of rest) fs) e (subst (λ (j : ℕ). Stand (drop (8 * (1 + (count_of kids + count_of rest))) t) j fs) x s)))
