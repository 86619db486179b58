-- "A node running past its parent's end" (document 01, number 7), said without children: no node that stands inside another ends after it.
-- For a list whose nodes have a size and end inside the list this is the same as what each node's own stretch says (`nested`, `unnested`).
-- A list that holds a tree is such a list (`reads_sized`, `reads_local`).
use Rattle.std.specs.Prelude.{ℕ, zero, suc, ◌+◌, ◌-◌, ◌*◌, ◌≤◌, ◌<◌, ◌≡◌, List, [], length, drop}
use Rattle.std.proofs.Common.{sym, subst, arith, length-drop}
use Rattle.std.proofs.Math.Decide.{dec_lt}
use Rattle.base.specs.UpTo.{at_some}
use Rattle.lexical.specs.Tree.{Forest}
use Rattle.nodefile.specs.Node.{size_of, below}
use Rattle.nodefile.specs.Kids.{Kids, no_kids, kid, Fits, kids_first}
use Rattle.nodefile.specs.Reads.{Reads}
use Rattle.nodefile.proofs.Laws.Reads.{reads_fits, reads_length}
use Rattle.nodefile.specs.Order.{spots_in}
use Rattle.nodefile.proofs.Laws.Order.{spots_count, spot_at}
use Rattle.nodefile.specs.Trees.{Local, stretch}
use Rattle.nodefile.proofs.Laws.Trees.{stretch_size, stretch-after, stretch-length, below_at}
use Rattle.nodefile.specs.Nested.{end_of, Nested, Sized}

module _ (ns : List ℕ) where
  -- what stands in a stretch that falls into nodes ends in it
  inside_in : Local ns → (f a m j : ℕ) → m < f → 8 * (a + m) ≤ length ns → Fits (stretch ns a m) → a ≤ j → j < a + m → end_of ns j ≤ a + m
  inside_in local zero a m j h l k p q = omega arith
  inside_in local (suc f) a zero j h l k p q = omega arith
  inside_in local (suc f) a (suc m) j h l k p q =
      let s = size_of (drop (8 * a) ns) in
      let e : size_of (stretch ns a (suc m)) ≡ s = stretch_size ns a (suc m) (omega arith) in
      let first = kids_first k.1 (omega (arith, stretch-length ns a (suc m) l)) in
      let n : s ≤ suc m = omega (arith, stretch-length ns a (suc m) l, first) in
      let under : Fits (stretch ns (a + 1) (s - 1)) = subst Fits (below_at ns a) (local a (omega arith)) in
      let rest : Fits (stretch ns (a + s) (suc m - s)) = subst (λ (x : ℕ). Fits (stretch ns (a + x) (suc m - x))) e (subst Fits (stretch-after ns a (suc m) (size_of (stretch ns a (suc m)))) first.2) in
      elim (dec_lt j (a + s)) [
        | yes b ↦ elim (dec_lt a j) [
          | yes d ↦ omega (arith, inside_in local f (a + 1) (s - 1) j (omega arith) (omega arith) under (omega arith) (omega arith))
          | no d ↦ let x : j ≡ a = omega arith in subst (λ (y : ℕ). end_of ns y ≤ a + suc m) (sym x) (omega arith)
        ]
        | no b ↦ omega (arith, inside_in local f (a + s) (suc m - s) j (omega (arith, first.0)) (omega arith) rest (omega arith) (omega arith))
      ]

  pub nested : Sized ns → Local ns → Nested ns
  nested sized local i j h p q =
      let s = sized i h in
      let under = subst Fits (below_at ns i) (local i h) in
      omega (arith, inside_in local (size_of (drop (8 * i) ns) + 1) (i + 1) (size_of (drop (8 * i) ns) - 1) j (omega arith) (omega arith) under (omega arith) (omega arith))

  -- and back: a stretch whose nodes all end in it falls into nodes
  fits_in : Sized ns → (f a m : ℕ) → m < f → 8 * (a + m) ≤ length ns → ((j : ℕ) → a ≤ j → j < a + m → end_of ns j ≤ a + m) → Fits (stretch ns a m)
  fits_in sized zero a m h l k = let z : ⊥ = omega arith in absurd z
  fits_in sized (suc f) a zero h l k = ([], no_kids)
  fits_in sized (suc f) a (suc m) h l k =
      let s = size_of (stretch ns a (suc m)) in
      let e : s ≡ size_of (drop (8 * a) ns) = stretch_size ns a (suc m) (omega arith) in
      let z = sized a (omega arith) in
      let n = k a (omega arith) (omega arith) in
      let r = fits_in sized f (a + s) (suc m - s) (omega arith) (omega arith) (λ j p q. omega (arith, k j (omega arith) (omega arith))) in
      (_, kid {t = stretch ns a (suc m)} (omega arith) (omega (arith, stretch-length ns a (suc m) l)) (subst (λ (t : List ℕ). Kids t r.0) (sym (stretch-after ns a (suc m) s)) r.1))

  pub unnested : Sized ns → Nested ns → Local ns
  unnested sized nest i h =
      let z = sized i h in
      subst Fits (sym (below_at ns i))
      (fits_in sized (size_of (drop (8 * i) ns) + 1) (i + 1) (size_of (drop (8 * i) ns) - 1) (omega arith) (omega arith) (λ j p q. omega (arith, nest i j h (omega arith) (omega arith))))

-- ---- a list that holds a tree is one of these

pub reads_local : (f : Forest) (t : List ℕ) (at : ℕ) → Reads t at f → Local t
reads_local f t at r i h =
    let s = at_some (spots_in f) i (omega (arith, reads_length f t at r, spots_count f)) in
    reads_fits s.0.kids (below (drop (8 * i) t)) (at + i + 1) (spot_at f t at i s.0 r s.1).under

pub reads_sized : (f : Forest) (t : List ℕ) (at : ℕ) → Reads t at f → Sized t
reads_sized f t at r i h =
    let s = at_some (spots_in f) i (omega (arith, reads_length f t at r, spots_count f)) in
    let q = spot_at f t at i s.0 r s.1 in
    (q.some, omega (arith, q.inside, length-drop (8 * i) t))
