-- A node list whose root is the whole list and whose every node's stretch falls into nodes holds a tree, and no second one (`reads_one`).
-- Each node is asked for itself alone: that is what judging by stretches finds out.
use Rattle.std.specs.Prelude.{ℕ, zero, suc, ◌+◌, ◌-◌, ◌*◌, ◌≤◌, ◌<◌, ◌≡◌, refl, List, [], length, drop}
use Rattle.std.proofs.Common.{sym, subst, arith, drop_of_length-le, take-take, drop-drop, take_all}
use Rattle.std.proofs.Math.Decide.{dec_lt}
use Rattle.base.specs.Parts.{drop-take, part_length}
use Rattle.bits.proofs.FieldLaws.{field-take}
use Rattle.lexical.specs.Tree.{Forest, nil, node}
use Rattle.nodefile.specs.Node.{kind_of, value_of, size_of, below}
use Rattle.nodefile.specs.Kids.{Kids, no_kids, kid, Fits, kids_first}
use Rattle.nodefile.specs.Reads.{Reads}
use Rattle.nodefile.specs.Trees.{Local, Whole, stretch}

module _ (ns : List ℕ) where
  pub stretch-length : (a m : ℕ) → 8 * (a + m) ≤ length ns → length (stretch ns a m) ≡ 8 * m
  stretch-length a m h = part_length ns (8 * a) (8 * m) (omega arith)

  pub stretch_size : (a m : ℕ) → 0 < m → size_of (stretch ns a m) ≡ size_of (drop (8 * a) ns)
  stretch_size a m h = field-take (drop (8 * a) ns) (8 * m) 8 16 (omega arith)

  pub stretch-after : (a m s : ℕ) → drop (8 * s) (stretch ns a m) ≡ stretch ns (a + s) (m - s)
  stretch-after a m s =
      let e : 8 * m - 8 * s ≡ 8 * (m - s) = omega arith in
      let d : 8 * a + 8 * s ≡ 8 * (a + s) = omega arith in
      rw (drop-take (8 * s) (8 * m) (drop (8 * a) ns), drop-drop (8 * s) (8 * a) ns, e, d)

  -- what stands below the first node of a stretch, and below node a of the list
  pub stretch-below : (a m : ℕ) → 0 < size_of (stretch ns a m) → size_of (stretch ns a m) ≤ m → below (stretch ns a m) ≡ stretch ns (a + 1) (size_of (stretch ns a m) - 1)
  stretch-below a m z h =
      let s = size_of (stretch ns a m) in
      let e : 8 * s - 8 ≡ 8 * (s - 1) = omega arith in
      rw (e, stretch-after a m 1) (take-take (8 * (s - 1)) (8 * (m - 1)) (drop (8 * (a + 1)) ns) (omega arith))

  pub below_at : (a : ℕ) → below (drop (8 * a) ns) ≡ stretch ns (a + 1) (size_of (drop (8 * a) ns) - 1)
  below_at a =
      let s = size_of (drop (8 * a) ns) in
      let e : 8 * s - 8 ≡ 8 * (s - 1) = omega arith in
      let d : 8 * a + 8 ≡ 8 * (a + 1) = omega arith in
      rw (e, drop-drop 8 (8 * a) ns, d)

  -- the tree of a stretch, from those below and after its first node
  glue : (a m : ℕ) → 0 < size_of (stretch ns a m) → 8 * size_of (stretch ns a m) ≤ length (stretch ns a m) → size_of (stretch ns a m) ≤ m
      → (g : Forest) × Reads (stretch ns (a + 1) (size_of (stretch ns a m) - 1)) (a + 1) g
      → (g : Forest) × Reads (stretch ns (a + size_of (stretch ns a m)) (m - size_of (stretch ns a m))) (a + size_of (stretch ns a m)) g
      → (g : Forest) × Reads (stretch ns a m) a g
  glue a m z l h ks rs =
      let t = stretch ns a m in (
        node a (kind_of t) (value_of t) ks.0 rs.0,
        record {
          number = refl;
          kind = refl;
          value = refl;
          some = z;
          inside = l;
          under = subst (λ (u : List ℕ). Reads u (a + 1) ks.0) (sym (stretch-below a m z h)) ks.1;
          after = subst (λ (u : List ℕ). Reads u (a + size_of t) rs.0) (sym (stretch-after a m (size_of t))) rs.1;
        },
      )

  -- by a number f above the number of nodes
  forest_in : Local ns → (f a m : ℕ) → m < f → 8 * (a + m) ≤ length ns → Fits (stretch ns a m) → (g : Forest) × Reads (stretch ns a m) a g
  forest_in local zero a m h l k = let z : ⊥ = omega arith in absurd z
  forest_in local (suc f) a zero h l k = (nil, refl)
  forest_in local (suc f) a (suc m) h l k =
      let s = size_of (stretch ns a (suc m)) in
      let first = kids_first k.1 (omega (arith, stretch-length a (suc m) l)) in
      let n : s ≤ suc m = omega (arith, stretch-length a (suc m) l, first) in
      let under : Fits (stretch ns (a + 1) (s - 1)) =
      subst (λ (x : ℕ). Fits (stretch ns (a + 1) (x - 1))) (sym (stretch_size a (suc m) (omega arith))) (subst Fits (below_at a) (local a (omega arith))) in
      glue a (suc m) first.0 first.1 n
      (forest_in local f (a + 1) (s - 1) (omega arith) (omega arith) under)
      (forest_in local f (a + s) (suc m - s) (omega (arith, first.0)) (omega arith) (subst Fits (stretch-after a (suc m) s) first.2))

  -- the root alone is the whole list
  root_fits : 8 * size_of ns ≡ length ns → Fits ns
  root_fits e =
      elim (dec_lt 0 (length ns)) [
        | yes h ↦ (_, kid {t = ns} (omega arith) (omega arith) (subst (λ (t : List ℕ). Kids t []) (sym (drop_of_length-le ns {i = 8 * size_of ns} (omega arith))) no_kids))
        | no h ↦ subst Fits (sym (drop_of_length-le ns {i = 0} (omega arith))) ([], no_kids)
      ]

  pub tree : Whole ns → (f : Forest) × Reads ns 0 f
  tree w =
      let e : stretch ns 0 (size_of ns) ≡ ns = take_all (8 * size_of ns) ns (omega (arith, w.root)) in
      let r = forest_in w.local (suc (size_of ns)) 0 (size_of ns) (omega arith) (omega (arith, w.root)) (subst Fits (sym e) (root_fits w.root)) in
      (r.0, subst (λ (t : List ℕ). Reads t 0 r.0) e r.1)
