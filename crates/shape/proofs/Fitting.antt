-- Number 7: from what each node's own test says to what the document says of the list, and back.
use Prim.Native.Nat.{ℕ, zero, suc, ◌+◌, ◌-◌, ◌*◌, ◌≤◌, ◌<◌}
use mathlib.Core.Path.{◌≡◌, sym, ap, ◌∙◌, subst}
use mathlib.Core.Logic.{◌⊎◌, inl, inr}
use mathlib.Core.List.{List, []}
use native.Mathlib.Omega.{arith}
use native.Mathlib.Decide.{dec_le, ℕ_discrete}
use lib.ListN.{length, drop, length-drop}
use Rattle.base.specs.Says.{unless}
use Rattle.nodefile.specs.Node.{size_of, below}
use Rattle.nodefile.specs.Kids.{no_kids, Fits, fits_dec}
use Rattle.nodefile.proofs.Laws.Fitting.{fits_cons}
use Rattle.nodefile.specs.Trees.{stretch}
use Rattle.nodefile.proofs.Laws.Trees.{stretch_size, stretch-after, stretch-length, below_at}
use Rattle.nodefile.specs.Nested.{end_of, Sized}
use Rattle.nodefile.proofs.Laws.Nested.{nested}
use Rattle.shape.specs.Nodes.{at, BadNodes, high_kind, zero_bits_set, no_size, past_parent, root_size, no_such_name, stray_value}
use Rattle.shape.specs.Inside.Node.{no_name, no_value, BadNode, kind, zero_bits, value, size, past_list, misfit}

-- ---- a part that does not fall into nodes has one without a size, or one that runs past its end

module _ (ns : List ℕ) where
  record Odd (a m : ℕ) : Type 0 where
    pub node : ℕ
    pub from : a ≤ node
    pub to : node < a + m
    pub odd : (size_of (at ns node) ≡ 0) ⊎ (a + m < end_of ns node)

  odd_in : (f a m : ℕ) → m < f → 8 * (a + m) ≤ length ns → (Fits (stretch ns a m) → ⊥) → Odd a m
  odd_in zero a m h l n = absurd (omega arith)
  odd_in (suc f) a zero h l n = absurd (n ([], no_kids))
  odd_in (suc f) a (suc m) h l n =
      elim (ℕ_discrete (size_of (at ns a)) 0) [
        | yes z ↦ record { node = a; from = omega arith; to = omega arith; odd = inl z }
        | no z ↦ elim (dec_le (size_of (at ns a)) (suc m)) [
          | no b ↦ record { node = a; from = omega arith; to = omega arith; odd = inr (omega arith) }
          | yes b ↦ go z b (odd_in f (a + size_of (at ns a)) (suc m - size_of (at ns a)) (omega arith) (omega arith) (λ k. n (whole z b k)))
        ]
      ]
    where
      first : size_of (stretch ns a (suc m)) ≡ size_of (at ns a)
      first = stretch_size ns a (suc m) (omega arith)

      whole : (size_of (at ns a) ≡ 0 → ⊥) → size_of (at ns a) ≤ suc m → Fits (stretch ns (a + size_of (at ns a)) (suc m - size_of (at ns a))) → Fits (stretch ns a (suc m))
      whole z b k = fits_cons (omega (arith, first)) (omega (arith, first, stretch-length ns a (suc m) l))
          (subst Fits (sym (ap (λ (x : ℕ). drop (8 * x) (stretch ns a (suc m))) first ∙ stretch-after ns a (suc m) (size_of (at ns a)))) k)

      go : (size_of (at ns a) ≡ 0 → ⊥) → size_of (at ns a) ≤ suc m → Odd (a + size_of (at ns a)) (suc m - size_of (at ns a)) → Odd a (suc m)
      go z b o =
          let e : a + size_of (at ns a) + (suc m - size_of (at ns a)) ≡ a + suc m = omega arith in
          record { node = o.node; from = omega (arith, o.from); to = omega (arith, o.to); odd = subst (λ (x : ℕ). (size_of (at ns o.node) ≡ 0) ⊎ (x < end_of ns o.node)) e o.odd }

  module _ (names : ℕ) (root : 8 * size_of ns ≡ length ns) where
    -- a node that runs past the list runs past the root
    past_root : (i : ℕ) → 8 * i < length ns → length (at ns i) < 8 * size_of (at ns i) → BadNodes names ns
    past_root zero l h = absurd (omega arith)
    past_root (suc i) l h = past_parent 0 (suc i) l (omega arith) (omega arith) (omega (arith, length-drop (8 * suc i) ns))

    -- a node whose part does not fall into nodes, by the odd one in it
    odd_one : (i : ℕ) → 8 * size_of (at ns i) ≤ length (at ns i) → Odd (i + 1) (size_of (at ns i) - 1) → BadNodes names ns
    odd_one i b o = pick o.odd
      where
        inside : 8 * o.node < length ns
        inside = omega (arith, o.to, o.from, length-drop (8 * i) ns)

        pick : (size_of (at ns o.node) ≡ 0) ⊎ (i + 1 + (size_of (at ns i) - 1) < end_of ns o.node) → BadNodes names ns
        pick (inl z) = no_size o.node inside z
        pick (inr z) = past_parent i o.node inside (omega (arith, o.from)) (omega (arith, o.to, o.from)) (omega (arith, o.to, o.from))

    -- a node's own fault is one of the list
    pub node_fault : (i : ℕ) → 8 * i < length ns → BadNode names (at ns i) → BadNodes names ns
    node_fault i l (kind h) = high_kind i l h
    node_fault i l (zero_bits h) = zero_bits_set i l h
    node_fault i l (value (no_name e h)) = no_such_name i l e h
    node_fault i l (value (no_value e e' h)) = stray_value i l e e' h
    node_fault i l (size h) = no_size i l h
    node_fault i l (past_list h) = past_root i l h
    node_fault i l (misfit h) =
        elim (ℕ_discrete (size_of (at ns i)) 0) [
          | yes z ↦ no_size i l z
          | no z ↦ elim (dec_le (8 * size_of (at ns i)) (length (at ns i))) [
            | no b ↦ past_root i l (omega arith)
            | yes b ↦ odd_one i b (odd_in (size_of (at ns i)) (i + 1) (size_of (at ns i) - 1) (omega arith) (omega (arith, length-drop (8 * i) ns)) (λ k. h (subst Fits (sym (below_at ns i)) k)))
          ]
        ]

    -- and where no node has one, the list has none
    module _ (none : (i : ℕ) → 8 * i < length ns → BadNode names (at ns i) → ⊥) where
      sized : Sized ns
      sized i l = (unless 1 (size_of (at ns i)) (none i l) (λ h. size (omega arith)), omega (arith, length-drop (8 * i) ns, unless (8 * size_of (at ns i)) (length (at ns i)) (none i l) past_list))

      fitting : (i : ℕ) → 8 * i < length ns → Fits (below (at ns i))
      fitting i l = elim (fits_dec (below (at ns i))) [ yes f ↦ f | no g ↦ absurd (none i l (misfit g)) ]

      pub no_faults : BadNodes names ns → ⊥
      no_faults (high_kind i l h) = none i l (kind h)
      no_faults (zero_bits_set i l h) = none i l (zero_bits h)
      no_faults (no_size i l h) = none i l (size h)
      no_faults (past_parent i j l a b h) = omega (arith, nested ns sized fitting i j (omega arith) a b)
      no_faults (root_size h) = h root
      no_faults (no_such_name i l e h) = none i l (value (no_name e h))
      no_faults (stray_value i l e e' h) = none i l (value (no_value e e' h))
