-- A part that is followed by another holds the nodes of both.
use Prim.Native.Nat.{ℕ, ◌+◌, ◌-◌, ◌*◌, ◌≤◌, ◌<◌}
use mathlib.Core.Path.{◌≡◌, refl, sym, ap, ◌∙◌}
use mathlib.Core.List.{List, ◌++◌}
use native.Mathlib.Omega.{arith}
use lib.ListN.{length, drop, length-append}
use lib.Seq.{take-append_seam, drop-append-le}
use Rattle.lexical.specs.Tree.{Forest, nil, node, ◌⊕◌}
use Rattle.nodefile.specs.Node.{kind_of, size_of, value_of, below, after}
use Rattle.nodefile.specs.Reads.{Reads}
use Rattle.nodefile.proofs.Laws.Reads.{after-length}
use Rattle.nodefile.proofs.Laws.Parts.{kind_take, size_take, value_take, below-take}

pub joined_more : (f : Forest) (a k v : ℕ) (kids g : Forest) → f ⊕ node a k v kids g ≡ (f ⊕ node a k v kids nil) ⊕ g
unfolding ◌⊕◌
joined_more nil a k v kids g = refl
joined_more (node b j u more rest) a k v kids g = ap (node b j u more) (joined_more rest a k v kids g)

module _ (t u : List ℕ) (h : 8 ≤ length t) where
  kind_join : kind_of t ≡ kind_of (t ++ u)
  kind_join = ap kind_of (sym (take-append_seam t u)) ∙ kind_take (t ++ u) (length t) h

  size_join : size_of t ≡ size_of (t ++ u)
  size_join = ap size_of (sym (take-append_seam t u)) ∙ size_take (t ++ u) (length t) h

  value_join : value_of t ≡ value_of (t ++ u)
  value_join = ap value_of (sym (take-append_seam t u)) ∙ value_take (t ++ u) (length t) h

  below-join : 0 < size_of t → 8 * size_of t ≤ length t → below t ≡ below (t ++ u)
  below-join s l = ap below (sym (take-append_seam t u)) ∙ below-take (t ++ u) (length t) (omega (arith, size_join)) (omega (arith, size_join))

  after-join : 8 * size_of t ≤ length t → after t ++ u ≡ after (t ++ u)
  after-join l = sym (drop-append-le (8 * size_of t) t u l) ∙ ap (λ (n : ℕ). drop (8 * n) (t ++ u)) size_join

-- n: the nodes of t
pub reads_joined : (f g : Forest) (t u : List ℕ) (at n : ℕ) → length t ≡ 8 * n → Reads t at f → Reads u (at + n) g → Reads (t ++ u) at (f ⊕ g)
unfolding ◌⊕◌
reads_joined nil g t u at n l r s =
    let z : at + n ≡ at = omega (arith, ap length r) in
    rw r (rw z at s)
reads_joined (node a k v kids rest) g t u at n l r s =
    let h : 8 ≤ length t = omega (arith, r.some, r.inside) in
    let e = size_join t u h in
    let z : at + n ≡ at + size_of t + (n - size_of t) = omega (arith, r.inside) in
    let q = reads_joined rest g (after t) u (at + size_of t) (n - size_of t) (omega (arith, after-length t)) r.after (rw z at s) in
    record {
      number = r.number;
      kind = r.kind ∙ kind_join t u h;
      value = r.value ∙ value_join t u h;
      some = omega (arith, r.some);
      inside = omega (arith, r.inside, length-append t u);
      under = rw (← below-join t u h r.some r.inside) r.under;
      after = rw (← after-join t u h r.inside, ← e) q;
    }
