-- The nodes of a tree in node order, against the bytes that hold it.
--     Spot, spots_in         each node with what stands below it, parent first
--     Stands, spot_at        node i of the tree is node i of the bytes: its number, kind, value, and the stretch that holds what is below it
use Rattle.std.specs.Prelude.{ℕ, zero, suc, ◌+◌, ◌-◌, ◌*◌, ◌≤◌, ◌≡◌, refl, List, length, take, drop}
use Rattle.std.proofs.Common.{sym, ap, ◌∙◌, subst, arith, length-append, length-take, take-take, drop-drop}
use Rattle.std.proofs.Math.Option.{some}
use Rattle.std.proofs.Math.Decide.{dec_lt}
use Rattle.std.proofs.Math.ListN.{get_elem?}
use Rattle.base.specs.Parts.{drop-take}
use Rattle.base.specs.UpTo.{at_right}
use Rattle.lexical.specs.Places.{at_left}
use Rattle.bits.proofs.FieldLaws.{field-take}
use Rattle.lexical.specs.Tree.{Forest, nil, node}
use Rattle.nodefile.specs.Node.{size_of, below, after}
use Rattle.nodefile.specs.Reads.{Reads, count_of}
use Rattle.nodefile.proofs.Laws.Reads.{reads_size}
use Rattle.nodefile.specs.Order.{Spot, spots_in, First, Stands}

pub spots_count : (f : Forest) → length (spots_in f) ≡ count_of f
unfolding spots_in
spots_count nil = refl
spots_count (node a k v ks rs) = omega (arith, length-append (spots_in ks) (spots_in rs), spots_count ks, spots_count rs)

-- a node of a part is one of the longer part
first_longer : (m : ℕ) (t : List ℕ) (n : ℕ) (s : Spot) → First (take m t) n s → First t n s
first_longer m t n s p =
    let u = take m t in
    let l : length u ≤ m = omega (arith, length-take m t) in
    let g : length u ≤ length t = omega (arith, length-take m t) in
    let e : size_of u ≡ size_of t = field-take t m 8 16 (omega (arith, p.some, p.inside)) in
    let b : below u ≡ below t =
    ap (take (8 * size_of u - 8)) (drop-take 8 m t) ∙ take-take (8 * size_of u - 8) (m - 8) (drop 8 t) (omega (arith, p.inside))
    ∙ ap (λ (x : ℕ). take (8 * x - 8) (drop 8 t)) e in
    record {
      number = p.number;
      kind = p.kind ∙ field-take t m 0 5 (omega (arith, p.some, p.inside));
      value = p.value ∙ field-take t m 24 16 (omega (arith, p.some, p.inside));
      some = omega (arith, p.some);
      inside = omega (arith, p.inside);
      under = subst (λ (v : List ℕ). Reads v (n + 1) s.kids) b p.under;
    }

pub spot_at : (f : Forest) (t : List ℕ) (at i : ℕ) (s : Spot) → Reads t at f → get_elem? (spots_in f) i ≡ some s → Stands t at i s
unfolding spots_in
spot_at nil t at i s p q = absurd (let z : ◌≡◌ {A = ℕ} 0 1 = cc in omega arith)
spot_at (node a k v ks rs) t at zero s p q =
    let e : record { number = a; kind = k; value = v; kids = ks } ≡ s = cc in
    let d : at ≡ at + 0 = omega arith in
    subst (First t (at + 0)) e
    (record {
      number = p.number ∙ d;
      kind = p.kind;
      value = p.value;
      some = p.some;
      inside = p.inside;
      under = subst (λ (n : ℕ). Reads (below t) (n + 1) ks) d p.under;
    })
spot_at (node a k v ks rs) t at (suc j) s p q =
    let c = length (spots_in ks) in
    let z : size_of t ≡ 1 + c = reads_size a k v ks rs t at p ∙ ap (λ (x : ℕ). 1 + x) (sym (spots_count ks)) in
    elim (dec_lt j c) [
      | yes h ↦ let m = 8 * size_of t - 8 in
          let x : 8 + 8 * j ≡ 8 * suc j = omega arith in
          let y : at + 1 + j ≡ at + suc j = omega arith in
          let d : drop (8 * j) (below t) ≡ take (m - 8 * j) (drop (8 * suc j) t) =
          drop-take (8 * j) m (drop 8 t) ∙ ap (take (m - 8 * j)) (drop-drop (8 * j) 8 t ∙ ap (λ (n : ℕ). drop n t) x) in
          first_longer (m - 8 * j) (drop (8 * suc j) t) (at + suc j) s
          (subst (λ (n : ℕ). First (take (m - 8 * j) (drop (8 * suc j) t)) n s) y
          (subst (λ (u : List ℕ). First u (at + 1 + j) s) d
          (spot_at ks (below t) (at + 1) j s p.under (sym (at_left (spots_in ks) (spots_in rs) j h) ∙ q))))
      | no h ↦ let x : 8 * size_of t + 8 * (j - c) ≡ 8 * suc j = omega arith in
          let y : at + size_of t + (j - c) ≡ at + suc j = omega arith in
          subst (λ (n : ℕ). First (drop (8 * suc j) t) n s) y
          (subst (λ (u : List ℕ). First u (at + size_of t + (j - c)) s) (drop-drop (8 * (j - c)) (8 * size_of t) t ∙ ap (λ (n : ℕ). drop n t) x)
          (spot_at rs (after t) (at + size_of t) (j - c) s p.after (sym (at_right (spots_in ks) (spots_in rs) j (omega arith)) ∙ q)))
    ]
