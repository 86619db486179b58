-- A part that is cut in two at byte b, `&kids[..b]` and `&kids[b..]`: after its first node (a clause, a comprehension), or before its last (a function).
use Prim.Native.Nat.{ℕ, ◌+◌, ◌-◌, ◌*◌, ◌/◌, ◌≤◌, ◌<◌}
use mathlib.Core.Path.{◌≡◌, refl, ap, subst}
use mathlib.Core.Bool.{Bool}
use mathlib.Core.List.{List}
use native.Mathlib.Omega.{arith}
use lib.ListN.{length, take, drop}
use lib.Seq.{length-take-le}
use Rattle.base.specs.Parts.{part-from}
use Rattle.lexical.specs.Tree.{Forest, nil, node}
use Rattle.lexical.specs.State.{St}
use Rattle.nodefile.specs.Node.{size_of, kind_of, value_of}
use Rattle.nodefile.specs.Reads.{Reads}
use Rattle.std.specs.Prelude.{Result}
use Rattle.store.specs.declared.ids.State.{State}
use Rattle.store.specs.declared.ids.Full.{Full}
use Rattle.store.specs.Sections.{Mem, Long}
use Rattle.store.specs.Rel.{R}
use Rattle.store.proofs.Laws.Lengths.{Kept, long_kept}
use Rattle.nodefile.specs.Valid.{Some}
use Rattle.nodefile.specs.Parts.{alone, Split}
use Rattle.nodefile.proofs.Laws.Parts.{split, some_long}
use Rattle.idents.specs.Cycle.{Ghost, Pre, Pre1, PreKind, Done, LastAt}
use Rattle.idents.proofs.Fine.{Fine, fine_apart}
use Rattle.idents.proofs.Resolving.{clause_node}
use Rattle.idents.proofs.Steps.{back, back-length, passed_on, whole_node, x_long, x-one, x_right, x_kids_length, x_kids_fine}

-- f before byte b, g from it on
pub record Cut (t : List ℕ) (at b : ℕ) (f g : Forest) : Type 0 where
  pub inside : b ≤ length t
  pub eights : 8 * (b / 8) ≡ b
  pub first : Reads (take b t) at f
  pub second : Reads (back t b) (at + b / 8) g

-- before the last node
pub cut_last : {t : List ℕ} {at b : ℕ} {f : Forest} (l : LastAt t at f b) → Cut t at b l.front (node l.a l.k l.v l.kids nil)
cut_last {t} {at} {b} {f} l = record {
  inside = omega (arith, l.inside);
  eights = l.eights;
  first = l.front_reads;
  second = rw (part-from t b) l.last_reads;
}

-- after the first node
pub cut-first : {t : List ℕ} {at b : ℕ} {f : Forest} (p : Split t at f) → b ≡ 8 * size_of t → Cut t at b (alone t at p.kids) p.rest
cut-first {t} {at} {b} {f} p e =
    let z : at + size_of t ≡ at + b / 8 = omega arith in
    record {
      inside = omega (arith, p.inside);
      eights = omega arith;
      first = rw e p.one;
      second = rw (part-from t b, ← z, e) p.after;
    }

-- a part that holds one node, with what is known around it
pub alone_pre : {t : List ℕ} {at : ℕ} {s : Result State Full} {m : Mem} (g : Ghost t at s m) (a k v : ℕ) (kids : Forest) → g.f ≡ node a k v kids nil → Long m → 8 * at + length t ≤ 16384 → Pre1 t at s m
alone_pre {t} {at} g a k v kids e l w =
    let q = whole_node t at a k v kids (subst (Reads t at) e g.reads) in
    record { some = q.0; whole = q.1; pre = record { long = l; within = w; ghost = g } }

-- a clause that is no IfClause
module _ {part : List ℕ} {at : ℕ} {s : Result State Full} {m : Mem} (p : PreKind 15 16 part at s m) (n : kind_of part ≡ 16 → ⊥) where
  pub for_clause : kind_of part ≡ 15
  for_clause = omega (arith, p.low, p.high)

  pub clause_some : (g : Ghost part at s m) → Some (x-one p.one g).kids
  clause_some g = (x-one p.one g).ok.clause for_clause

-- ---- the children of a clause or of a comprehension: the first, and the others

module _ {part : List ℕ} {at : ℕ} {s : Result State Full} {m : Mem} (p : Pre1 part at s m) (some : (g : Ghost part at s m) → Some (x-one p g).kids) where
  abbrev pub kids-of : List ℕ
  kids-of = take (length part - 8) (drop 8 part)

  pub f_split : (g : Ghost part at s m) → Split kids-of (at + 1) (x-one p g).kids
  f_split g = let o = x-one p g in split kids-of (at + 1) o.kids (omega (arith, some_long kids-of (at + 1) o.kids o.under (some g))) o.under

  pub f_fine : (g : Ghost part at s m) → Fine g.ss (alone kids-of (at + 1) (f_split g).kids) × Fine g.ss (f_split g).rest
  f_fine g = let q = f_split g in fine_apart (at + 1) (kind_of kids-of) (value_of kids-of) q.kids q.rest (subst (Fine g.ss) q.is (x_kids_fine p g))

  module _ (k : ℕ) (hk : k ≡ size_of kids-of) where
    pub f_cut : (g : Ghost part at s m) → Cut kids-of (at + 1) (8 * k) (alone kids-of (at + 1) (f_split g).kids) (f_split g).rest
    f_cut g = cut-first (f_split g) (ap (λ (n : ℕ). 8 * n) hk)

    -- the first ends in the children, which are shorter than the part
    pub f_inside : (0 < k) × (8 * k ≤ length kids-of) × (length kids-of + 8 ≡ length part)
    f_inside = let g = p.pre.ghost in omega (arith, (f_cut g).inside, (f_split g).some, x_kids_length p, x_long p)

    pub f_front-length : length (take (8 * k) kids-of) ≡ 8 * k
    f_front-length = length-take-le (8 * k) kids-of (f_cut p.pre.ghost).inside

    pub f_back-length : length (back kids-of (8 * k)) ≡ length kids-of - 8 * k
    f_back-length = back-length kids-of (8 * k) (f_cut p.pre.ghost).inside

    -- the first child, from any state
    abbrev pub f-first-ghost : {s' : Result State Full} {m' : Mem} (g : Ghost part at s m) (st : St) → R g.W g.env g.ss st s' m' → Ghost (take (8 * k) kids-of) (at + 1) s' m'
    f-first-ghost g st r = passed_on g (alone kids-of (at + 1) (f_split g).kids) st (f_cut g).first (f_fine g).0 r

    pub f_first_pre : {s' : Result State Full} {m' : Mem} (st : St) → R p.pre.ghost.W p.pre.ghost.env p.pre.ghost.ss st s' m' → Long m' → Pre1 (take (8 * k) kids-of) (at + 1) s' m'
    f_first_pre st r l =
        let g = p.pre.ghost in
        alone_pre (f-first-ghost g st r) _ _ _ (f_split g).kids refl l (omega (arith, p.pre.within, x_long p, f_inside, f_front-length))

    -- the numbers of the others
    pub f_rest_within : 8 * (at + 1 + 8 * k / 8) + length (back kids-of (8 * k)) ≤ 16384
    f_rest_within = omega (arith, p.pre.within, x_long p, f_inside, f_back-length, (f_cut p.pre.ghost).eights)

    -- ---- a ForClause: the others, then the first

    abbrev c-rest-ghost : (g : Ghost part at s m) → Ghost (back kids-of (8 * k)) (at + 1 + 8 * k / 8) s m
    c-rest-ghost g = passed_on g (f_split g).rest g.st (f_cut g).second (f_fine g).1 g.rel

    pub c_rest_pre : Pre (back kids-of (8 * k)) (at + 1 + 8 * k / 8) s m
    c_rest_pre = record { long = p.pre.long; within = f_rest_within; ghost = c-rest-ghost p.pre.ghost }

    module _ {ty : Bool} {s₁ : Result State Full} {m₁ : Mem} (x : Done (back kids-of (8 * k)) (at + 1 + 8 * k / 8) ty s m s₁ m₁) where
      pub c_first_pre : Kept m m₁ → Pre1 (take (8 * k) kids-of) (at + 1) s₁ m₁
      c_first_pre j = f_first_pre _ (x.right (c-rest-ghost p.pre.ghost)) (long_kept p.pre.long j)

      pub c_done : {r : Result State Full} {m' : Mem} → kind_of part ≡ 15 → Done (take (8 * k) kids-of) (at + 1) ty s₁ m₁ r m' → Done part at ty s m r m'
      c_done e y = record {
        right = λ g.
            let q = f_split g in
            x_right p g ty _ (clause_node _ _ _ at _ (value_of part) (x-one p g).kids _ _ _ q.kids q.rest e q.is _ g.st) (y.right (f-first-ghost g _ (x.right (c-rest-ghost g))));
      }
