-- The steps of resolving: what each function hands to the one that it calls, and what it makes of what that one ensures.
-- Here: the loop over siblings, a node's children, an Ident. `Cuts` has a ForClause's steps, `Functions` a Def's and a Lambda's, `Comprs` a comprehension's.
use Prim.Native.Nat.{ℕ, ◌+◌, ◌-◌, ◌*◌, ◌≤◌, ◌<◌}
use mathlib.Core.Path.{◌≡◌, refl, sym, ap, ◌∙◌, subst}
use mathlib.Core.Bool.{Bool, true, false}
use mathlib.Core.List.{List, ◌++◌}
use native.Mathlib.Omega.{arith}
use lib.ListN.{length, take, drop, length-drop, take-append-drop}
use lib.Seq.{drop-drop, length-take-le}
use Rattle.base.specs.Parts.{part-from, part_length}
use Rattle.lexical.specs.Tree.{Forest, nil, node, ◌⊕◌}
use Rattle.lexical.specs.Module.{outer}
use Rattle.lexical.specs.State.{St}
use Rattle.nodefile.specs.Node.{size_of, kind_of, value_of, below, after}
use Rattle.nodefile.specs.Reads.{Reads}
use Rattle.std.specs.Prelude.{Result, eqb}
use Rattle.std.proofs.lemmas.Bool.{eqb-false, eqb-true}
use Rattle.store.specs.declared.ids.State.{State}
use Rattle.store.specs.declared.ids.Full.{Full}
use Rattle.store.specs.Sections.{Mem, Long}
use Rattle.store.specs.Rel.{R}
use Rattle.store.proofs.Laws.Lengths.{Kept, long_kept}
use Rattle.lookup.specs.Lookup.{Ident, IdentDone}
use Rattle.nodefile.specs.Parts.{alone, One, Split, Walk, Left}
use Rattle.nodefile.proofs.Laws.Parts.{size_take, one, kids_length, left_start, left_end, left_split, left_one, left_fine}
use Rattle.idents.specs.Cycle.{Ghost, Pre, Pre1, PreKind, Done, DoneAny, resolved_at}
use Rattle.idents.proofs.Fine.{Fine, fine_kids, fine_opened}
use Rattle.idents.proofs.Joined.{reads_joined}
use Rattle.idents.proofs.Resolving.{ctx, resolving, Other, other_node, opened_node, type_node, ident_node}

-- ---- what is handed on

module _ {part : List ℕ} {at : ℕ} {s : Result State Full} {m : Mem} (g : Ghost part at s m) where
  abbrev pub fine_of : Fine g.ss g.f
  fine_of = record { valid = g.valid; deep = g.deep; apart = g.apart; unmet = g.unmet }

  -- the same surroundings, at another part and another state
  abbrev pub passed_on : {part' : List ℕ} {at' : ℕ} {s' : Result State Full} {m' : Mem} (f : Forest) (st : St) → Reads part' at' f → Fine g.ss f → R g.W g.env g.ss st s' m' → Ghost part' at' s' m'
  passed_on f st r q k = record {
    W = g.W;
    env = g.env;
    ss = g.ss;
    st = st;
    f = f;
    settled = g.settled;
    reads = r;
    valid = q.valid;
    deep = q.deep;
    around = g.around;
    owned = g.owned;
    apart = q.apart;
    unmet = q.unmet;
    rel = k;
  }

  -- its nodes, one after the other, from a state of its surroundings
  abbrev pub walk_of : Bool → Walk St
  walk_of ty = resolving g.W.F.names g.W.D (outer g.W.mods g.W.F.globals) (ctx g.env g.ss ty)

-- a part that holds one node is as long as that node says
pub whole_node : (t : List ℕ) (at a k v : ℕ) (kids : Forest) → Reads t at (node a k v kids nil) → (0 < size_of t) × (8 * size_of t ≡ length t)
whole_node t at a k v kids r = (r.some, omega (arith, r.inside, ap length r.after, length-drop (8 * size_of t) t))

-- ---- what is left of a part from byte b on, `&t[b..]`

abbrev pub back : List ℕ → ℕ → List ℕ
back t b = take (length t - b) (drop b t)

pub back-length : (t : List ℕ) (b : ℕ) → b ≤ length t → length (back t b) ≡ length t - b
back-length t b h = part_length t b (length t - b) (omega arith)

-- ---- each: between one node and the next

-- what the loop's test says
pub some_left : (n : ℕ) {b : Bool} → b ≡ eqb n 0 → b ≡ false → 0 < n
some_left n q e = omega (arith, eqb-false n 0 (sym q ∙ e))

pub none_left : (n : ℕ) {b : Bool} → b ≡ eqb n 0 → b ≡ true → n ≡ 0
none_left n q e = eqb-true n 0 (sym q ∙ e)

-- without the node itself that t starts with, t holds its children, and then what follows it
opened_reads : (t : List ℕ) (n : ℕ) {f : Forest} (p : Split t n f) → Reads (drop 8 t) (n + 1) (p.kids ⊕ p.rest)
opened_reads t n p =
    let k : ℕ = size_of t in
    let l : length (below t) ≡ 8 * (k - 1) = length-take-le (8 * k - 8) (drop 8 t) (omega (arith, length-drop 8 t, p.inside)) ∙ omega (arith, p.some) in
    let z : n + k ≡ n + 1 + (k - 1) = omega (arith, p.some) in
    let y : 8 * k ≡ 8 + (8 * k - 8) = omega (arith, p.some) in
    let q = reads_joined p.kids p.rest (below t) (after t) (n + 1) (k - 1) l p.under (subst (λ (x : ℕ). Reads (after t) x p.rest) z p.after) in
    let e : after t ≡ drop (8 * k - 8) (drop 8 t) = ap (λ (x : ℕ). drop x t) y ∙ sym (drop-drop (8 * k - 8) 8 t) in
    let w : below t ++ after t ≡ drop 8 t = ap (λ (u : List ℕ). below t ++ u) e ∙ take-append-drop (8 * k - 8) (drop 8 t) in
    subst (λ (u : List ℕ). Reads u (n + 1) (p.kids ⊕ p.rest)) w q

-- what is left of the part, which starts with node n
pub record Mid (part : List ℕ) (at : ℕ) (ty : Bool) (s₀ : Result State Full) (m₀ : Mem) (s : Result State Full) (n : ℕ) (rest : List ℕ) (m : Mem) : Type 0 where
  pub long : Long m
  pub kept : length m.binds ≡ length m₀.binds
  pub number : 8 * n + length rest ≡ 8 * at + length part
  pub le : length rest ≤ length part
  pub ahead : (g : Ghost part at s₀ m₀) → Left (walk_of g ty) (λ st. R g.W g.env g.ss st s m) rest n 0 (resolved_at g ty)

pub k_start : {part : List ℕ} {at : ℕ} {s : Result State Full} {m : Mem} (ty : Bool) → Pre part at s m → Mid part at ty s m s at part m
k_start {part} {at} {s} {m} ty p = record {
  long = p.long;
  kept = refl;
  number = refl;
  le = omega arith;
  ahead = λ g. left_start (walk_of g ty) (λ st. R g.W g.env g.ss st s m) part at g.f g.st g.reads (fine_of g) g.rel;
}

module _ {part : List ℕ} {at : ℕ} {ty : Bool} {s₀ : Result State Full} {m₀ : Mem} {s : Result State Full} {n : ℕ} {rest : List ℕ} {m : Mem} (d : Mid part at ty s₀ m₀ s n rest m) where
  pub k_end : length rest ≤ 0 → Done part at ty s₀ m₀ s m
  k_end h = record { right = λ g. left_end (walk_of g ty) (d.ahead g) h }

  module _ (h : 0 < length rest) where
    -- the node that stands first
    abbrev k_split : (g : Ghost part at s₀ m₀) → Split rest n (d.ahead g).f
    k_split g = left_split (walk_of g ty) (d.ahead g) h

    pub k_node : Ghost part at s₀ m₀ → (0 < size_of rest) × (8 * size_of rest ≤ length rest)
    k_node g = let p = k_split g in (p.some, p.inside)

    module _ (k : ℕ) (hk : k ≡ size_of rest) where
      abbrev k-ghost : Ghost part at s₀ m₀ → Ghost (take (8 * k) rest) n s m
      k-ghost g =
          let S = walk_of g ty in
          let l = d.ahead g in
          passed_on g (left_one S l h) l.x (rw hk (k_split g).one) (left_fine S l h).0 l.known

      pub k_length : Ghost part at s₀ m₀ → length (take (8 * k) rest) ≡ 8 * k
      k_length g = length-take-le (8 * k) rest (omega (arith, k_node g, hk))

      pub k_pre : 8 * at + length part ≤ 16384 → Ghost part at s₀ m₀ → Pre1 (take (8 * k) rest) n s m
      k_pre w g =
          let p = k_node g in
          let z : size_of (take (8 * k) rest) ≡ k = size_take rest (8 * k) (omega (arith, p, hk)) ∙ sym hk in
          record {
            some = omega (arith, z, p, hk);
            whole = omega (arith, z, k_length g);
            pre = record { long = d.long; within = omega (arith, d.number, p, hk, k_length g); ghost = k-ghost g };
          }

      pub k_more : {r : Result State Full} {m' : Mem} → Ghost part at s₀ m₀ → Done (take (8 * k) rest) n ty s m r m' → Kept m m' → Mid part at ty s₀ m₀ r (n + k) (back rest (8 * k)) m'
      k_more {r} {m'} g₀ x c =
          let b : length (back rest (8 * k)) ≡ length rest - 8 * k = back-length rest (8 * k) (omega (arith, k_node g₀, hk)) in
          record {
            long = long_kept d.long c;
            kept = c.binds ∙ d.kept;
            number = omega (arith, d.number, b, k_node g₀, hk);
            le = omega (arith, d.le, b);
            ahead = λ g.
                let S = walk_of g ty in
                let l = d.ahead g in
                let p = k_split g in
                record {
                  f = p.rest;
                  x = S.over (left_one S l h) l.x;
                  reads = rw (part-from rest (8 * k), hk) p.after;
                  fine = (left_fine S l h).1;
                  known = x.right (k-ghost g);
                  same = sym (S.step n (kind_of rest) (value_of rest) p.kids p.rest l.x) ∙ ap (λ (f : Forest). S.over f l.x) (sym p.is) ∙ l.same;
                };
          }

    -- an Other is passed over: its children come next, and then what follows it
    pub k_into : kind_of rest ≡ 14 → Ghost part at s₀ m₀ → Mid part at ty s₀ m₀ s (n + 1) (back rest 8) m
    k_into e g₀ =
        let b : length (back rest 8) ≡ length rest - 8 = back-length rest 8 (omega (arith, k_node g₀)) in
        record {
          long = d.long;
          kept = d.kept;
          number = omega (arith, d.number, b, k_node g₀);
          le = omega (arith, d.le, b);
          ahead = λ g.
              let S = walk_of g ty in
              let l = d.ahead g in
              let p = k_split g in
              let o : Other (kind_of rest) = omega (arith, e) in
              record {
                f = p.kids ⊕ p.rest;
                x = l.x;
                reads = rw (part-from rest 8) (opened_reads rest n p);
                fine = fine_opened n (kind_of rest) (value_of rest) p.kids p.rest o.0 o.2 (subst (Fine g.ss) p.is l.fine);
                known = l.known;
                same = opened_node _ _ _ n _ (value_of rest) p.kids o p.rest _ l.x ∙ ap (λ (f : Forest). S.over f l.x) (sym p.is) ∙ l.same;
              };
        }

-- ---- one node

pub kind_is : {k : ℕ} {part : List ℕ} {at : ℕ} {s : Result State Full} {m : Mem} → PreKind k k part at s m → kind_of part ≡ k
kind_is p = omega (arith, p.low, p.high)

pub any_done : {part : List ℕ} {at : ℕ} {s : Result State Full} {m : Mem} {r : Result State Full} {m' : Mem} (ty : Bool) → DoneAny part at s m r m' → Done part at ty s m r m'
any_done ty x = record { right = λ g. x.right g ty }

module _ {part : List ℕ} {at : ℕ} {s : Result State Full} {m : Mem} (p : Pre1 part at s m) where
  pub x_long : 8 ≤ length part
  x_long = omega (arith, p.some, p.whole)

  pub x_kind : kind_of part ≤ 18
  x_kind = let g = p.pre.ghost in (one part p.some p.whole at g.f g.reads g.valid).ok.kind

  abbrev pub x-one : (g : Ghost part at s m) → One part at g.f
  x-one g = one part p.some p.whole at g.f g.reads g.valid

  pub x_fine : (g : Ghost part at s m) → Fine g.ss (alone part at (x-one g).kids)
  x_fine g = subst (Fine g.ss) (x-one g).is (fine_of g)

  -- what it comes to
  pub x_right : {r : Result State Full} {m' : Mem} (g : Ghost part at s m) (ty : Bool) (st : St) → (walk_of g ty).over (alone part at (x-one g).kids) g.st ≡ st
      → R g.W g.env g.ss st r m' → R g.W g.env g.ss (resolved_at g ty) r m'
  x_right {r} {m'} g ty st e q =
      let z : resolved_at g ty ≡ st = ap (λ (f : Forest). (walk_of g ty).over f g.st) (x-one g).is ∙ e in
      rw z q

  -- what its children come to
  pub x_kids_length : length (take (length part - 8) (drop 8 part)) ≡ length part - 8
  x_kids_length = kids_length part p.some p.whole

  pub x_kids_fine : (g : Ghost part at s m) → Fine g.ss (x-one g).kids
  x_kids_fine g = fine_kids at (kind_of part) (value_of part) (x-one g).kids nil (x_fine g)

  abbrev pub x-kids-ghost : Ghost part at s m → Ghost (take (length part - 8) (drop 8 part)) (at + 1) s m
  x-kids-ghost g = passed_on g (x-one g).kids g.st (x-one g).under (x_kids_fine g) g.rel

  pub x_kids_pre : Pre (take (length part - 8) (drop 8 part)) (at + 1) s m
  x_kids_pre = record {
    long = p.pre.long;
    within = omega (arith, p.pre.within, x_kids_length, x_long);
    ghost = x-kids-ghost p.pre.ghost;
  }

  pub x_others : {ty : Bool} {r : Result State Full} {m' : Mem} → Other (kind_of part) → Done (take (length part - 8) (drop 8 part)) (at + 1) ty s m r m' → Done part at ty s m r m'
  x_others {ty} e x = record { right = λ g. x_right g ty _ (other_node _ _ _ at _ (value_of part) (x-one g).kids e _ g.st) (x.right (x-kids-ghost g)) }

  pub x_type : {r : Result State Full} {m' : Mem} → kind_of part ≡ 18 → Done (take (length part - 8) (drop 8 part)) (at + 1) true s m r m' → DoneAny part at s m r m'
  x_type e x = record { right = λ g ty. x_right g ty _ (type_node _ _ _ at _ (value_of part) (x-one g).kids e g.env g.ss ty g.st) (x.right (x-kids-ghost g)) }

  -- an Ident
  abbrev x-ident-ghost : (name : ℕ) → name ≡ value_of part → kind_of part ≡ 11 → Ghost part at s m → Ident name at s m
  x-ident-ghost name e h g =
      let o = x-one g in
      record { W = g.W; env = g.env; ss = g.ss; st = g.st; settled = g.settled; rel = g.rel; known = rw e (o.ok.ident h).0; node = o.ok.number }

  pub x_ident_pre : (name : ℕ) → name ≡ value_of part → kind_of part ≡ 11 → Long m × Ident name at s m
  x_ident_pre name e h = (p.pre.long, x-ident-ghost name e h p.pre.ghost)

  pub x_ident : (name : ℕ) (e : name ≡ value_of part) (h : kind_of part ≡ 11) {ty : Bool} {r : Result State Full} {m' : Mem} → IdentDone name at ty s m r m' → Done part at ty s m r m'
  x_ident name e h {ty} x = record {
    right = λ g. x_right g ty _ (ident_node _ _ _ at _ (value_of part) (x-one g).kids name (sym e) h ((x-one g).ok.ident h).1 _ g.st) (x.right (x-ident-ghost name e h g));
  }
