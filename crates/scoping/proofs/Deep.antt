-- Number 9: how deep the trees are that a part of the list holds, one tree after the other.
use Prim.Native.Nat.{ℕ, suc, ◌+◌, ◌-◌, ◌*◌, ◌≤◌, ◌<◌, max}
use mathlib.Core.Path.{◌≡◌, refl, sym, ap, subst}
use mathlib.Core.List.{List}
use native.Mathlib.Omega.{arith}
use lib.ListN.{length, take, drop, length-take, length-drop}
use Rattle.lexical.specs.Tree.{Forest, nil, node}
use Rattle.nodefile.specs.Node.{size_of, below}
use Rattle.nodefile.specs.Reads.{Reads}
use Rattle.nodefile.specs.Height.{height}
use Rattle.scoping.specs.Inside.Held.{Held}
use Rattle.nodefile.proofs.Laws.Fitting.{rest_is, below-is}

-- no deeper than there are nodes
pub height_nodes : (f : Forest) (t : List ℕ) (at : ℕ) → Reads t at f → 8 * height f ≤ length t
height_nodes nil t at r = omega arith
height_nodes (node a k v kids rest) t at r =
    omega (
      arith,
      r.some,
      r.inside,
      height_nodes kids (below t) (at + 1) r.under,
      height_nodes rest (drop (8 * size_of t) t) (at + size_of t) r.after,
      length-take (8 * size_of t - 8) (drop 8 t),
      length-drop 8 t,
      length-drop (8 * size_of t) t,
    )

-- the first tree, and the others
pub record Split (t : List ℕ) (at : ℕ) (f : Forest) : Type 0 where
  pub kids : Forest
  pub rest : Forest
  pub tall : height f ≡ max (suc (height kids)) (height rest)
  pub some : 0 < size_of t
  pub inside : 8 * size_of t ≤ length t
  pub under : Reads (below t) (at + 1) kids
  pub after : Reads (drop (8 * size_of t) t) (at + size_of t) rest

pub split : (f : Forest) (t : List ℕ) (at : ℕ) → Reads t at f → 0 < length t → Split t at f
split nil t at r h = absurd (omega (arith, ap length r))
split (node a k v ks rs) t at r h = record { kids = ks; rest = rs; tall = refl; some = r.some; inside = r.inside; under = r.under; after = r.after }

-- whether f is more than `left` deep goes by what u holds
pub record Step (left : ℕ) (u : List ℕ) (f : Forest) : Type 0 where
  pub at : ℕ
  pub forest : Forest
  pub reads : Reads u at forest
  pub to : left < height f → left < height forest
  pub from : left < height forest → left < height f

pub record Deep (t : List ℕ) (left : ℕ) (u : List ℕ) : Type 0 where
  pub held : Held u
  pub step : (at : ℕ) (f : Forest) → Reads t at f → Step left u f

pub deep_all : {t : List ℕ} (left : ℕ) → Held t → Deep t left t
deep_all left h = record { held = h; step = λ at f r. record { at = at; forest = f; reads = r; to = λ x. x; from = λ x. x } }

module _ {t : List ℕ} {left : ℕ} {u : List ℕ} (d : Deep t left u) where
  -- what is left has no more nodes than levels
  pub deep_end : length u ≤ 8 * left → (at : ℕ) (f : Forest) → Reads t at f → left < height f → ⊥
  deep_end h at f r l = let s = d.step at f r in omega (arith, s.to l, height_nodes s.forest u s.at s.reads)

  module _ (h : 0 < length u) where
    first : Split u d.held.at d.held.forest
    first = split d.held.forest u d.held.at d.held.reads h

    -- there is no level left
    pub deep_none : left ≡ 0 → (at : ℕ) (f : Forest) → Reads t at f → left < height f
    deep_none z at f r = let s = d.step at f r in s.from (omega (arith, (split s.forest u s.at s.reads h).tall))

    module _ {s : ℕ} (e : s ≡ size_of u) where
      pub deep_size : (0 < s) × (8 * s ≤ length u)
      deep_size = omega (arith, first.some, first.inside)

      pub deep_kids : Held (take (8 * s - 8) (drop 8 u))
      deep_kids = record { at = d.held.at + 1; forest = first.kids; reads = subst (λ (v : List ℕ). Reads v (d.held.at + 1) first.kids) (sym (below-is u e)) first.under }

      held_after : Held (take (length u - 8 * s) (drop (8 * s) u))
      held_after = record { at = d.held.at + size_of u; forest = first.rest; reads = subst (λ (v : List ℕ). Reads v (d.held.at + size_of u) first.rest) (sym (rest_is u e)) first.after }

      -- what the first tree's children said
      pub deep_under : 0 < left → ((at : ℕ) (g : Forest) → Reads (take (8 * s - 8) (drop 8 u)) at g → left - 1 < height g) → (at : ℕ) (f : Forest) → Reads t at f → left < height f
      deep_under z g at f r =
          let p = d.step at f r in
          let q = split p.forest u p.at p.reads h in
          p.from (omega (arith, q.tall, g (p.at + 1) q.kids (subst (λ (v : List ℕ). Reads v (p.at + 1) q.kids) (sym (below-is u e)) q.under)))

      pub deep_more : 0 < left → ((at : ℕ) (g : Forest) → Reads (take (8 * s - 8) (drop 8 u)) at g → left - 1 < height g → ⊥) → Deep t left (take (length u - 8 * s) (drop (8 * s) u))
      deep_more z g = record { held = held_after; step = λ at f r. more (d.step at f r) }
        where
          more : {f : Forest} → Step left u f → Step left (take (length u - 8 * s) (drop (8 * s) u)) f
          more p =
              let q = split p.forest u p.at p.reads h in
              let n = g (p.at + 1) q.kids (subst (λ (v : List ℕ). Reads v (p.at + 1) q.kids) (sym (below-is u e)) q.under) in
              record {
                at = p.at + size_of u;
                forest = q.rest;
                reads = subst (λ (v : List ℕ). Reads v (p.at + size_of u) q.rest) (sym (rest_is u e)) q.after;
                to = λ x. let y = p.to x in omega (arith, q.tall, n);
                from = λ x. p.from (omega (arith, q.tall));
              }
