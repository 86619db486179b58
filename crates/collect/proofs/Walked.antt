-- The steps of `collect_defines_recursively`: what holds between one node and the next.
use Rattle.std.specs.Prelude.{ℕ, ◌+◌, ◌-◌, ◌*◌, ◌/◌, ◌<◌, ◌≤◌, Result}
use mathlib.Core.Path.{◌≡◌, refl, sym, ap, ◌∙◌, subst}
use mathlib.Core.List.{List, [], ◌∷◌, ◌++◌, append-nil}
use native.Mathlib.Omega.{arith}
use lib.ListN.{length, take, drop, length-drop}
use Rattle.base.specs.Parts.{part-from}
use Rattle.lexical.specs.Lists.{first}
use Rattle.lexical.specs.Tree.{Forest, params_in}
use Rattle.lexical.specs.First.{start}
use Rattle.lexical.specs.State.{Row, St}
use Rattle.lexical.specs.Second.{second}
use Rattle.store.specs.declared.ids.State.{State}
use Rattle.store.specs.declared.ids.Full.{Full}
use Rattle.store.specs.Sections.{Mem, Long}
use Rattle.store.specs.Rel.{R}
use Rattle.nodefile.proofs.Laws.Reads.{reads_length}
use Rattle.collect.specs.Declare.{world_of, PreHere, HereDone, AllNodes, AllDone}
use Rattle.collect.proofs.Ordered.{stand_one, stand_end}
use Rattle.collect.proofs.Going.{Going, Next, next, n_here, n_more}

-- the nodes before node n are declared
abbrev pub Mid : (list : List ℕ) (s₀ : Result State Full) (m₀ : Mem) (s : Result State Full) (n : ℕ) (m : Mem) → Type 0
Mid list s₀ m₀ s n m = (g : AllNodes list s₀ m₀) → (todo : List Forest) × Going g.F list s n m todo

pub w_start : {list : List ℕ} {s : Result State Full} {m : Mem} → Mid list s m s 0 m
unfolding second
w_start {list} {s} {m} g =
    let root = g.F.root in (
      root ∷ [],
      record {
        tbl = [];
        ps = [];
        st = start g.F;
        stand = stand_one list 0 root g.reads;
        valid = (g.valid, tt);
        apart = rw append-nil g.apart;
        unmet = λ u h. record { row = unfold first in refl; parameters = unfold first in refl };
        rel = g.rel;
        same = refl;
        counts = append-nil (params_in root);
      },
    )

module _ {list : List ℕ} {s₀ : Result State Full} {m₀ : Mem} {s : Result State Full} {n : ℕ} {m : Mem} (d : Mid list s₀ m₀ s n m) where
  pub w_end : n ≡ length list / 8 → AllDone list s₀ m₀ s m
  w_end h = record {
    right = λ g.
        let (todo, q) = d g in
        let e = stand_end g.F.names todo (drop (8 * n) list) n (q.tbl, q.st) (omega (arith, length-drop (8 * n) list, reads_length g.F.root list 0 g.reads)) q.stand in
        let y : (q.tbl, q.st) ≡ second g.F = sym e.0 ∙ q.same in
        let z : q.ps ≡ params_in g.F.root = sym (append-nil q.ps) ∙ ap (λ (l : List (ℕ × ℕ)). q.ps ++ l) (sym e.1) ∙ q.counts in
        subst (λ (u : List Row × St). R (world_of g.F u.0 (params_in g.F.root)) [] (0 ∷ []) u.1 s m) y (rw z at q.rel);
  }

  module _ (h : n < length list / 8) where
    abbrev w-next : (g : AllNodes list s₀ m₀) → Next g.F list s n m
    w-next g = let q = d g in next q.0 (omega arith) q.1

    pub w_pre : Long m → length list ≤ 16384 → AllNodes list s₀ m₀ → PreHere (take (length list - 8 * n) (drop (8 * n) list)) n s m
    w_pre long few g = rw (part-from list (8 * n)) (record { long = long; within = omega (arith, length-drop (8 * n) list); ghost = n_here (w-next g) })

    pub w_more : {r : Result State Full} {m' : Mem} → HereDone (take (length list - 8 * n) (drop (8 * n) list)) n s m r m' → Mid list s₀ m₀ r (n + 1) m'
    w_more {r} {m'} x g = (_, n_more (w-next g) (rw (part-from list (8 * n)) at x))
