-- The steps of `collect_kids`: what holds between one node and the next, what each node is handed, and what comes back.
use Rattle.std.specs.Prelude.{ℕ, ◌+◌, ◌-◌, ◌*◌, ◌≤◌, ◌<◌, ◌≡◌, List, ◌++◌, length, take, drop, Result}
use Rattle.std.proofs.Common.{sym, arith, length-take-le, length-drop}
use Rattle.lexical.specs.Binders.{collect}
use Rattle.nodefile.specs.Node.{size_of}
use Rattle.nodefile.specs.Parts.{Left}
use Rattle.nodefile.proofs.Laws.Parts.{size_take, left_start, left_end, left_one, left_fine}
use Rattle.store.specs.declared.ids.State.{State}
use Rattle.store.specs.declared.ids.Full.{Full}
use Rattle.store.specs.declared.ids.Block.{Block}
use Rattle.store.specs.declared.ids.Marks.{Marks}
use Rattle.store.specs.Sections.{Mem, Long}
use Rattle.store.specs.Blocks.{RB}
use Rattle.target.specs.Target.{marks_of}
use Rattle.collect.specs.Cycle.{Ghost, Pre1, Done}
use Rattle.collect.proofs.Collecting.{collecting}
use Rattle.collect.proofs.Rests.{rest_sizes, rest_one, rest_more}

-- the nodes before node n are collected; those in `rest` are left
pub record Mid (part : List ℕ) (at : ℕ) (b : Block) (marks : Marks) (s₀ : Result State Full) (m₀ : Mem) (s : Result State Full) (n : ℕ) (rest : List ℕ) (m : Mem) : Type 0 where
  pub number : 8 * n + length rest ≡ 8 * at + length part
  pub le : length rest ≤ length part
  pub left : (g : Ghost part at b s₀ m₀)
      → Left (collecting g.W.F.names (marks_of marks)) (λ ts. RB g.W g.env g.ss g.E ts s m) rest n 0 (g.ts ++ collect g.W.F.names (marks_of marks) g.f)

pub k_start : {part : List ℕ} {at : ℕ} {b : Block} {s : Result State Full} {m : Mem} (marks : Marks) → Mid part at b marks s m s at part m
k_start {part} {at} {b} {s} {m} marks = record {
  number = omega arith;
  le = omega arith;
  left = λ g. left_start (collecting g.W.F.names (marks_of marks)) (λ ts. RB g.W g.env g.ss g.E ts s m) part at g.f g.ts g.reads g.valid g.rel;
}

module _ {part : List ℕ} {at : ℕ} {b : Block} {marks : Marks} {s₀ : Result State Full} {m₀ : Mem} {s : Result State Full} {n : ℕ} {rest : List ℕ} {m : Mem}
    (d : Mid part at b marks s₀ m₀ s n rest m) where
  pub k_end : length rest ≡ 0 → Done part at b marks s₀ m₀ s m
  k_end h = record { right = λ g. left_end (collecting g.W.F.names (marks_of marks)) (d.left g) (omega arith) }

  module _ (h : 0 < length rest) (k : ℕ) (hk : k ≡ size_of rest) where
    pub k_sizes : Ghost part at b s₀ m₀ → (0 < k) × (8 * k ≤ length rest)
    k_sizes g = rest_sizes (collecting g.W.F.names (marks_of marks)) (d.left g) h k hk

    -- the first node that is left
    abbrev k-ghost : Ghost part at b s₀ m₀ → Ghost (take (8 * k) rest) n b s m
    k-ghost g =
        let S = collecting g.W.F.names (marks_of marks) in
        let l = d.left g in
        record { W = g.W; env = g.env; ss = g.ss; E = g.E; ts = l.x; f = left_one S l h; reads = rest_one S l h k hk; valid = (left_fine S l h).0; is = g.is; rel = l.known }

    pub k_pre : Long m → 8 * at + length part ≤ 16384 → Ghost part at b s₀ m₀ → Pre1 (take (8 * k) rest) n b s m
    k_pre long w g =
        let z = k_sizes g in
        let e : size_of (take (8 * k) rest) ≡ k = rw (size_take rest (8 * k) (omega (arith, z))) (sym hk) in
        let l = length-take-le (8 * k) rest z.1 in
        record { some = omega (arith, e, z); whole = omega (arith, e, l); pre = record { long = long; within = omega (arith, d.number, l, z); ghost = k-ghost g } }

    pub k_more : {r : Result State Full} {m' : Mem} → Ghost part at b s₀ m₀ → Done (take (8 * k) rest) n b marks s m r m'
        → Mid part at b marks s₀ m₀ r (n + k) (take (length rest - 8 * k) (drop (8 * k) rest)) m'
    k_more {r} {m'} g₀ x =
        let z = k_sizes g₀ in
        let l : length (take (length rest - 8 * k) (drop (8 * k) rest)) ≡ length rest - 8 * k = length-take-le (length rest - 8 * k) (drop (8 * k) rest) (omega (arith, length-drop (8 * k) rest)) in
        record {
          number = omega (arith, d.number, l, z);
          le = omega (arith, d.le, l);
          left = λ g. rest_more (collecting g.W.F.names (marks_of marks)) (d.left g) h k hk (λ ts. RB g.W g.env g.ss g.E ts r m') (x.right (k-ghost g));
        }
