-- Document 01's condition 10: the scope numbers are 1..S, each once. Two ways to say it, and that each makes a file Scoped.
use Rattle.std.specs.Prelude.{◌≡◌, refl, ◌⊎◌, List, [], ◌∷◌, false, ◌+◌, ◌<◌, ℕ, zero, suc, ◌≤◌, eqb, length}
use Rattle.std.proofs.Common.{ap, inl, inr, arith}
use Rattle.std.proofs.Math.Decide.{dec_lt}
use Rattle.lexical.specs.Lists.{either, eqb-true, eqb-false, Tested, was, wasnt, tested}
use Rattle.lexical.specs.Places.{In, Distinct}
use Rattle.lexical.specs.Sums.{total_ones, total}
use Rattle.lexical.specs.Tree.{listed, when, is_fn, Forest, way, scopes_in, nodes_in}
use Rattle.lexical.specs.Module.{File}
use Rattle.lexical.specs.Claims.{Once, Filled, Scoped}
use Rattle.lexical.proofs.Theory.Listed.{listed-apart}
use Rattle.lexical.proofs.Theory.Pigeon.{pigeonhole}

-- n, .., 1
down : ℕ → List ℕ
down zero = []
down (suc n) = suc n ∷ down n

down_length : (n : ℕ) → length (down n) ≡ n
unfolding down
down_length zero = refl
down_length (suc n) = ap suc (down_length n)

down_range : (n t : ℕ) → In t (down n) → (1 ≤ t) × (t ≤ n)
unfolding down
down_range zero t m = absurd m
down_range (suc n) t (inl e) = omega arith
down_range (suc n) t (inr m) = let h = down_range n t m in omega arith

down_has : (n t : ℕ) → 1 ≤ t → t ≤ n → In t (down n)
unfolding down
down_has zero t a b = absurd (omega arith)
down_has (suc n) t a b = go (tested (eqb t (suc n))) (λ z. down_has n t a z)
  where
    go : Tested (eqb t (suc n)) → (t ≤ n → In t (down n)) → (t ≡ suc n) ⊎ In t (down n)
    go (was e) rec = inl (eqb-true t (suc n) e)
    go (wasnt e) rec = inr (rec (let ne : t ≡ suc n → ⊥ = eqb-false t (suc n) e in near (dec_lt t (suc n)) ne))
      where
        near : Dec (t < suc n) → (t ≡ suc n → ⊥) → t ≤ n
        near (yes l) ne = omega arith
        near (no l) ne = absurd (ne (omega arith))

down_distinct : (n : ℕ) → Distinct (down n)
unfolding down
down_distinct zero = tt
down_distinct (suc n) = ((λ m. let h = down_range n (suc n) m in omega arith), down_distinct n)

-- the two ways are one
pub filled_once : (xs : List ℕ) → Filled xs → Once xs
filled_once xs h = record { apart = p.0; low = λ n m. (down_range (length xs) n (p.1 n m)).0; high = λ n m. (down_range (length xs) n (p.1 n m)).1 }
  where
    p : Distinct xs × ((t : ℕ) → In t xs → In t (down (length xs)))
    p = pigeonhole xs (down (length xs)) (down_distinct (length xs)) (λ t m. let r = down_range (length xs) t m in h t r.0 r.1) (omega (arith, down_length (length xs)))

pub once_filled : (xs : List ℕ) → Once xs → Filled xs
once_filled xs h n a b = (pigeonhole (down (length xs)) xs h.apart (λ t m. down_has (length xs) t (h.low t m) (h.high t m)) (omega (arith, down_length (length xs)))).1 n (down_has (length xs) n a b)

pub once_scoped : (F : File) → Once (scopes_in F.root) → Scoped F
once_scoped F h = record { distinct = h.apart; positive = λ m. omega (arith, h.low 0 m) }

pub filled_scoped : (F : File) → Filled (scopes_in F.root) → Scoped F
filled_scoped F h = once_scoped F (filled_once (scopes_in F.root) h)

-- each function has one number: no more of them than nodes

pub scopes_nodes : (f : Forest) → length (scopes_in f) ≤ length (nodes_in f)
unfolding scopes_in
scopes_nodes f = omega (
  arith,
  listed-apart (λ k. is_fn (way k)) (λ k. false) (λ at k v kids. v) (λ at k v kids. at) (λ x. 1) (λ x. 0) (λ x. 1) (λ at k v kids. unfold when total in either (is_fn (way k)) (λ b. total (λ x. 1) (when b v) + 0 ≤ 1) (omega arith) (omega arith)) f,
  total_ones (listed (λ k. is_fn (way k)) (λ at k v kids. v) f),
  total_ones (nodes_in f),
)
