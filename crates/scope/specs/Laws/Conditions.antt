-- The numbers that `resolve` gives back against those of judging: the buffers' first, then judging's, then the walks'.
use Rattle.std.specs.Prelude.{ℕ, ◌≡◌, refl, List, ◌++◌}
use Rattle.std.proofs.Common.{arith}
use Rattle.base.specs.First.{First, NoneHolds, here, none-at, none_first, first-none, first-front, first-after, none-front, none_after}
use Rattle.judge.specs.Cond.{judging, Judged}
use Rattle.answer.specs.Buffers.{Buffers, Short}
use Rattle.scope.specs.Answer.{ManySlots, buffer_rows, walk_rows, resolving}

module _ (bs : List ℕ) (b : Buffers) where
  pub first_short : Short b → First (resolving bs b) 1
  first_short s = first-front (buffer_rows b) (judging bs ++ walk_rows bs) (λ e. omega arith) (here s refl)

  module _ (long : Short b → ⊥) where
    after-buffers : (n : ℕ) → First (judging bs ++ walk_rows bs) n → First (resolving bs b) n
    after-buffers n f = first-after (buffer_rows b) (judging bs ++ walk_rows bs) n (long, tt) f

    pub first_judged : (n : ℕ) → (n ≡ 0 → ⊥) → Judged bs n → First (resolving bs b) n
    first_judged n z j = after-buffers n (first-front (judging bs) (walk_rows bs) z j)

    -- a file that judging accepts
    pub first-walked : (n : ℕ) → Judged bs 0 → First (walk_rows bs) n → First (resolving bs b) n
    first-walked n j f = after-buffers n (first-after (judging bs) (walk_rows bs) n (first-none (judging bs) 0 tt refl j) f)

  -- what an answer of 0 says
  pub zero-none : First (resolving bs b) 0 → NoneHolds (resolving bs b)
  zero-none f = first-none (resolving bs b) 0 tt refl f

  pub zero_judged : First (resolving bs b) 0 → Judged bs 0
  zero_judged f = none_first (judging bs) (none-front (judging bs) (walk_rows bs) (none_after (buffer_rows b) (judging bs ++ walk_rows bs) (zero-none f)))

  pub zero_few : First (resolving bs b) 0 → ManySlots bs → ⊥
  zero_few f = none-at (resolving bs b) (zero-none f) 12
