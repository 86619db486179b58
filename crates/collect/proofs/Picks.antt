-- How a kind is collected, by the kinds that code tells apart: gone through, or shut.
use Rattle.std.specs.Prelude.{ℕ, zero, suc, ◌+◌, ◌≤◌, ◌<◌, ◌≡◌, ◌⊎◌, refl}
use Rattle.std.proofs.Common.{subst, arith, inl, inr}
use Rattle.std.proofs.Math.Decide.{dec_lt}
use Rattle.lexical.specs.Tree.{through, shut, pick}

-- a law of the n numbers from a on, and of one of them
abbrev Each : (ℕ → Type 0) → ℕ → ℕ → Type 0
Each P zero a = Unit {0}
Each P (suc n) a = P a × Each P n (suc a)

each_at : (P : ℕ → Type 0) (n a : ℕ) → Each P n a → (k : ℕ) → a ≤ k → k < a + n → P k
each_at P zero a h k l m = absurd (omega arith)
each_at P (suc n) a h k l m =
    elim (dec_lt a k) [
      | yes z ↦ each_at P n (suc a) h.1 k (omega arith) (omega arith)
      | no z ↦ subst P (omega arith) h.0
    ]

-- statements without a mark of their own, Tuples and Places, clauses
pub through_kind : (k : ℕ) → (k ≤ 4) ⊎ ((9 ≤ k) × (k ≤ 10)) ⊎ ((15 ≤ k) × (k ≤ 16)) → pick k ≡ through
unfolding pick
through_kind k (inl h) = each_at (λ j. pick j ≡ through) 5 0 (refl, (refl, (refl, (refl, (refl, tt))))) k (omega arith) (omega arith)
through_kind k (inr (inl h)) = each_at (λ j. pick j ≡ through) 2 9 (refl, (refl, tt)) k (omega arith) (omega arith)
through_kind k (inr (inr h)) = each_at (λ j. pick j ≡ through) 2 15 (refl, (refl, tt)) k (omega arith) (omega arith)

-- expressions and Types
pub shut_kind : (k : ℕ) → ((11 ≤ k) × (k ≤ 14)) ⊎ (k ≡ 18) → pick k ≡ shut
unfolding pick
shut_kind k (inl h) = each_at (λ j. pick j ≡ shut) 4 11 (refl, (refl, (refl, (refl, tt)))) k (omega arith) (omega arith)
shut_kind k (inr e) = rw e refl
