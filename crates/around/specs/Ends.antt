-- Any bytes as a tree of nodes: a node ends where its size says, and never past its parent's end.
use Rattle.std.specs.Prelude.{ℕ, ◌+◌, ◌<◌, ◌≤◌, min, ◌≡◌, cond, eqb}
use Rattle.std.proofs.Common.{arith, eq-eqb, ne_eqb}
use Rattle.std.proofs.Math.Decide.{ℕ_discrete}

-- where a node of this size ends, which is node p and whose parent ends at e: with its parent, if it has no size or runs past it
unfoldable pub end_in : ℕ → ℕ → ℕ → ℕ
end_in size p e = cond (eqb size 0) e (min (p + size) e)

pub end_none : (size p e : ℕ) → size ≡ 0 → end_in size p e ≡ e
unfolding end_in
end_none size p e h = rw (eq-eqb size 0 h)

pub end_some : (size p e : ℕ) → (size ≡ 0 → ⊥) → end_in size p e ≡ min (p + size) e
unfolding end_in
end_some size p e h = rw (ne_eqb size 0 h)

-- it is past the node's start, and not past e
pub end_past : (size p e : ℕ) → p < e → (p < end_in size p e) × (end_in size p e ≤ e)
end_past size p e h =
    elim (ℕ_discrete size 0) [
      | yes z ↦ omega (arith, end_none size p e z)
      | no z ↦ omega (arith, end_some size p e z)
    ]
