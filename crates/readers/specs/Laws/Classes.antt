-- The classes of a record: 0 to 3.
--     apart      none is a binding's and a global's
--     classed    each but 0 is one of the two
use Rattle.std.specs.Prelude.{ℕ, ◌<◌, ◌≡◌, refl, ◌⊎◌, true, false, get_or}
use Rattle.std.proofs.Common.{sym, ap, ◌∙◌, inl, inr, arith, eqb-true, eq-eqb}
use Rattle.std.proofs.Math.Decide.{ℕ_discrete}
use Rattle.answer.specs.Buffers.{Buffers}
use Rattle.answer.specs.Laws.{part_lt}
use Rattle.answer.specs.Records.{node_widths}
use Rattle.readers.specs.Keys.{of_binding, of_global}
use Rattle.readers.specs.Shown.{class_of}

-- a test that fails does not pass
pub other : {P : Type 0} → false ≡ true → P
other e = absurd (let z : ◌≡◌ {A = ℕ} 0 1 = cc in omega arith)

-- no record has two classes
pub apart : (c : ℕ) {P : Type 0} → of_binding c ≡ true → of_global c ≡ true → P
apart c e q = let h : c ≡ 3 = eqb-true _ _ q in other (ap of_binding (sym h) ∙ e)

-- a class is a binding's or a global's, or 0
pub classed : (b : Buffers) (x : ℕ) → (class_of b x ≡ 0 → ⊥) → (of_binding (class_of b x) ≡ true) ⊎ (of_global (class_of b x) ≡ true)
classed b x n = go (class_of b x) n (part_lt node_widths 0 (get_or b.nodes x 0))
  where
    go : (c : ℕ) → (c ≡ 0 → ⊥) → c < 4 → (of_binding c ≡ true) ⊎ (of_global c ≡ true)
    go c n h = elim (ℕ_discrete c 3) [
      | yes e ↦ inr (eq-eqb _ _ e)
      | no d ↦ elim (ℕ_discrete c 1) [ yes e ↦ inl (rw e refl) | no f ↦ let e : c ≡ 2 = omega arith in inl (rw e refl) ]
    ]
