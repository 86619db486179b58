-- A list filled from its front, element by element: what the loops of `out` do to a buffer.
--     filled_none, filled_more   before the first element, and one element more
--     filled_end                 the last
--     filled_all                 every element is the same number
use Rattle.std.specs.Prelude.{ℕ, ◌+◌, ◌<◌, ◌≤◌, ◌≡◌, refl, List, length, get_or, set, replicate}
use Rattle.std.proofs.Common.{sym, ◌∙◌, arith, length-set, get_or-set_same, get_or-set_other, ext_get_or}
use Rattle.std.proofs.Math.Decide.{ℕ_discrete}
use Rattle.std.proofs.lemmas.List.{length-replicate, get_or-replicate}

-- the first n elements are f 0, f 1, ..; those behind them are as before
pub record Filled (f : ℕ → ℕ) (n : ℕ) (old new : List ℕ) : Type 0 where
  pub long : length new ≡ length old
  pub front : (j : ℕ) → j < n → get_or new j 0 ≡ f j
  pub rest : (j : ℕ) → n ≤ j → get_or new j 0 ≡ get_or old j 0

pub filled_none : (f : ℕ → ℕ) (old : List ℕ) → Filled f 0 old old
filled_none f old = record { long = refl; front = λ j h. absurd (omega arith); rest = λ j h. refl }

pub filled_more : {f : ℕ → ℕ} {n : ℕ} {old new : List ℕ} {x : ℕ} → Filled f n old new → n < length new → x ≡ f n → Filled f (n + 1) old (set new n x)
filled_more {f} {n} {old} {new} {x} m h e = record {
  long = length-set new n x ∙ m.long;
  front = λ j l. elim (ℕ_discrete j n) [ yes z ↦ rw z (get_or-set_same new n x 0 h ∙ e) | no z ↦ get_or-set_other new n j x 0 z ∙ m.front j (omega arith) ];
  rest = λ j l. get_or-set_other new n j x 0 (omega arith) ∙ m.rest j (omega arith);
}

pub filled_end : {f : ℕ → ℕ} {n i : ℕ} {old new : List ℕ} → Filled f i old new → i ≡ n → Filled f n old new
filled_end m e = rw (← e) m

pub filled_all : {a n : ℕ} {old new : List ℕ} → Filled (λ _. a) n old new → length old ≤ n → new ≡ replicate (length old) a
filled_all {a} {n} {old} {new} m h = ext_get_or 0 new (replicate (length old) a) (m.long ∙ sym (length-replicate (length old) a))
    (λ j l. m.front j (omega (arith, m.long)) ∙ sym (get_or-replicate (length old) j a 0 (omega (arith, m.long))))
