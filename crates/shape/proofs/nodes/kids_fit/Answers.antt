-- A part falls into nodes if what is left of it after each of them does.
use Rattle.std.proofs.Common.{◌≡◌, ℕ, Bool, true, false, eqb, sym, ◌∙◌, arith, eq-eqb, eqb-true, true≢false, length}
use Rattle.std.proofs.Math.Decide.{dec_lt}
use Rattle.base.specs.Says.{Says}
use Rattle.nodefile.proofs.Laws.Fitting.{fits_none, fits_first, fits_on, fits_back}
use Rattle.shape.proofs.nodes.kids_fit.Goals as goal

says_zero : (b : Bool) (n : ℕ) {P : Type 0} → b ≡ eqb n 0 → (n ≡ 0 → P) → (P → n ≡ 0) → Says b P
says_zero true n e f g = f (eqb-true n 0 (sym e))
says_zero false n e f g = λ p. true≢false (sym (eq-eqb n 0 (g p)) ∙ sym e)

pub loop-t-preserved : goal.loop-t-preserved
loop-t-preserved c =
    let loop' = c.loop-t in
    let size' = c.size in
    (λ f. loop'.invariant.0 (fits_back loop'.t.now size'.ensures.is (omega arith) (omega arith) f), λ f. fits_on loop'.t.now size'.ensures.is (omega arith) (loop'.invariant.1 f))

pub returns : goal.returns
returns c =
    let loop' = c.loop-t in
    says_zero _ _ c.is_empty.ensures (λ z. loop'.invariant.0 (fits_none _ z)) (λ f. elim (dec_lt 0 (length loop'.t.now)) [ yes h ↦ absurd (omega (arith, fits_first (loop'.invariant.1 f) h)) | no h ↦ omega arith ])
