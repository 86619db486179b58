-- The number of what was read is the number of all that the input held: what is longer is judged as its front is.
use Rattle.std.proofs.Common.{◌≡◌, ℕ, List, length, take, Option, None, Some, IfSome, inl, inr, arith, subst, lit<}
use Rattle.std.proofs.lemmas.List.{take_all}
use Rattle.std.proofs.lemmas.Bool.{cases_lt}
use Rattle.judge.specs.Cond.{Judged}
use Rattle.judge.specs.Theorems.{judged_front}
use Rattle.judged.proofs.answer.Goals as goal

whole : (xs : List ℕ) (r : ℕ) → Judged (take 65536 xs) r → Judged xs r
whole xs r h = elim (cases_lt 65536 (length xs)) [
  | inl longer ↦ judged_front xs 65536 r (lit< tt) (omega arith) h
  | inr fits ↦ subst (λ (ys : List ℕ). Judged ys r) (take_all 65536 xs fits) h
]

known : (held : Option (List ℕ)) (part : List ℕ) (r : ℕ) → IfSome held (λ xs. part ≡ take 65536 xs) → Judged part r → IfSome held (λ xs. Judged xs r)
known None part r front h = tt
known (Some xs) part r front h = whole xs r (subst (λ (ys : List ℕ). Judged ys r) front h)

pub returns : goal.returns
returns g c = known _ _ _ c.in_ok-n.ensures.front c.judge.ensures
