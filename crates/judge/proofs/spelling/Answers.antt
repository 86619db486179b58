-- The spelling of a name.
use Rattle.std.proofs.Common.{ℕ, List, refl, sym, subst, ap₂, ◌∙◌, arith}
use Rattle.nodefile.specs.Lists.{spelled}
use Rattle.judge.specs.Cond.{Judged}
use Rattle.judge.specs.Spelling.{known, refused, no_such_name}
use Rattle.judge.proofs.Groups.{err_some, ok_none}
use Rattle.judge.proofs.spelling.Goals.{then-is_err-via-then-is_err, then-is_err-via-else-is_err+then-name-known}
use Rattle.judge.proofs.spelling.Goals as goal

pub returns-then-is_err : goal.returns-then-is_err
returns-then-is_err c = elim c.then-is_err.branch [
  | then-is_err-via-then-is_err w ↦ refused _ (err_some c.verdict.result (sym c.is_err.ensures.value ∙ w.if-is_err.true)) c.verdict.ensures refl
  | then-is_err-via-else-is_err+then-name-known w ↦ no_such_name (omega (arith, c.name_count-known.ensures.is)) refl
]

pub returns : goal.returns
returns c =
    known (subst (λ (r : ℕ). Judged c.args.file.now r) (ok_none c.verdict.result (sym c.is_err.ensures.value ∙ c.if-is_err.false)) c.verdict.ensures)
    (omega (arith, c.name_count-known.ensures.is))
    (c.spelled.ensures ∙ ap₂ (λ (nm pool : List ℕ). spelled nm pool c.args.name) c.names-names.ensures c.pool-pool.ensures)
