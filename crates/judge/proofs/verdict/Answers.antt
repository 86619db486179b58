-- The groups of numbers, one after the other.
use Rattle.std.proofs.Common.{rules, ◌≡◌, Err}
use Rattle.judge.proofs.Groups.{by_header, by_names, by_shape, shaped, by_scopes}
use Rattle.judge.proofs.verdict.Goals as goal

pub returns-in_err-judge_header : goal.returns-in_err-judge_header
returns-in_err-judge_header c =
    let e : c.from_residual.result ≡ Err c.in_err-judge_header.field-0.0 = search rules in
    by_header e c.in_err-judge_header.ensures

pub returns-in_err-judge_names : goal.returns-in_err-judge_names
returns-in_err-judge_names c =
    let e : c.from_residual-in_err-judge_names.result ≡ Err c.in_err-judge_names.field-0.0 = search rules in
    by_names c.in_ok-judge_header.ensures e c.in_err-judge_names.ensures

pub returns-in_err-judge_shape : goal.returns-in_err-judge_shape
returns-in_err-judge_shape c =
    let e : c.from_residual-in_err-judge_shape.result ≡ Err c.in_err-judge_shape.field-0.0 = search rules in
    by_shape c.in_ok-judge_header.ensures c.in_ok-judge_names.ensures e c.in_err-judge_shape.ensures

pub judge_scopes-requires : goal.judge_scopes-requires
judge_scopes-requires c = shaped c.in_ok-judge_header.ensures c.in_ok-judge_names.ensures c.in_ok-judge_shape.ensures

pub returns : goal.returns
returns c = by_scopes c.in_ok-judge_header.ensures c.in_ok-judge_names.ensures c.in_ok-judge_shape.ensures c.judge_scopes.ensures
