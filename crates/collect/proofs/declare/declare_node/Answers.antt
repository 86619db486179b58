-- `collect::declare::declare_node` meets its contract: a Def, a Lambda, or nothing to declare.
use Rattle.std.proofs.Common.{rules, arith}
use Rattle.collect.proofs.Declared.{d_other, d_long, d_lambda_pre, d_lambda, d_def_long, d_def_pre, d_def}
use Rattle.collect.proofs.declare.declare_node.Goals as goal
use Rattle.collect.proofs.declare.declare_node.Goals.{in-Some-Def, in-Some-Lambda}

pub returns-in_default : goal.returns-in_default
returns-in_default c = d_other c.requires (λ e. search (rules, e)) (λ e. search (rules, e))

pub slice_bounds-collect_defines_in_def-count : goal.slice_bounds-collect_defines_in_def-count
slice_bounds-collect_defines_in_def-count c =
    elim c.match-of-2.branch [
      | in-Some-Def w ↦ omega (arith, d_def_long c.requires c.size.result c.size.ensures.is (search rules))
      | in-Some-Lambda w ↦ omega (arith, d_long c.requires c.size.result c.size.ensures.is)
    ]

pub slice_bounds-collect_defines_in_def-start : goal.slice_bounds-collect_defines_in_def-start
slice_bounds-collect_defines_in_def-start c =
    elim c.match-of-2.branch [
      | in-Some-Def w ↦ omega (arith, d_long c.requires c.size.result c.size.ensures.is, d_def_long c.requires c.size.result c.size.ensures.is (search rules))
      | in-Some-Lambda w ↦ omega (arith, d_long c.requires c.size.result c.size.ensures.is)
    ]

pub collect_defines_in_def-requires : goal.collect_defines_in_def-requires
collect_defines_in_def-requires c =
    elim c.match-of-2.branch [
      | in-Some-Def w ↦ rw w.before-is (d_def_pre c.requires c.size.result c.size.ensures.is c.value-scope.result c.value-scope.ensures.is (search rules))
      | in-Some-Lambda w ↦ rw w.before-is (d_lambda_pre c.requires c.size.result c.size.ensures.is c.value-scope.result c.value-scope.ensures.is (search rules))
    ]

pub returns : goal.returns
returns c =
    let d = c.collect_defines_in_def.ensures in
    elim c.match-of-2.branch [
      | in-Some-Def w ↦ d_def c.requires c.size.result c.size.ensures.is c.value-scope.result c.value-scope.ensures.is (search rules) (rw w.before-is at d)
      | in-Some-Lambda w ↦ d_lambda c.requires c.size.result c.size.ensures.is c.value-scope.result c.value-scope.ensures.is (search rules) (rw w.before-is at d)
    ]
