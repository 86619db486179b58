-- The functions of walk one that call one another meet their contracts: each cites a step (`Kids`, `Steps`) at what its callee ensures.
use Rattle.std.proofs.Common.{ℕ, rules, arith, ap, ◌∙◌, refl, length-take-le}
use Rattle.nodefile.specs.Kinds.{number}
use Rattle.collect.proofs.Rests.{some_left, none_left}
use Rattle.store.specs.Sections.{mem}
use Rattle.store.proofs.Laws.Lengths.{long_kept}
use Rattle.target.specs.Target.{marks_of}
use Rattle.collect.proofs.Picks.{through_kind, shut_kind}
use Rattle.collect.proofs.Collecting.{through_node, loop_node, load_node, param_node}
use Rattle.collect.proofs.Kids.{k_end, k_sizes, k_pre, k_more}
use Rattle.collect.proofs.Steps.{x_kind, x_shut, x_kids, x_name_pre, x_name, x_def_pre, x_def}
use Rattle.collect.proofs.walk.+targets.Goals as goal
use Rattle.collect.proofs.walk.+targets.Goals.{collect_defines-in-Some-For, collect_defines-in-Some-Load, collect_defines-in_default, collect_defines-in_default-2}

-- ---- the nodes of a part

pub collect_kids-slice_bounds-collect_node-end : goal.collect_kids-slice_bounds-collect_node-end
collect_kids-slice_bounds-collect_node-end t c =
    let z = k_sizes c.loop-rest.invariant (some_left _ c.is_empty.ensures c.loop-rest-test.true) c.size-k.result c.size-k.ensures.is c.requires.ghost in
    omega (arith, length-take-le {A = ℕ}, z)

pub collect_kids-collect_node-s-requires : goal.collect_kids-collect_node-s-requires
collect_kids-collect_node-s-requires t c =
    let d = c.loop-rest.invariant in
    let h = some_left _ c.is_empty.ensures c.loop-rest-test.true in
    let p = k_pre d h c.size-k.result c.size-k.ensures.is (long_kept c.requires.long (record { binds = c.loop-rest.auto.binds })) c.requires.within c.requires.ghost in
    (omega (arith, c.decreases, length-take-le {A = ℕ}, k_sizes d h c.size-k.result c.size-k.ensures.is c.requires.ghost), p)

pub collect_kids-slice_bounds-rest-count : goal.collect_kids-slice_bounds-rest-count
collect_kids-slice_bounds-rest-count t c =
    let z = k_sizes c.loop-rest.invariant (some_left _ c.is_empty.ensures c.loop-rest-test.true) c.size-k.result c.size-k.ensures.is c.requires.ghost in
    omega (arith, z)

pub collect_kids-slice_bounds-rest-start : goal.collect_kids-slice_bounds-rest-start
collect_kids-slice_bounds-rest-start t c =
    let z = k_sizes c.loop-rest.invariant (some_left _ c.is_empty.ensures c.loop-rest-test.true) c.size-k.result c.size-k.ensures.is c.requires.ghost in
    omega (arith, z)

pub collect_kids-loop-rest-smaller : goal.collect_kids-loop-rest-smaller
collect_kids-loop-rest-smaller t c =
    let z = k_sizes c.loop-rest.invariant (some_left _ c.is_empty.ensures c.loop-rest-test.true) c.size-k.result c.size-k.ensures.is c.requires.ghost in
    omega (arith, z)

pub collect_kids-loop-rest-preserved : goal.collect_kids-loop-rest-preserved
collect_kids-loop-rest-preserved t c =
    let k = c.collect_node-s in
    k_more c.loop-rest.invariant (some_left _ c.is_empty.ensures c.loop-rest-test.true) c.size-k.result c.size-k.ensures.is {m' = mem k.new.binds k.new.w k.new.t} c.requires.ghost k.ensures

pub collect_kids-returns : goal.collect_kids-returns
collect_kids-returns t c = k_end c.loop-rest.invariant (none_left _ c.is_empty.ensures c.loop-rest-test.false)

-- ---- one node: of an expression and of a Type it gives nothing

pub collect_node-returns-in_default : goal.collect_node-returns-in_default
collect_node-returns-in_default t c = x_shut c.requires c.args.marks (shut_kind _ (search rules))

pub collect_node-returns-in_default-2 : goal.collect_node-returns-in_default-2
collect_node-returns-in_default-2 t c = absurd (search (rules, x_kind c.requires))

-- ---- a statement

pub collect_defines-collect_assign_ident-requires : goal.collect_defines-collect_assign_ident-requires
collect_defines-collect_assign_ident-requires t c =
    x_def_pre c.requires.one c.value-name.result c.value-name.ensures.is (c.in-Some-Def.ensures ∙ ap number c.in-Some-Def.field-0-is)

pub collect_defines-returns-in-Some-Def : goal.collect_defines-returns-in-Some-Def
collect_defines-returns-in-Some-Def t c =
    let k = c.collect_assign_ident in
    x_def c.requires.one c.value-name.result c.value-name.ensures.is (c.in-Some-Def.ensures ∙ ap number c.in-Some-Def.field-0-is) {m' = mem k.new.binds k.new.w k.new.t} k.ensures

pub collect_defines-returns : goal.collect_defines-returns
collect_defines-returns t c =
    let k = c.collect_kids in
    let m = marks_of c.args.marks in
    elim c.match-of.branch [
      | collect_defines-in-Some-For w ↦ x_kids c.requires.one {m' = mem k.new.binds k.new.w k.new.t} w.inner-is (λ N kids. loop_node N m _ _ _ kids (w.in-Some-For.ensures ∙ ap number w.in-Some-For.field-0-is)) k.ensures
      | collect_defines-in-Some-Load w ↦ x_kids c.requires.one {m' = mem k.new.binds k.new.w k.new.t} w.inner-is (λ N kids. load_node N m _ _ _ kids (w.in-Some-Load.ensures ∙ ap number w.in-Some-Load.field-0-is)) k.ensures
      | collect_defines-in_default w ↦ x_kids c.requires.one {m' = mem k.new.binds k.new.w k.new.t} w.inner-is (λ N kids. through_node N m _ _ _ kids (through_kind _ (search (rules, c.requires.high)))) k.ensures
      | collect_defines-in_default-2 w ↦ absurd (search (rules, c.requires.high))
    ]

-- ---- a target

pub collect_defines_lvalue-collect_assign_ident-requires : goal.collect_defines_lvalue-collect_assign_ident-requires
collect_defines_lvalue-collect_assign_ident-requires t c =
    x_name_pre c.requires.one c.value-name.result c.value-name.ensures.is (search rules)

pub collect_defines_lvalue-returns-then-eq : goal.collect_defines_lvalue-returns-then-eq
collect_defines_lvalue-returns-then-eq t c =
    x_name c.requires.one c.value-name.result c.value-name.ensures.is (search rules) c.collect_assign_ident.ensures

pub collect_defines_lvalue-returns : goal.collect_defines_lvalue-returns
collect_defines_lvalue-returns t c =
    let k = c.collect_kids in
    x_kids c.requires.one {m' = mem k.new.binds k.new.w k.new.t} refl (λ N kids. through_node N (marks_of c.args.marks) _ _ _ kids (through_kind _ (search (rules, c.requires.low, c.requires.high)))) k.ensures

-- ---- a clause

pub collect_defines_clause-returns : goal.collect_defines_clause-returns
collect_defines_clause-returns t c =
    let k = c.collect_kids in
    x_kids c.requires.one {m' = mem k.new.binds k.new.w k.new.t} refl (λ N kids. through_node N (marks_of c.args.marks) _ _ _ kids (through_kind _ (search (rules, c.requires.low, c.requires.high)))) k.ensures

-- ---- a parameter

pub collect_defines_param-returns : goal.collect_defines_param-returns
collect_defines_param-returns t c =
    let k = c.collect_kids in
    x_kids c.requires.one {m' = mem k.new.binds k.new.w k.new.t} refl (λ N kids. param_node N (marks_of c.args.marks) _ _ _ kids (omega (arith, c.requires.low, c.requires.high))) k.ensures
