-- The functions of walk three that call one another meet their contracts: each cites a step (`Steps`, `Leaves`, `Cuts`, `Functions`, `Comprs`) at what its callee ensures.
use Rattle.std.proofs.Common.{◌≡◌, ◌*◌, take, refl, sym, ◌∙◌, arith, rules}
use Rattle.store.specs.Sections.{mem}
use Rattle.nodefile.specs.Node.{kind_of}
use Rattle.nodefile.proofs.Laws.Parts.{kind_take}
use Rattle.idents.proofs.Steps.{some_left, none_left, kind_is, k_end, k_node, k_length, k_pre, k_more, k_into, x_long, x_kind, x_kids_length, x_kids_pre, x_others, x_type, x_ident_pre, x_ident}
use Rattle.idents.proofs.Leaves.{x_leaf}
use Rattle.idents.proofs.Cuts.{for_clause, clause_some, f_inside, f_front-length, f_back-length, c_rest_pre, c_first_pre, c_done}
use Rattle.idents.proofs.Functions.{d_last_pre, d_inside, d_front-length, d_back-length, d_front_pre, d_enter_pre, d_body_pre, d_leave_pre, d_done}
use Rattle.idents.proofs.Comprs.{q_some, q_first_pre, q_compr_pre, q_rest_pre, q_full_first, q_full_block, q_full, q_close_pre, q_done}
use Rattle.idents.proofs.+resolve.Goals as goal

-- ---- the nodes of a part

pub each-slice_bounds-here-end : goal.each-slice_bounds-here-end
each-slice_bounds-here-end t c = sym (k_length c.loop-rest.invariant (some_left _ c.is_empty.ensures c.loop-rest-test.true) c.size-k.result c.size-k.ensures.is c.requires.ghost)

pub each-slice_bounds-rest-count : goal.each-slice_bounds-rest-count
each-slice_bounds-rest-count t c =
    let f = k_node c.loop-rest.invariant (some_left _ c.is_empty.ensures c.loop-rest-test.true) c.requires.ghost in
    omega (arith, f, c.size-k.ensures.is)

pub each-slice_bounds-rest-start : goal.each-slice_bounds-rest-start
each-slice_bounds-rest-start t c =
    let f = k_node c.loop-rest.invariant (some_left _ c.is_empty.ensures c.loop-rest-test.true) c.requires.ghost in
    omega (arith, f, c.size-k.ensures.is)

pub each-slice_bounds-rest-count-else-eq : goal.each-slice_bounds-rest-count-else-eq
each-slice_bounds-rest-count-else-eq t c =
    let f = k_node c.loop-rest.invariant (some_left _ c.is_empty.ensures c.loop-rest-test.true) c.requires.ghost in
    omega (arith, f, c.size-k.ensures.is)

pub each-slice_bounds-rest-start-else-eq : goal.each-slice_bounds-rest-start-else-eq
each-slice_bounds-rest-start-else-eq t c =
    let f = k_node c.loop-rest.invariant (some_left _ c.is_empty.ensures c.loop-rest-test.true) c.requires.ghost in
    omega (arith, f, c.size-k.ensures.is)

pub each-loop-rest-smaller-then-eq-2 : goal.each-loop-rest-smaller-then-eq-2
each-loop-rest-smaller-then-eq-2 t c =
    let f = k_node c.loop-rest.invariant (some_left _ c.is_empty.ensures c.loop-rest-test.true) c.requires.ghost in
    omega (arith, f, c.size-k.ensures.is)

pub each-loop-rest-smaller : goal.each-loop-rest-smaller
each-loop-rest-smaller t c =
    let f = k_node c.loop-rest.invariant (some_left _ c.is_empty.ensures c.loop-rest-test.true) c.requires.ghost in
    omega (arith, f, c.size-k.ensures.is)

pub each-loop-rest-preserved-then-eq : goal.each-loop-rest-preserved-then-eq
each-loop-rest-preserved-then-eq t c =
    let h = some_left _ c.is_empty.ensures c.loop-rest-test.true in
    let f = k_node c.loop-rest.invariant h c.requires.ghost in
    let e : kind_of (take (8 * c.size-k.result) c.loop-rest.rest.now) ≡ 14 = search rules in
    k_into c.loop-rest.invariant h (sym (kind_take c.loop-rest.rest.now (8 * c.size-k.result) (omega (arith, f, c.size-k.ensures.is))) ∙ e) c.requires.ghost

pub each-resolve_node-s-requires : goal.each-resolve_node-s-requires
each-resolve_node-s-requires t c =
    let d = c.loop-rest.invariant in
    let h = some_left _ c.is_empty.ensures c.loop-rest-test.true in
    let g = c.requires.ghost in
    let k = c.size-k in
    (omega (arith, c.decreases, k_node d h g, k_length d h k.result k.ensures.is g), k_pre d h k.result k.ensures.is c.requires.within g)

pub each-loop-rest-preserved-then-k-gt1 : goal.each-loop-rest-preserved-then-k-gt1
each-loop-rest-preserved-then-k-gt1 t c =
    let x = c.resolve_node-s in
    k_more c.loop-rest.invariant (some_left _ c.is_empty.ensures c.loop-rest-test.true) c.size-k.result c.size-k.ensures.is {m' = mem x.new.binds x.new.w x.new.t} c.requires.ghost x.ensures (record { binds = x.auto.binds })

pub each-resolve_ident-s-requires : goal.each-resolve_ident-s-requires
each-resolve_ident-s-requires t c =
    let p = k_pre c.loop-rest.invariant (some_left _ c.is_empty.ensures c.loop-rest-test.true) c.size-k.result c.size-k.ensures.is c.requires.within c.requires.ghost in
    x_ident_pre p c.value-name.result c.value-name.ensures.is (search rules)

pub each-loop-rest-preserved-then-eq-2 : goal.each-loop-rest-preserved-then-eq-2
each-loop-rest-preserved-then-eq-2 t c =
    let d = c.loop-rest.invariant in
    let h = some_left _ c.is_empty.ensures c.loop-rest-test.true in
    let g = c.requires.ghost in
    let k = c.size-k in
    let x = c.resolve_ident-s in
    let p = k_pre d h k.result k.ensures.is c.requires.within g in
    k_more d h k.result k.ensures.is {m' = mem x.new.binds x.new.w x.new.t} g
    (x_ident p c.value-name.result c.value-name.ensures.is (search rules) {m' = mem x.new.binds x.new.w x.new.t} x.ensures)
    (record { binds = x.auto.binds })

pub each-loop-rest-preserved : goal.each-loop-rest-preserved
each-loop-rest-preserved t c =
    let d = c.loop-rest.invariant in
    let h = some_left _ c.is_empty.ensures c.loop-rest-test.true in
    let g = c.requires.ghost in
    let k = c.size-k in
    let p = k_pre d h k.result k.ensures.is c.requires.within g in
    k_more d h k.result k.ensures.is {m' = mem c.loop-rest.binds c.loop-rest.w c.loop-rest.t} g
    (x_leaf p (omega (arith, k_length d h k.result k.ensures.is g, p.whole, c.if-k-gt1.false)) (λ q. search (rules, q)) c.args.ty)
    (record { binds = refl })

pub each-returns : goal.each-returns
each-returns t c = k_end c.loop-rest.invariant (omega (arith, none_left _ c.is_empty.ensures c.loop-rest-test.false))

-- ---- a target

pub idents_in_assign-each-requires : goal.idents_in_assign-each-requires
idents_in_assign-each-requires t c =
    let p = c.requires.one in
    (omega (arith, c.decreases, x_kids_length p, x_long p), x_kids_pre p)

pub idents_in_assign-returns : goal.idents_in_assign-returns
idents_in_assign-returns t c = x_others c.requires.one (omega (arith, c.requires.high, c.requires.low)) c.each.ensures

-- ---- a clause

pub idents_in_clause-each-requires : goal.idents_in_clause-each-requires
idents_in_clause-each-requires t c =
    let p = c.requires.one in
    (omega (arith, c.decreases, x_kids_length p, x_long p), x_kids_pre p)

pub idents_in_clause-returns-then-eq : goal.idents_in_clause-returns-then-eq
idents_in_clause-returns-then-eq t c =
    let k : kind_of c.args.part.now ≡ 16 = search rules in
    x_others c.requires.one (omega (arith, k)) c.each.ensures

pub idents_in_clause-slice_bounds-resolve_node-end : goal.idents_in_clause-slice_bounds-resolve_node-end
idents_in_clause-slice_bounds-resolve_node-end t c =
    let p = c.requires.one in
    let some = clause_some c.requires (λ q. search (rules, q)) in
    sym (f_front-length p some _ c.size.ensures.is)

pub idents_in_clause-slice_bounds-each-count : goal.idents_in_clause-slice_bounds-each-count
idents_in_clause-slice_bounds-each-count t c =
    let p = c.requires.one in
    let some = clause_some c.requires (λ q. search (rules, q)) in
    omega (arith, f_inside p some _ c.size.ensures.is)

pub idents_in_clause-slice_bounds-each-start : goal.idents_in_clause-slice_bounds-each-start
idents_in_clause-slice_bounds-each-start t c =
    let p = c.requires.one in
    let some = clause_some c.requires (λ q. search (rules, q)) in
    omega (arith, f_inside p some _ c.size.ensures.is)

pub idents_in_clause-each-s-requires : goal.idents_in_clause-each-s-requires
idents_in_clause-each-s-requires t c =
    let p = c.requires.one in
    let some = clause_some c.requires (λ q. search (rules, q)) in
    (omega (arith, c.decreases, f_inside p some _ c.size.ensures.is, f_back-length p some _ c.size.ensures.is), c_rest_pre p some _ c.size.ensures.is)

pub idents_in_clause-resolve_node-requires : goal.idents_in_clause-resolve_node-requires
idents_in_clause-resolve_node-requires t c =
    let p = c.requires.one in
    let some = clause_some c.requires (λ q. search (rules, q)) in
    let x = c.each-s in
    (omega (arith, c.decreases, f_inside p some _ c.size.ensures.is, f_front-length p some _ c.size.ensures.is), c_first_pre p some _ c.size.ensures.is x.ensures (record { binds = x.auto.binds }))

pub idents_in_clause-returns : goal.idents_in_clause-returns
idents_in_clause-returns t c =
    let p = c.requires.one in
    let n : kind_of c.args.part.now ≡ 16 → ⊥ = λ q. search (rules, q) in
    c_done p (clause_some c.requires n) _ c.size.ensures.is c.each-s.ensures (for_clause c.requires n) c.resolve_node.ensures

-- ---- a comprehension

pub idents_in_compr-slice_bounds-resolve_node-end : goal.idents_in_compr-slice_bounds-resolve_node-end
idents_in_compr-slice_bounds-resolve_node-end t c = sym (f_front-length c.requires.one (q_some c.requires) _ c.size.ensures.is)

pub idents_in_compr-slice_bounds-each-count : goal.idents_in_compr-slice_bounds-each-count
idents_in_compr-slice_bounds-each-count t c =
    let p = c.requires.one in
    omega (arith, f_inside p (q_some c.requires) _ c.size.ensures.is)

pub idents_in_compr-slice_bounds-each-start : goal.idents_in_compr-slice_bounds-each-start
idents_in_compr-slice_bounds-each-start t c =
    let p = c.requires.one in
    omega (arith, f_inside p (q_some c.requires) _ c.size.ensures.is)

pub idents_in_compr-resolve_node-requires : goal.idents_in_compr-resolve_node-requires
idents_in_compr-resolve_node-requires t c =
    let p = c.requires.one in
    let some = q_some c.requires in
    (omega (arith, c.decreases, f_inside p some _ c.size.ensures.is, f_front-length p some _ c.size.ensures.is), q_first_pre c.requires _ c.size.ensures.is)

pub idents_in_compr-returns-in_err-s : goal.idents_in_compr-returns-in_err-s
idents_in_compr-returns-in_err-s t c = q_full_first c.requires _ c.size.ensures.is c.in_err-s.ensures _ c.from_residual.ensures.0

pub idents_in_compr-add_compr-requires : goal.idents_in_compr-add_compr-requires
idents_in_compr-add_compr-requires t c = q_compr_pre c.requires _ c.size.ensures.is c.in_ok-s.ensures (record { binds = c.resolve_node.auto.binds })

pub idents_in_compr-returns-in_err-r : goal.idents_in_compr-returns-in_err-r
idents_in_compr-returns-in_err-r t c = q_full_block c.requires _ c.size.ensures.is c.in_ok-s.ensures c.in_err-r.ensures _ c.from_residual-in_err-r.ensures.0

pub idents_in_compr-each-requires : goal.idents_in_compr-each-requires
idents_in_compr-each-requires t c =
    let p = c.requires.one in
    let some = q_some c.requires in
    (omega (arith, c.decreases, f_inside p some _ c.size.ensures.is, f_back-length p some _ c.size.ensures.is), q_rest_pre c.requires _ c.size.ensures.is {m₁ = mem c.resolve_node.new.binds c.resolve_node.new.w c.resolve_node.new.t} c.in_ok-s.ensures {m₂ = mem c.add_compr.new.binds c.add_compr.new.w c.add_compr.new.t} c.in_ok-r.ensures (record { binds = c.resolve_node.auto.binds }) (record { binds = c.add_compr.auto.binds }))

pub idents_in_compr-returns-in_err-q : goal.idents_in_compr-returns-in_err-q
idents_in_compr-returns-in_err-q t c = q_full c.requires _ c.size.ensures.is c.in_ok-s.ensures c.in_ok-r.ensures c.in_err-q.ensures _ c.from_residual-in_err-q.ensures.0

pub idents_in_compr-unscope-requires : goal.idents_in_compr-unscope-requires
idents_in_compr-unscope-requires t c = q_close_pre c.requires _ c.size.ensures.is c.in_ok-s.ensures c.in_ok-r.ensures c.in_ok-q.ensures (record { binds = c.resolve_node.auto.binds }) (record { binds = c.add_compr.auto.binds }) (record { binds = c.each.auto.binds })

pub idents_in_compr-returns : goal.idents_in_compr-returns
idents_in_compr-returns t c = q_done c.requires _ c.size.ensures.is c.in_ok-s.ensures c.in_ok-r.ensures c.in_ok-q.ensures c.unscope.ensures

-- ---- a Def or a Lambda

pub idents_in_def-last-b-requires : goal.idents_in_def-last-b-requires
idents_in_def-last-b-requires t c = d_last_pre c.requires

pub idents_in_def-slice_bounds-each-end : goal.idents_in_def-slice_bounds-each-end
idents_in_def-slice_bounds-each-end t c = sym (d_front-length c.requires c.last-b.result c.last-b.ensures)

pub idents_in_def-slice_bounds-resolve_node-count : goal.idents_in_def-slice_bounds-resolve_node-count
idents_in_def-slice_bounds-resolve_node-count t c = omega (arith, d_inside c.requires c.last-b.result c.last-b.ensures, x_kids_length c.requires.one)

pub idents_in_def-slice_bounds-resolve_node-start : goal.idents_in_def-slice_bounds-resolve_node-start
idents_in_def-slice_bounds-resolve_node-start t c = omega (arith, d_inside c.requires c.last-b.result c.last-b.ensures, x_kids_length c.requires.one)

pub idents_in_def-each-s-requires : goal.idents_in_def-each-s-requires
idents_in_def-each-s-requires t c =
    let p = c.requires in
    let b = c.last-b in
    (omega (arith, c.decreases, d_inside p b.result b.ensures, d_front-length p b.result b.ensures), d_front_pre p b.result b.ensures)

pub idents_in_def-enter_def-inside-requires : goal.idents_in_def-enter_def-inside-requires
idents_in_def-enter_def-inside-requires t c =
    let x = c.each-s in
    d_enter_pre c.requires c.last-b.result c.last-b.ensures c.value-scope.result c.value-scope.ensures.is {m₁ = mem x.new.binds x.new.w x.new.t} x.ensures (record { binds = x.auto.binds })

pub idents_in_def-resolve_node-r-requires : goal.idents_in_def-resolve_node-r-requires
idents_in_def-resolve_node-r-requires t c =
    let p = c.requires in
    let b = c.last-b in
    let x = c.each-s in (
      omega (arith, c.decreases, d_inside p b.result b.ensures, d_back-length p b.result b.ensures),
      d_body_pre p b.result b.ensures c.value-scope.result c.value-scope.ensures.is {m₁ = mem x.new.binds x.new.w x.new.t} x.ensures c.enter_def-inside.ensures (record { binds = x.auto.binds }),
    )

pub idents_in_def-exit_def-requires : goal.idents_in_def-exit_def-requires
idents_in_def-exit_def-requires t c =
    let x = c.each-s in
    let z = c.resolve_node-r in
    d_leave_pre c.requires c.last-b.result c.last-b.ensures c.value-scope.result c.value-scope.ensures.is {m₁ = mem x.new.binds x.new.w x.new.t} x.ensures
    c.enter_def-inside.ensures {m₃ = mem z.new.binds z.new.w z.new.t} z.ensures (record { binds = x.auto.binds }) (record { binds = z.auto.binds })

pub idents_in_def-returns : goal.idents_in_def-returns
idents_in_def-returns t c =
    let x = c.each-s in
    let z = c.resolve_node-r in
    d_done c.requires c.last-b.result c.last-b.ensures c.value-scope.result c.value-scope.ensures.is {m₁ = mem x.new.binds x.new.w x.new.t} x.ensures
    c.enter_def-inside.ensures {m₃ = mem z.new.binds z.new.w z.new.t} z.ensures c.exit_def.ensures

-- ---- an expression

pub idents_in_expr-resolve_ident-requires : goal.idents_in_expr-resolve_ident-requires
idents_in_expr-resolve_ident-requires t c = x_ident_pre c.requires.one c.value-name.result c.value-name.ensures.is (search rules)

pub idents_in_expr-returns-in-Some-Ident : goal.idents_in_expr-returns-in-Some-Ident
idents_in_expr-returns-in-Some-Ident t c =
    let x = c.resolve_ident in
    x_ident c.requires.one c.value-name.result c.value-name.ensures.is (search rules) {m' = mem x.new.binds x.new.w x.new.t} x.ensures

pub idents_in_expr-each-requires : goal.idents_in_expr-each-requires
idents_in_expr-each-requires t c =
    let p = c.requires.one in
    (omega (arith, c.decreases, x_kids_length p, x_long p), x_kids_pre p)

pub idents_in_expr-returns-in_default : goal.idents_in_expr-returns-in_default
idents_in_expr-returns-in_default t c =
    let i : kind_of c.args.part.now ≡ 11 → ⊥ = λ q. search (rules, q) in
    let l : kind_of c.args.part.now ≡ 12 → ⊥ = λ q. search (rules, q) in
    let r : kind_of c.args.part.now ≡ 13 → ⊥ = λ q. search (rules, q) in
    x_others c.requires.one (omega (arith, c.requires.low, c.requires.high, i, l, r)) c.each.ensures

-- ---- a parameter, a type, a statement

pub idents_in_param-each-requires : goal.idents_in_param-each-requires
idents_in_param-each-requires t c =
    let p = c.requires.one in
    (omega (arith, c.decreases, x_kids_length p, x_long p), x_kids_pre p)

pub idents_in_param-returns : goal.idents_in_param-returns
idents_in_param-returns t c = x_others c.requires.one (omega (arith, c.requires.high, c.requires.low)) c.each.ensures

pub idents_in_type_expr-each-requires : goal.idents_in_type_expr-each-requires
idents_in_type_expr-each-requires t c =
    let p = c.requires.one in
    (omega (arith, c.decreases, x_kids_length p, x_long p), x_kids_pre p)

pub idents_in_type_expr-returns : goal.idents_in_type_expr-returns
idents_in_type_expr-returns t c = x_type c.requires.one (kind_is c.requires) c.each.ensures

pub resolve_idents-each-requires : goal.resolve_idents-each-requires
resolve_idents-each-requires t c =
    let p = c.requires.one in
    (omega (arith, c.decreases, x_kids_length p, x_long p), x_kids_pre p)

pub resolve_idents-returns : goal.resolve_idents-returns
resolve_idents-returns t c =
    let d : kind_of c.args.part.now ≡ 6 → ⊥ = λ q. search (rules, q) in
    x_others c.requires.one (omega (arith, c.requires.high, d)) c.each.ensures

-- ---- one node: of the last kind it is a type

pub resolve_node-idents_in_type_expr-requires : goal.resolve_node-idents_in_type_expr-requires
resolve_node-idents_in_type_expr-requires t c = (omega (arith, c.decreases), record { low = search rules; high = x_kind c.requires; one = c.requires })
