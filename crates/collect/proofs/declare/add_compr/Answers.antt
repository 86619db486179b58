-- `collect::declare::add_compr` meets its contract: the block (`collect_kids`), then its variables come into reach (`scope_in`).
use Rattle.std.proofs.Common.{arith}
use Rattle.collect.proofs.Comprs.{marks_loop, v_stop, v_pre, v_full, v_open, v_done}
use Rattle.collect.proofs.declare.add_compr.Goals as goal

pub returns-in_err-st : goal.returns-in_err-st
returns-in_err-st c = rw c.in_err-st.was (v_stop c.from_residual.ensures.0)

pub collect_kids-requires : goal.collect_kids-requires
collect_kids-requires c =
    let p = rw c.in_ok-st.was at c.requires in
    v_pre p c.scope_at_level.result c.scope_at_level.ensures.0

pub returns-in_err-s : goal.returns-in_err-s
returns-in_err-s c =
    let p = rw c.in_ok-st.was at c.requires in
    rw c.in_ok-st.was (v_full p c.scope_at_level.result c.scope_at_level.ensures.0 (marks_loop c.unmarked.ensures) c.in_err-s.ensures c.from_residual-in_err-s.ensures.0)

pub scope_in-requires : goal.scope_in-requires
scope_in-requires c =
    let p = rw c.in_ok-st.was at c.requires in
    (omega (arith, c.collect_kids.auto.binds, c.requires.long.binds), v_open p c.scope_at_level.result c.scope_at_level.ensures.0 (marks_loop c.unmarked.ensures) c.in_ok-s.ensures)

pub returns : goal.returns
returns c =
    let p = rw c.in_ok-st.was at c.requires in
    rw c.in_ok-st.was (v_done p c.scope_at_level.result c.scope_at_level.ensures.0 (marks_loop c.unmarked.ensures) c.in_ok-s.ensures c.scope_in.new.t c.scope_in.ensures)
