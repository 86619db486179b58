-- `collect::declare::collect_defines_in_def` meets its contract: the parameters are counted, the block is collected, its stretch of the bindings kept.
use Rattle.collect.proofs.Functions.{f_stop, f_pre, f_full, f_first, f_last, f_done}
use Rattle.collect.proofs.declare.collect_defines_in_def.Goals as goal

pub returns-in_err-st : goal.returns-in_err-st
returns-in_err-st c = rw c.in_err-st.was (f_stop c.from_residual.ensures.0)

pub collect_kids-requires : goal.collect_kids-requires
collect_kids-requires c =
    let p = rw c.in_ok-st.was at c.requires in
    let n = c.param_count in
    f_pre p n.result n.ensures.0 n.ensures.1 c.told-w c.set_param_count.ensures

pub returns-in_err-s : goal.returns-in_err-s
returns-in_err-s c =
    let p = rw c.in_ok-st.was at c.requires in
    let n = c.param_count in
    rw c.in_ok-st.was (f_full p n.result n.ensures.0 n.ensures.1 c.told-w c.set_param_count.ensures c.unmarked.ensures c.in_err-s.ensures c.from_residual-in_err-s.ensures.0)

pub put_range-requires : goal.put_range-requires
put_range-requires c =
    let p = rw c.in_ok-st.was at c.requires in
    let n = c.param_count in (
      c.requires.ghost.small,
      f_first p n.result n.ensures.0 n.ensures.1 c.told-w c.set_param_count.ensures c.unmarked.ensures c.in_ok-s.ensures,
      f_last p n.result n.ensures.0 n.ensures.1 c.told-w c.set_param_count.ensures c.unmarked.ensures c.in_ok-s.ensures,
    )

pub returns : goal.returns
returns c =
    let p = rw c.in_ok-st.was at c.requires in
    let n = c.param_count in
    rw c.in_ok-st.was (f_done p n.result n.ensures.0 n.ensures.1 c.told-w c.set_param_count.ensures c.unmarked.ensures c.in_ok-s.ensures c.put_range.array_long c.put_range.ensures)
