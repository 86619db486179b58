-- `target::collect_assign_ident` meets its contract (Ways).
use native.Mathlib.Omega.{arith}
use Rattle.store.proofs.Laws.Full.{stopped}
use Rattle.target.proofs.Ways.{met-again, met-local, met-module, target-full, target-again, target_local, target_module}
use Rattle.target.proofs.collect_assign_ident.Goals as goal

pub returns-in_err-st : goal.returns-in_err-st
returns-in_err-st c = rw (c.in_err-st.was, stopped c.in_err-st.field-0.0 c.from_residual.ensures.0) target-full

pub bind_again-requires : goal.bind_again-requires
bind_again-requires c = let k = c.known-known in let p = rw c.in_ok-st.was at c.requires in (p.long.binds, met-again k.result k.ensures.0 p.ghost (omega arith))

pub returns-then-known-block : goal.returns-then-known-block
returns-then-known-block c = rw c.in_ok-st.was (target-again c.known-known.result c.known-known.ensures.0 c.visibility-public.ensures (omega arith) c.bind_again.ensures.0 c.bind_again.ensures.1)

pub new_local-requires : goal.new_local-requires
new_local-requires c = let k = c.known-known in let p = rw c.in_ok-st.was at c.requires in (p.long, met-local k.result k.ensures.0 p.ghost (omega arith) c.if-block.true)

pub returns-then-block : goal.returns-then-block
returns-then-block c = rw c.in_ok-st.was (target_local c.known-known.result c.known-known.ensures.0 c.visibility-public.ensures (omega arith) c.if-block.true c.new_local.ensures)

pub new_module-requires : goal.new_module-requires
new_module-requires c = let k = c.known-known in let p = rw c.in_ok-st.was at c.requires in (p.long, met-module k.result k.ensures.0 p.ghost (omega arith) c.if-block.false)

pub returns : goal.returns
returns c = rw c.in_ok-st.was (target_module c.known-known.result c.known-known.ensures.0 c.visibility-public.ensures (omega arith) c.if-block.false c.new_module.ensures)
