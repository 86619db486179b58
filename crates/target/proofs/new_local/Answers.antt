-- `target::new_local` meets its contract (New, Local).
use native.Mathlib.Omega.{arith}
use Rattle.store.proofs.Laws.Full.{stopped}
use Rattle.target.proofs.New.{fresh_many, fresh_slots}
use Rattle.target.proofs.Local.{slot_few, local_done}
use Rattle.target.proofs.new_local.Goals as goal

pub returns-in_err-id : goal.returns-in_err-id
returns-in_err-id c = rw (stopped c.in_err-id.field-0.0 c.from_residual.ensures.0) (fresh_many c.in_err-id.ensures)

pub returns-in_err-k : goal.returns-in_err-k
returns-in_err-k c = rw (stopped c.in_err-k.field-0.0 c.from_residual-in_err-k.ensures.0) (fresh_slots c.in_err-k.ensures)

pub put_binding-requires : goal.put_binding-requires
put_binding-requires c = let g = c.requires.1 in let i = c.in_ok-id.ensures in
    omega (arith, i.0, i.1, c.requires.0.binds, slot_few g c.fresh_slot-num.result c.in_ok-k.ensures.1 c.fresh_slot-num.ensures.0, g.small, g.node)

pub put_answer-requires : goal.put_answer-requires
put_answer-requires c = let g = c.requires.1 in let i = c.in_ok-id.ensures in
    omega (arith, i.0, i.1, slot_few g c.fresh_slot-num.result c.in_ok-k.ensures.1 c.fresh_slot-num.ensures.0, g.node)

pub link_slot-requires : goal.link_slot-requires
link_slot-requires c = let i = c.in_ok-id.ensures in let k = c.in_ok-k.ensures in
    (omega (arith, k.0, k.1), omega (arith, i.0, i.1), slot_few c.requires.1 c.fresh_slot-num.result k.1 c.fresh_slot-num.ensures.0)

pub returns : goal.returns
returns c =
    let n = c.fresh_slot-num in
    let i = c.in_ok-id.ensures in
    let k = c.in_ok-k.ensures in
    rw (i.0, k.0) (local_done n.result (record { binds = c.requires.0.binds; w = c.told-w; t = c.told-t }) i.1 k.1 n.ensures.0
    (rw i.0 at c.put_binding.ensures) (rw i.0 at c.put_answer.ensures) (rw k.0 at c.put_slot.ensures)
    (rw i.0 at c.put_known.ensures) (rw i.0 at c.put_owner.ensures) (rw (i.0, k.0) at c.link_slot.ensures))
