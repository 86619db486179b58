-- `target::new_module` meets its contract (New, Module).
use Rattle.store.proofs.Laws.Full.{stopped}
use Rattle.target.proofs.New.{fresh_many}
use Rattle.target.proofs.Module.{module_done}
use Rattle.target.proofs.new_module.Goals as goal

pub returns-in_err-id : goal.returns-in_err-id
returns-in_err-id c = rw (stopped c.in_err-id.field-0.0 c.from_residual.ensures.0) (fresh_many c.in_err-id.ensures)

pub returns : goal.returns
returns c =
    let i = c.in_ok-id.ensures in
    rw i.0 (module_done (record { binds = c.requires.0.binds; w = c.told-w; t = c.told-t }) i.1 (rw i.0 at c.put_binding.ensures) (rw i.0 at c.put_answer.ensures) (rw i.0 at c.put_known.ensures))
