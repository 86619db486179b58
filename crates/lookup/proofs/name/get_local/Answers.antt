-- `get_local` meets its contract: captured, then brought to the current scope.
use Rattle.std.proofs.Common.{refl}
use Rattle.store.proofs.Laws.Full.{stopped}
use Rattle.lookup.proofs.Locals.{to-bring, local_full, local_refused, local_found}
use Rattle.lookup.proofs.name.get_local.Goals as goal
use Rattle.lookup.proofs.name.get_local.Goals.{then-ty, else-ty}

pub bring-requires : goal.bring-requires
bring-requires c = (record { binds = rw c.capture_local.auto.binds c.requires.0.binds }, to-bring c.capture_local.ensures c.requires.1)

pub returns-in_err-brought : goal.returns-in_err-brought
returns-in_err-brought c = rw (stopped c.in_err-brought.field-0.0 c.from_residual.ensures.0) (local_full c.capture_local.ensures c.in_err-brought.ensures)

pub returns : goal.returns
returns c =
    elim c.if-ty.branch [
      | then-ty w ↦ rw w.res-is (local_refused c.capture_local.ensures c.in_ok-brought.ensures w.if-ty.true)
      | else-ty w ↦ rw w.res-is (local_found c.capture_local.ensures c.in_ok-brought.ensures w.if-ty.false c.args.id refl)
    ]
