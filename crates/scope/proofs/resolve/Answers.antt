-- `scope::resolve` meets its contract, of any file and any buffers.
use Rattle.base.specs.Says.{says-false}
use Rattle.scope.proofs.Numbers.{judged, pre_accepted, resolves}
use Rattle.scope.proofs.resolve.Goals as goal

pub resolve_accepted-requires : goal.resolve_accepted-requires
resolve_accepted-requires c = pre_accepted c.clear.ensures (says-false c.if-few.false c.short-few.ensures) c.in-Ok.ensures

pub returns-in-Err : goal.returns-in-Err
returns-in-Err c = judged c.clear.ensures _ (says-false c.if-few.false c.short-few.ensures) c.in-Err.ensures c.refused-in-Err.ensures

pub returns-in-Ok : goal.returns-in-Ok
returns-in-Ok c = resolves c.clear.ensures (says-false c.if-few.false c.short-few.ensures) c.in-Ok.ensures c.resolve_accepted.ensures
