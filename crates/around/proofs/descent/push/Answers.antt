-- `around::descent::push` meets its contract.
use Rattle.around.proofs.Fitted.{holds_more}
use Rattle.around.proofs.descent.push.Goals as goal

pub returns : goal.returns
returns c xs h = rw c.in-Some.is (holds_more h c.in-Some.scope c.put.new.out c.put.ensures)
