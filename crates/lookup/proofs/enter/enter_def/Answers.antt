-- `enter_def` meets its contract, by the steps of Functions.
use Rattle.lookup.proofs.Functions.{to-open, enter-done}
use Rattle.lookup.proofs.enter.enter_def.Goals as goal

pub scope_in-requires : goal.scope_in-requires
scope_in-requires c = (c.requires.0, to-open c.told-t c.first_of-lo.ensures.0 c.last_of-hi.ensures.0 c.put_scope.ensures (rw c.in_ok-st.was at c.requires.1))

pub returns : goal.returns
returns c = rw c.in_ok-st.was (enter-done c.told-t c.first_of-lo.ensures.0 c.last_of-hi.ensures.0 c.put_scope.ensures c.scope_in.ensures)
