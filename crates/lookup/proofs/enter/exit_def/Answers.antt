-- `exit_def` meets its contract, by the steps of Functions.
use Rattle.lookup.proofs.Functions.{exit_done}
use Rattle.lookup.proofs.enter.exit_def.Goals as goal

pub returns : goal.returns
returns c = rw c.in_ok-st.was (exit_done c.first_of-lo.ensures.0 c.last_of-hi.ensures.0 c.unscope.ensures)
