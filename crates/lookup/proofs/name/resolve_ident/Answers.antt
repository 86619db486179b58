-- `resolve_ident` meets its contract, by the steps of Idents.
use Rattle.store.proofs.Laws.Full.{stopped}
use Rattle.lookup.proofs.Idents.{ident_over, ident_stopped, to-keep, ident_done}
use Rattle.lookup.proofs.name.resolve_ident.Goals as goal

pub returns-in_err-st : goal.returns-in_err-st
returns-in_err-st c = rw (stopped c.in_err-st.field-0.0 c.from_residual.ensures.0, c.in_err-st.was) ident_over

pub returns-in_err-resolved : goal.returns-in_err-resolved
returns-in_err-resolved c = rw (stopped c.in_err-resolved.field-0.0 c.from_residual-in_err-resolved.ensures.0, c.in_ok-st.was) (ident_stopped c.in_err-resolved.ensures)

pub put_resolution-requires : goal.put_resolution-requires
put_resolution-requires c = to-keep c.in_ok-resolved.ensures (rw c.in_ok-st.was at c.requires.1)

pub returns : goal.returns
returns c = rw c.in_ok-st.was (ident_done c.in_ok-resolved.ensures c.put_resolution.ensures)
