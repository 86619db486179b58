-- `listing::lists::put_idents` meets its contract: a line for each Ident with an outcome.
-- Assumes nothing.
use Rattle.std.proofs.Common.{rules}
use Rattle.listing.proofs.lists.put_idents.Goals as goal

pub returns : goal.returns
returns c = rw (← c.node_count-n.ensures.is) (c.put_each.ensures _ (λ w k i r v h p. search rules))
