-- `listing::lists::put_copies` meets its contract: a line for each copy.
-- Assumes nothing.
use Rattle.std.proofs.Common.{rules}
use Rattle.listing.proofs.lists.put_copies.Goals as goal

pub returns : goal.returns
returns c = c.put_each.ensures _ (λ w k i r v h p. search rules)
