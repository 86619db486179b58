-- `listing::lists::put_entries` meets its contract: a line for each entry.
-- Assumes nothing.
use Rattle.std.proofs.Common.{rules}
use Rattle.listing.proofs.lists.put_entries.Goals as goal

pub returns : goal.returns
returns c = c.put_each.ensures _ (λ w k i r v h p. search rules)
