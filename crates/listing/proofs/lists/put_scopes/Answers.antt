-- `listing::lists::put_scopes` meets its contract: a line for each scope.
-- Assumes nothing.
use Rattle.std.proofs.Common.{rules, get_or, add-one}
use Rattle.lines.specs.Lines.{scope_line}
use Rattle.listing.proofs.lists.put_scopes.Goals as goal

pub returns : goal.returns
returns c =
    let as_text = c.put_each.ensures (λ s. scope_line c.args.file.now c.args.slots.now s (get_or c.args.scopes.now s 0)) (λ w k i r v h p. search rules) in
    rw (c.scope_count-n.ensures.is, add-one) at as_text
