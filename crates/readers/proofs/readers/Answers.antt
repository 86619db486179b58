-- `readers::readers` meets its contract, of any file and any buffers. Assumes nothing.
use Rattle.base.specs.Says.{says-true, says-false}
use Rattle.readers.proofs.Outcome.{refused_so, too_short, all_listed}
use Rattle.readers.proofs.readers.Goals as goal

pub returns-then-a-ne0 : goal.returns-then-a-ne0
returns-then-a-ne0 c = refused_so c.resolve-a.ensures c.if-a-ne0.true c.clear_lists.ensures

pub returns-then-few : goal.returns-then-few
returns-then-few c =
    let long = c.resolve-a.auto in
    too_short c.resolve-a.ensures c.if-a-ne0.false (says-true c.if-few.true c.short-few.ensures) c.clear_lists.ensures (record { nodes = long.nodes; bindings = long.bindings; entries = long.module; scopes = long.scopes; slots = long.slots; copies = long.copies; errors = long.errors }) c.clear.ensures c.refused.ensures

pub returns : goal.returns
returns c = all_listed c.resolve-a.ensures c.if-a-ne0.false (says-false c.if-few.false c.short-few.ensures) c.clear_lists.ensures c.group_both.ensures
