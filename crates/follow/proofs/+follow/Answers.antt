-- `follow::follow` meets its contract: the innermost scope first, then those around it. Assumes nothing.
use mathlib.Core.Path.{ap}
use Rattle.follow.specs.Place.{place_of}
use Rattle.follow.proofs.Copies.{follow-none, placed, onward}
use Rattle.follow.proofs.+follow.Goals as goal

pub returns-in_default : goal.returns-in_default
returns-in_default t c = ap place_of (follow-none c.args.copies.now c.args.around.now c.args.slot.0 c.in_default.ensures.cases)

pub returns-in-None : goal.returns-in-None
returns-in-None t c = placed c.args.copies.now c.args.around.now c.in-Some.outer.now c.in-Some.innermost.now c.args.slot.0 c.in-Some.ensures.cases.0 c.in-None.ensures

pub returns-in-Some-copied_from : goal.returns-in-Some-copied_from
returns-in-Some-copied_from t c =
    let p = c.in-Some-copied_from in
    onward c.args.copies.now c.args.around.now c.in-Some.outer.now c.in-Some.innermost.now c.args.slot.0 c.in-Some.ensures.cases.0 p.parent p.ensures c.follow.result c.follow.ensures
