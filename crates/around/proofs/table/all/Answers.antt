-- `around::table::all` meets its contract: all zeros, and then all nodes.
use Rattle.std.specs.Prelude.{◌≡◌, length, replicate}
use Rattle.std.proofs.Common.{ap, ◌∙◌, arith, rules}
use Rattle.around.specs.Scopes.{counted}
use Rattle.around.specs.Outer.{outer_in, levels, stored}
use Rattle.around.proofs.table.all.Goals as goal

pub returns : goal.returns
returns c =
    let a = c.args in
    let ns = a.ns.now in
    let z : c.fill.new.self ≡ replicate (length a.out.now) 0 = search rules in
    c.within.ensures (counted ns) (omega arith)
    ∙ ap (stored (outer_in (counted ns) levels ns 0 (counted ns) 0 0)) z
