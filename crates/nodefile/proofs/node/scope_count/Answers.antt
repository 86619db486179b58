-- The nodes that have a scope of their own, counted as `tally` does.
use Rattle.std.proofs.Common.{ℕ, arith, rules, tests}
use Rattle.std.proofs.lemmas.Iterator.{YieldsList-from_range}
use Rattle.std.proofs.lemmas.Iterator.Consumers.{YieldsList-from_filter, count_from_yields_List}
use Rattle.nodefile.specs.Layout.{node_count, nodes_of}
use Rattle.nodefile.specs.Listed.{is_scope, kind_at}
use Rattle.nodefile.proofs.Counted.{counted_is}
use Rattle.nodefile.proofs.node.scope_count.Goals as goal

pub returns : goal.returns
returns c =
    let p = λ (i : ℕ). is_scope (kind_at (nodes_of c.args.file.now) i) in
    counted_is p (node_count c.args.file.now) 65536 c.count.result (omega (arith, c.node_count.ensures.is))
    (count_from_yields_List c.filter.result c.count.result c.count.ensures.ran
    (YieldsList-from_filter _ p (YieldsList-from_range 0 _ (node_count c.args.file.now) c.filter.ensures.source (omega (arith, c.node_count.ensures.is)))
    c.filter.ensures.closure (λ x r q k. search (rules, tests))))
