-- Number 7 of the whole list: no node passed has a fault of its own.
use mathlib.Core.Path.{sym, subst}
use native.Mathlib.Omega.{arith}
use Rattle.base.specs.Says.{says-true, says-false}
use Rattle.shape.specs.Inside.Node.{BadNode}
use Rattle.shape.proofs.Pass.{passed_inside, passed_more, passed_all}
use Rattle.shape.proofs.Fitting.{node_fault, no_faults}
use Rattle.shape.proofs.nodes.bad_nodes.Goals as goal

pub returns-then-bad_node : goal.returns-then-bad_node
returns-then-bad_node c =
    let args' = c.args in
    let loop' = c.loop-t in
    node_fault args'.ns.now args'.names (omega arith) loop'.invariant.here (passed_inside loop'.invariant (omega arith)) (subst (BadNode args'.names) loop'.invariant.part (says-true c.if-bad_node.true c.bad_node.ensures))

pub loop-t-preserved : goal.loop-t-preserved
loop-t-preserved c =
    let loop' = c.loop-t in
    let args' = c.args in
    passed_more loop'.invariant (λ f. says-false c.if-bad_node.false c.bad_node.ensures (subst (BadNode args'.names) (sym loop'.invariant.part) f))

pub returns : goal.returns
returns c =
    let args' = c.args in
    no_faults args'.ns.now args'.names (omega arith) (passed_all c.loop-t.invariant (omega arith) (omega arith))
