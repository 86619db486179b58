-- `collect::declare::collect_defines_recursively` meets its contract: the nodes from node n on are forests that stand one after the other.
use Rattle.std.proofs.Common.{arith}
use Rattle.store.specs.Sections.{mem}
use Rattle.store.proofs.Laws.Lengths.{long_kept}
use Rattle.collect.proofs.Walked.{w_start, w_pre, w_more, w_end}
use Rattle.collect.proofs.declare.collect_defines_recursively.Goals as goal

pub loop-n-init : goal.loop-n-init
loop-n-init c = w_start

pub declare_node-s-requires : goal.declare_node-s-requires
declare_node-s-requires c = w_pre c.loop-n.invariant c.loop-n-test.true (long_kept c.requires.long (record { binds = c.loop-n.auto.binds })) c.requires.within c.requires.ghost

pub loop-n-preserved : goal.loop-n-preserved
loop-n-preserved c =
    let k = c.declare_node-s in
    w_more c.loop-n.invariant c.loop-n-test.true {m' = mem k.new.binds k.new.w k.new.t} k.ensures

pub returns : goal.returns
returns c = w_end c.loop-n.invariant (omega arith)
