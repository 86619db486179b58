-- `scope::enter_module` meets its contract: each walk is handed what the one before it gives.
use Rattle.std.proofs.Common.{◌∙◌}
use Rattle.store.proofs.Laws.Full.{stopped}
use Rattle.store.proofs.Laws.Lengths.{long_kept}
use Rattle.scope.proofs.Passes.{one_pre, full-one, two_pre, three_pre, full-three, finished}
use Rattle.scope.proofs.enter_module.Goals as goal

pub collect_module-requires : goal.collect_module-requires
collect_module-requires c = one_pre c.requires.ghost c.requires.long

pub returns-in_err-a : goal.returns-in_err-a
returns-in_err-a c = rw (stopped c.in_err-a.field-0.0 c.from_residual.ensures.0) (record { right = λ g. full-one g c.in_err-a.ensures })

pub collect_defines_recursively-b-requires : goal.collect_defines_recursively-b-requires
collect_defines_recursively-b-requires c = two_pre c.requires.ghost c.in_ok-a.ensures (long_kept c.requires.long (record { binds = c.collect_module.auto.binds }))

pub resolve_node-requires : goal.resolve_node-requires
resolve_node-requires c = three_pre c.requires.ghost c.in_ok-a.ensures c.collect_defines_recursively-b.ensures (long_kept c.requires.long (record { binds = c.collect_defines_recursively-b.auto.binds ∙ c.collect_module.auto.binds }))

pub returns-in_err-c : goal.returns-in_err-c
returns-in_err-c c = rw (stopped c.in_err-c.field-0.0 c.from_residual-in_err-c.ensures.0) (record { right = λ g. full-three g c.in_ok-a.ensures c.collect_defines_recursively-b.ensures c.in_err-c.ensures })

pub returns : goal.returns
returns c = record { right = λ g. finished g c.in_ok-a.ensures c.collect_defines_recursively-b.ensures c.in_ok-c.ensures }
