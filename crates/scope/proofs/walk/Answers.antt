-- `scope::walk` meets its contract: the lists are noted, and then the nodes are walked over.
use Rattle.std.proofs.Common.{refl}
use Rattle.store.proofs.Laws.Points.{zeros}
use Rattle.scope.proofs.Passes.{begun, long_made}
use Rattle.scope.proofs.walk.Goals as goal

pub note_lists-entries-requires : goal.note_lists-entries-requires
note_lists-entries-requires c = (c.requires.long_binds, c.requires.blank_binds, zeros 20864, c.requires.ready.lists)

pub enter_module-requires : goal.enter_module-requires
enter_module-requires c = record { long = long_made c.requires.long_binds c.note_lists-entries.auto.binds; ghost = begun c.requires.root c.requires.ready c.nodes.ensures (c.note_lists-entries.ensures c.requires.root) c.requires.blank_w }

pub returns : goal.returns
returns c = record { right = λ root q. (_, c.enter_module.ensures.right (begun root q c.nodes.ensures (c.note_lists-entries.ensures root) c.requires.blank_w)) }
