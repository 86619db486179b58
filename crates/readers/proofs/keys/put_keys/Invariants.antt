-- `readers::keys::put_keys` meets its contract: the keys of the nodes before `i` are put. Assumes nothing.
use lib.ListN.{length}
use Rattle.readers.specs.Keys.{key_at}
use Rattle.readers.proofs.Put.{Put}
use Rattle.readers.proofs.keys.put_keys.Given as goal

abbrev pub invariant-loop-i : goal.invariant-loop-i
invariant-loop-i l = Put (key_at l.globals l.list l.nodes) l.i (length l.initial.keys) l.keys
