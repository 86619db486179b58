-- `readers::keys::put_keys` meets its contract: the keys of the nodes before `i` are put. Assumes nothing.
use Rattle.std.proofs.Common.{arith}
use Rattle.readers.proofs.Put.{put_all}
use Rattle.readers.proofs.keys.put_keys.Goals as goal

pub returns : goal.returns
returns c = put_all c.loop-i.invariant (omega arith)
