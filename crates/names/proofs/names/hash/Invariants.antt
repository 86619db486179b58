-- The number of a spelling, byte by byte.
use Rattle.std.specs.Prelude.{◌<◌, ◌≡◌, drop}
use Rattle.names.specs.Inside.Chain.{hash_from, hash_of}
use Rattle.names.proofs.names.hash.Given as goal

abbrev pub invariant-loop-x : goal.invariant-loop-x
invariant-loop-x l = (l.h < 1024) × (hash_from l.h (drop l.x-index l.s) ≡ hash_of l.s)
