-- `idents::last`: the nodes passed and those left are the part's (`Trail`).
use Rattle.std.proofs.Common.{length}
use Rattle.idents.proofs.Trail.{Trail}
use Rattle.idents.proofs.last.Given as goal

abbrev pub invariant-loop-end : goal.invariant-loop-end
invariant-loop-end l = Trail l.part l.tail l.end

abbrev pub decreases-loop-end : goal.decreases-loop-end
decreases-loop-end l = length l.tail
