-- `follow::copied_from` meets its contract. The loop: what the records from the index on give is what all of them give. Assumes nothing.
use mathlib.Core.Path.{◌≡◌}
use lib.ListN.{drop}
use Rattle.lexical.specs.Follow.{from_in}
use Rattle.follow.specs.Place.{copies_of}
use Rattle.follow.proofs.copied_from.Given as goal

abbrev pub invariant-loop-r : goal.invariant-loop-r
invariant-loop-r l = from_in l.scope l.slot (copies_of (drop l.r-index l.copies)) ≡ from_in l.scope l.slot (copies_of l.copies)
