-- What falls in `follow::follow`: the number of scopes around.
use Rattle.std.proofs.Common.{length}
use Rattle.follow.proofs.+follow.Given as goal

abbrev pub decreases-follow : goal.decreases-follow
decreases-follow l = length l.around.now
