-- `sheet::put`: after so many turns so many elements are laid down.
use Prim.Native.Nat.{◌+◌, ◌*◌}
use mathlib.Core.Path.{◌≡◌}
use Rattle.std.proofs.Common.{map}
use Rattle.sheet.specs.Laid.{Laid}
use Rattle.sheet.proofs.put.Given as goal

abbrev pub invariant-loop-x : goal.invariant-loop-x
invariant-loop-x g l = (l.bit ≡ l.at + g.T.Word.WIDTH * l.x-index) × Laid g.T.Word.WIDTH (map g.T.Word.number l.list) l.x-index l.at l.initial.out l.out
