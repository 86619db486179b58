-- Document 01's numbers of refusals ("Numbers given back"), and the number of a verdict: 0 where nothing is refused.
use Rattle.std.specs.Prelude.{ℕ, Result, Ok, Err}
use Rattle.base.specs.declared.refusal.Refusal.{Refusal}
use Rattle.base.specs.declared.refusal.Refusal.TheVariants as refusal

abbrev pub number_of : Refusal → ℕ
number_of refusal.ShortBuffer = 1
number_of refusal.Header = 2
number_of refusal.Counts = 3
number_of refusal.Length = 4
number_of refusal.Names = 5
number_of refusal.Lists = 6
number_of refusal.Nodes = 7
number_of refusal.Children = 8
number_of refusal.Depth = 9
number_of refusal.Scopes = 10
number_of refusal.Params = 11
number_of refusal.ManySlots = 12
number_of refusal.ShortList = 13

abbrev pub answered : Result (Unit {0}) Refusal → ℕ
answered (Ok t) = 0
answered (Err r) = number_of r
