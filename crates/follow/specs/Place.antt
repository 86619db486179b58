-- Following copies outward over an answer's copy records.
use Rattle.std.specs.Prelude.{ℕ, List, map, reverse, Option, None, Some}
use Rattle.std.proofs.Math.Option as math
use Rattle.lexical.specs.State.{Copy}
use Rattle.lexical.specs.Follow.{follow}
use Rattle.answer.specs.Records.{copy_scope, copy_parent, copy_child}
use Rattle.answer.specs.declared.ids.LocalSlotId.{LocalSlotId}
use Rattle.follow.specs.declared.Place.{Place}

-- the copy that a record tells of; which binding it copies is not in the record
abbrev pub copy_of : ℕ → Copy
copy_of x = record { scope = copy_scope x; parent = copy_parent x; child = copy_child x; id = 0 }

abbrev pub copies_of : List ℕ → List Copy
copies_of xs = map copy_of xs

abbrev pub from_of : math.Option ℕ → Option LocalSlotId
from_of math.none = None
from_of (math.some k) = Some (record { 0 = k })

abbrev pub place_of : ℕ × ℕ → Place
place_of p = record { scope = record { 0 = p.0 }; slot = record { 0 = p.1 } }

-- where a slot of the last of these scopes, given outermost first, has its value from
abbrev pub followed : List ℕ → List ℕ → ℕ → Place
followed copies around slot = place_of (follow (copies_of copies) (reverse around) slot)
