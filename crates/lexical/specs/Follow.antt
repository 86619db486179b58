-- Following copies outward, one function a step: from a slot to the slot it was copied from, and so on to a slot that no copy fills.
use Rattle.std.specs.Prelude.{List, [], ◌∷◌, Bool, ◌&&◌, ℕ, eqb}
use Rattle.std.proofs.Math.Option.{Option, none, some}
use Rattle.lexical.specs.Lists.{picked, first, map_o}
use Rattle.lexical.specs.State.{Slot, Copy}

-- the parent slot that is copied into slot k of scope s
unfoldable pub copy_to : ℕ → ℕ → Copy → Bool
copy_to s k c = eqb c.scope s && eqb c.child k

unfoldable pub from_in : ℕ → ℕ → List Copy → Option ℕ
from_in s k cs = map_o (λ (c : Copy). c.parent) (first (copy_to s k) cs)

-- the binding whose value slot k of scope s holds
unfoldable pub slot_at : ℕ → ℕ → Slot → Bool
slot_at s k r = eqb r.scope s && eqb r.num k

unfoldable pub value_in : ℕ → ℕ → List Slot → Option ℕ
value_in s k rs = map_o (λ (r : Slot). r.id) (first (slot_at s k) rs)

-- the bindings copied into scope s
unfoldable pub copied : ℕ → List Copy → List ℕ
copied s cs = picked (λ (c : Copy). eqb c.scope s) (λ c. c.id) cs

-- outward from slot k along the copies, through these scopes
unfoldable pub follow_by : Option ℕ → ℕ × ℕ → (ℕ → ℕ × ℕ) → ℕ × ℕ
follow_by none here go = here
follow_by (some p) here go = go p

unfoldable pub follow : List Copy → List ℕ → ℕ → ℕ × ℕ
follow cs [] k = (0, k)
follow cs (s ∷ ss) k = follow_by (from_in s k cs) (s, k) (λ p. follow cs ss p)

-- the slot of scope s that binding i was copied into
unfoldable pub copy_of : ℕ → ℕ → Copy → Bool
copy_of s i c = eqb c.scope s && eqb c.id i

unfoldable pub copy_hand : ℕ → ℕ → List Copy → Option ℕ
copy_hand s i cs = map_o (λ (c : Copy). c.child) (first (copy_of s i) cs)
