-- Whether a local stands in a scope already, as code answers it.
use Rattle.std.specs.Prelude.{ℕ, ◌<◌, ◌≡◌, List, None, Some}
use Rattle.std.specs.Prelude as rust
use Rattle.std.proofs.Math.Option.{Option, none, some}
use Rattle.lexical.specs.State.{Slot}
use Rattle.answer.specs.declared.ids.LocalSlotId.{LocalSlotId}
use Rattle.store.specs.Image.{SlotsIn}

abbrev pub hand_of : Option ℕ → rust.Option LocalSlotId
hand_of none = None
hand_of (some k) = Some (record { 0 = k })

-- the slots that the lists hold
pub record Slotted (w t : List ℕ) : Type 0 where
  pub slots : List Slot
  pub params : ℕ → ℕ
  pub are : SlotsIn slots params w t
