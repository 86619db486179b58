-- `put_field` goes from the last bits of the field to the first, one byte at a time.
use Prim.Native.Nat.{◌+◌, ◌-◌, ◌/◌, ◌^◌, ◌≤◌}
use mathlib.Core.Path.{◌≡◌}
use Rattle.bits.specs.Put.{Written}
use Rattle.bits.proofs.put_field.Given as goal

abbrev pub invariant-loop-w : goal.invariant-loop-w
invariant-loop-w l = (l.w ≤ l.width) × (l.v ≡ l.value / 2 ^ (l.width - l.w)) × Written l.initial.s (l.at + l.w) (l.width - l.w) l.value l.s

abbrev pub decreases-loop-w : goal.decreases-loop-w
decreases-loop-w l = l.w
