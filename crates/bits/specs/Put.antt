-- What writing a packed field leaves in a list of bytes: every bit of it is said.
use Rattle.std.specs.Prelude.{ℕ, ◌+◌, ◌*◌, ◌%◌, ◌^◌, ◌≤◌, ◌<◌, ◌≡◌, ◌⊎◌, List, length}
use Rattle.bits.specs.Field.{bit_of, field_of}

-- s, with the w bits from bit `at` on replaced by the last w bits of x
pub record Written (s : List ℕ) (at w x : ℕ) (s' : List ℕ) : Type 0 where
  pub long : length s' ≡ length s
  pub field : field_of s' at w ≡ x % 2 ^ w
  pub other : (i : ℕ) → (i < at) ⊎ (at + w ≤ i) → bit_of s' i ≡ bit_of s i

-- what a writer leaves: the field where it has at most 64 bits and lies in the list; otherwise nothing changes
pub record Put (s : List ℕ) (at w x : ℕ) (s' : List ℕ) : Type 0 where
  pub inside : w ≤ 64 → at + w ≤ 8 * length s → Written s at w x s'
  pub outside : (w ≤ 64 → at + w ≤ 8 * length s → ⊥) → s' ≡ s
