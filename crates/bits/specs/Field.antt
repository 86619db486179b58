-- A packed field of a list of bytes, most significant bit first (document 01, "The node file").
-- Bits past the end of the list are 0.
use Rattle.std.specs.Prelude.{ℕ, zero, suc, ◌+◌, ◌-◌, ◌*◌, ◌/◌, ◌%◌, ◌^◌, ◌<◌, ◌≡◌, cond, List, leb, get_or}

-- bit i of the bytes: byte i / 8, counted from its most significant bit
unfoldable pub bit_of : List ℕ → ℕ → ℕ
bit_of bs i = get_or bs (i / 8) 0 / 2 ^ (7 - i % 8) % 2

-- the field of w bits that starts at bit `at`
unfoldable pub field_of : List ℕ → ℕ → ℕ → ℕ
field_of bs at zero = 0
field_of bs at (suc w) = field_of bs at w * 2 + bit_of bs (at + w)

-- what a reader gives: the field where it has at most 32 bits, otherwise 0; and its bound.
-- At a written width of at most 32 these compute to `r ≡ field_of s at 16` and `r < 65536`.
pub record Field (s : List ℕ) (at width r : ℕ) : Type 0 where
  pub is : r ≡ cond (leb width 32) (field_of s at width) 0
  pub below : r < 2 ^ width
