-- Fields packed into one number, most significant first (document 01, "Answer buffers"), and the same fields in bytes.
-- At written widths `pack` computes to a sum that omega reads: (2, c), (15, s), (15, b) is c * 1073741824 + (s * 32768 + (b * 1 + 0)).
use Rattle.std.specs.Prelude.{ℕ, zero, suc, ◌+◌, ◌*◌, ◌/◌, ◌%◌, ◌^◌, ◌<◌, List, [], ◌∷◌}
use Rattle.bits.specs.Field.{field_of}

-- a field is its width and its value
abbrev pub widths : List (ℕ × ℕ) → List ℕ
widths [] = []
widths (f ∷ fs) = f.0 ∷ widths fs

abbrev pub values : List (ℕ × ℕ) → List ℕ
values [] = []
values (f ∷ fs) = f.1 ∷ values fs

abbrev pub total : List ℕ → ℕ
total [] = 0
total (w ∷ ws) = w + total ws

-- each value fits its width
abbrev pub Narrow : List (ℕ × ℕ) → Type 0
Narrow [] = Unit {0}
Narrow (f ∷ fs) = (f.1 < 2 ^ f.0) × Narrow fs

-- the number, and the values taken out of a number
abbrev pub pack : List (ℕ × ℕ) → ℕ
pack [] = 0
pack (f ∷ fs) = f.1 * 2 ^ total (widths fs) + pack fs

abbrev pub unpack : List ℕ → ℕ → List ℕ
unpack [] x = []
unpack (w ∷ ws) x = x / 2 ^ total ws % 2 ^ w ∷ unpack ws x

-- fields of bytes that stand one after the other from bit `at` on
abbrev pub fields_of : List ℕ → ℕ → List ℕ → List ℕ
fields_of bs at [] = []
fields_of bs at (w ∷ ws) = field_of bs at w ∷ fields_of bs (at + w) ws

-- the last n bytes of a number, most significant first
abbrev pub bytes_of : ℕ → ℕ → List ℕ
bytes_of zero x = []
bytes_of (suc n) x = x / 2 ^ (8 * n) % 256 ∷ bytes_of n x
