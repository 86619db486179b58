-- A record of document 01's answer buffers is one number: its fields lie side by side, most significant first. Its widths say where each of them is.
use Rattle.std.specs.Prelude.{ℕ, zero, suc, ◌%◌, ◌^◌, ◌<◌, ◌≡◌, List, [], ◌∷◌, get_or, set}
use Rattle.bits.specs.Pack.{total, pack, unpack}

-- widths with the values of a row, the first value first; 0 where the row has no more
abbrev pub fields : List ℕ → List ℕ → List (ℕ × ℕ)
fields [] row = []
fields (w ∷ ws) [] = (w, 0) ∷ fields ws []
fields (w ∷ ws) (x ∷ row) = (w, x) ∷ fields ws row

-- the record of a row
abbrev pub packed : List ℕ → List ℕ → ℕ
packed ws row = pack (fields ws row)

-- a row whose values are cut to their widths
abbrev pub cut : List ℕ → List ℕ → List ℕ
cut [] row = []
cut (w ∷ ws) [] = []
cut (w ∷ ws) (x ∷ row) = x % 2 ^ w ∷ cut ws row

-- field k of a record
abbrev pub part : List ℕ → ℕ → ℕ → ℕ
part ws k r = get_or (unpack ws r) k 0

-- a record with field k replaced by a value that is cut to its width
abbrev pub changed : List ℕ → ℕ → ℕ → ℕ → ℕ
changed ws k v r = packed ws (set (unpack ws r) k (v % 2 ^ get_or ws k 0))

-- how many bits stand after field k: 2 to the power of it is the field's weight
abbrev pub after : List ℕ → ℕ → ℕ
after [] k = 0
after (w ∷ ws) zero = total ws
after (w ∷ ws) (suc k) = after ws k

-- what a reader of field k gives: the field, and its bound
pub record Part (ws : List ℕ) (k r x : ℕ) : Type 0 where
  pub is : x ≡ part ws k r
  pub below : x < 2 ^ get_or ws k 0
