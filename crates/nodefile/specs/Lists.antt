-- The lists of the node file (document 01, "The node file"), said of each list's own part:
-- names, 24 bits: offset in the pool 16, length 8; module entries, 32 bits: name 16, public 1, slot 15; globals, 16 bits: name.
use Rattle.std.specs.Prelude.{ℕ, ◌+◌, ◌*◌, Bool, List, eqb, get_or, take, drop}
use Rattle.bits.specs.Field.{field_of}

abbrev pub name_off : List ℕ → ℕ → ℕ
name_off nm k = field_of nm (24 * k) 16

abbrev pub name_len : List ℕ → ℕ → ℕ
name_len nm k = field_of nm (24 * k + 16) 8

-- name k's stretch of the pool
abbrev pub spelled : List ℕ → List ℕ → ℕ → List ℕ
spelled nm pool k = take (name_len nm k) (drop (name_off nm k) pool)

-- it begins with `_`
abbrev pub hidden : List ℕ → List ℕ → ℕ → Bool
hidden nm pool k = eqb (get_or (spelled nm pool k) 0 0) 95

abbrev pub entry_name : List ℕ → ℕ → ℕ
entry_name es k = field_of es (32 * k) 16

abbrev pub entry_public : List ℕ → ℕ → ℕ
entry_public es k = field_of es (32 * k + 16) 1

abbrev pub entry_slot : List ℕ → ℕ → ℕ
entry_slot es k = field_of es (32 * k + 17) 15

abbrev pub global_name : List ℕ → ℕ → ℕ
global_name gs k = field_of gs (16 * k) 16
