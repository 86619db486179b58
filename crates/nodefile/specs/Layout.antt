-- The node file (document 01, "The node file"): its header and where its parts stand.
use Rattle.std.specs.Prelude.{ℕ, ◌+◌, ◌*◌, ◌≡◌, List, length, take, drop}
use Rattle.std.proofs.Common.{arith}
use Rattle.base.specs.Parts.{part_length}
use Rattle.bits.specs.Field.{field_of}

-- the header, 96 bits
abbrev pub version : List ℕ → ℕ
version bs = field_of bs 0 4

abbrev pub reexport : List ℕ → ℕ
reexport bs = field_of bs 4 1

abbrev pub head_zero : List ℕ → ℕ
head_zero bs = field_of bs 5 3

abbrev pub node_count : List ℕ → ℕ
node_count bs = field_of bs 8 16

abbrev pub name_count : List ℕ → ℕ
name_count bs = field_of bs 24 16

abbrev pub entry_count : List ℕ → ℕ
entry_count bs = field_of bs 40 16

abbrev pub global_count : List ℕ → ℕ
global_count bs = field_of bs 56 16

abbrev pub pool_bytes : List ℕ → ℕ
pool_bytes bs = field_of bs 72 24

-- where each part starts, in bytes
abbrev pub names_at : List ℕ → ℕ
names_at bs = 12 + 8 * node_count bs

abbrev pub entries_at : List ℕ → ℕ
entries_at bs = names_at bs + 3 * name_count bs

abbrev pub globals_at : List ℕ → ℕ
globals_at bs = entries_at bs + 4 * entry_count bs

abbrev pub pool_at : List ℕ → ℕ
pool_at bs = globals_at bs + 2 * global_count bs

abbrev pub file_length : List ℕ → ℕ
file_length bs = pool_at bs + pool_bytes bs

-- the parts themselves
abbrev pub nodes_of : List ℕ → List ℕ
nodes_of bs = take (8 * node_count bs) (drop 12 bs)

abbrev pub names_of : List ℕ → List ℕ
names_of bs = take (3 * name_count bs) (drop (names_at bs) bs)

abbrev pub entries_of : List ℕ → List ℕ
entries_of bs = take (4 * entry_count bs) (drop (entries_at bs) bs)

abbrev pub globals_of : List ℕ → List ℕ
globals_of bs = take (2 * global_count bs) (drop (globals_at bs) bs)

abbrev pub pool_of : List ℕ → List ℕ
pool_of bs = take (pool_bytes bs) (drop (pool_at bs) bs)

-- how long the parts are in a file of the length that its header says
module _ (bs : List ℕ) (exact : length bs ≡ file_length bs) where
  pub nodes_length : length (nodes_of bs) ≡ 8 * node_count bs
  nodes_length = part_length bs 12 (8 * node_count bs) (omega arith)

  pub names_length : length (names_of bs) ≡ 3 * name_count bs
  names_length = part_length bs (names_at bs) (3 * name_count bs) (omega arith)

  pub entries_length : length (entries_of bs) ≡ 4 * entry_count bs
  entries_length = part_length bs (entries_at bs) (4 * entry_count bs) (omega arith)

  pub globals_length : length (globals_of bs) ≡ 2 * global_count bs
  globals_length = part_length bs (globals_at bs) (2 * global_count bs) (omega arith)

  pub pool_length : length (pool_of bs) ≡ pool_bytes bs
  pool_length = part_length bs (pool_at bs) (pool_bytes bs) (omega arith)
