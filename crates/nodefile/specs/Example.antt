-- The file of document 01, "One listing in full", byte by byte, and what is read of it. By computation.
use Rattle.std.specs.Prelude.{ℕ, ◌*◌, ◌≡◌, refl, true, false, List, [], ◌∷◌, length, drop}
use Rattle.base.specs.UpTo.{up_to}
use Rattle.bits.specs.Field.{bit_of, field_of}
use Rattle.nodefile.specs.Node.{kind_of, size_of, value_of}
use Rattle.nodefile.specs.Layout.{version, reexport, head_zero, node_count, name_count, entry_count, global_count, pool_bytes, file_length, nodes_of, names_of, pool_of}
use Rattle.nodefile.specs.Lists.{spelled, hidden, global_name}
use Rattle.nodefile.specs.FileOf.{entry_of}

-- `def f(a): return lambda b: a + b + _k`
bytes : List ℕ
bytes =
    16 ∷ 0 ∷ 12 ∷ 0 ∷ 4 ∷ 0 ∷ 0 ∷ 0 ∷ 0 ∷ 0 ∷ 0 ∷ 5
    ∷ 48 ∷ 0 ∷ 12 ∷ 0 ∷ 1 ∷ 0 ∷ 0 ∷ 0
    ∷ 64 ∷ 0 ∷ 1 ∷ 0 ∷ 0 ∷ 0 ∷ 0 ∷ 0
    ∷ 136 ∷ 0 ∷ 2 ∷ 0 ∷ 0 ∷ 0 ∷ 0 ∷ 0
    ∷ 64 ∷ 0 ∷ 1 ∷ 0 ∷ 1 ∷ 0 ∷ 0 ∷ 0
    ∷ 8 ∷ 0 ∷ 8 ∷ 0 ∷ 0 ∷ 0 ∷ 0 ∷ 0
    ∷ 96 ∷ 0 ∷ 7 ∷ 0 ∷ 2 ∷ 0 ∷ 0 ∷ 0
    ∷ 136 ∷ 0 ∷ 2 ∷ 0 ∷ 0 ∷ 0 ∷ 0 ∷ 0
    ∷ 64 ∷ 0 ∷ 1 ∷ 0 ∷ 2 ∷ 0 ∷ 0 ∷ 0
    ∷ 112 ∷ 0 ∷ 4 ∷ 0 ∷ 0 ∷ 0 ∷ 0 ∷ 0
    ∷ 88 ∷ 0 ∷ 1 ∷ 0 ∷ 1 ∷ 0 ∷ 0 ∷ 0
    ∷ 88 ∷ 0 ∷ 1 ∷ 0 ∷ 2 ∷ 0 ∷ 0 ∷ 0
    ∷ 88 ∷ 0 ∷ 1 ∷ 0 ∷ 3 ∷ 0 ∷ 0 ∷ 0
    ∷ 0 ∷ 0 ∷ 1 ∷ 0 ∷ 1 ∷ 1 ∷ 0 ∷ 2 ∷ 1 ∷ 0 ∷ 3 ∷ 2
    ∷ 102 ∷ 97 ∷ 98 ∷ 95 ∷ 107 ∷ []

header : version bytes ∷ reexport bytes ∷ head_zero bytes ∷ node_count bytes ∷ name_count bytes ∷ entry_count bytes ∷ global_count bytes ∷ pool_bytes bytes ∷ []
    ≡ 1 ∷ 0 ∷ 0 ∷ 12 ∷ 4 ∷ 0 ∷ 0 ∷ 5 ∷ []
unfolding bytes bit_of field_of
header = refl

exact : length bytes ≡ file_length bytes
unfolding bytes bit_of field_of
exact = refl

-- kind, size and value of each node
node : ℕ → List ℕ
node i = let t = drop (8 * i) (nodes_of bytes) in kind_of t ∷ size_of t ∷ value_of t ∷ []

nodes : up_to node 12
    ≡ (6 ∷ 12 ∷ 1 ∷ []) ∷ (8 ∷ 1 ∷ 0 ∷ []) ∷ (17 ∷ 2 ∷ 0 ∷ []) ∷ (8 ∷ 1 ∷ 1 ∷ []) ∷ (1 ∷ 8 ∷ 0 ∷ []) ∷ (12 ∷ 7 ∷ 2 ∷ []) ∷ (17 ∷ 2 ∷ 0 ∷ []) ∷ (8 ∷ 1 ∷ 2 ∷ []) ∷ (14 ∷ 4 ∷ 0 ∷ []) ∷ (11 ∷ 1 ∷ 1 ∷ []) ∷ (11 ∷ 1 ∷ 2 ∷ []) ∷ (11 ∷ 1 ∷ 3 ∷ []) ∷ []
unfolding bytes bit_of field_of up_to node
nodes = refl

-- f, a, b and _k: the last is hidden
spellings : up_to (spelled (names_of bytes) (pool_of bytes)) 4 ≡ (102 ∷ []) ∷ (97 ∷ []) ∷ (98 ∷ []) ∷ (95 ∷ 107 ∷ []) ∷ []
unfolding bytes bit_of field_of up_to
spellings = refl

underscored : up_to (hidden (names_of bytes) (pool_of bytes)) 4 ≡ false ∷ false ∷ false ∷ true ∷ []
unfolding bytes bit_of field_of up_to
underscored = refl

-- two module entries, name 3 public in slot 5 and name 770 private in slot 32,767; two globals, names 1 and 258
entries : up_to (entry_of (0 ∷ 3 ∷ 128 ∷ 5 ∷ 3 ∷ 2 ∷ 127 ∷ 255 ∷ [])) 2 ≡ record { name = 3; public = true; slot = 5 } ∷ record { name = 770; public = false; slot = 32767 } ∷ []
unfolding bit_of field_of up_to
entries = refl

globals : up_to (global_name (0 ∷ 1 ∷ 1 ∷ 2 ∷ [])) 2 ≡ 1 ∷ 258 ∷ []
unfolding bit_of field_of up_to
globals = refl
