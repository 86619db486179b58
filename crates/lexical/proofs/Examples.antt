-- Document 01's ten proved examples (the fourth is two files), each file with all its records; the theorem is `examples`, at the end.
-- A binding's row: name, source, entry, public, any, captured, local, slot. A module entry's: name, public, slot. A scope's: parameter variables, slots.
-- A slot's: scope, name. A copy's: scope, parent, child. A Name's or an Ident's answer: node, class, slot or global, binding. An error's: node, code.
use Rattle.std.specs.Prelude.{◌≡◌, refl, List, [], ◌∷◌, map, Bool, false, ℕ, leb}
use Rattle.lexical.specs.Tree.{Forest, nil, node}
use Rattle.lexical.specs.Module.{Entry, File}
use Rattle.lexical.specs.Records.{Records, records}

-- names from `low` on begin with `_`
unfoldable pub file : ℕ → Bool → List Entry → List ℕ → Forest → File
file low re es gs t = record { names = record { hidden = λ n. leb low n; reexport = re }; entries = es; globals = gs; root = t }

-- 1. The listing: `def f(a): return lambda b: a + b + _k`; names f a b _k
unfoldable pub listing : File
listing = file 3 false [] []
    (node 0 6 1 (node 1 8 0 nil (node 2 17 0 (node 3 8 1 nil nil) (node 4 1 0 (node 5 12 2 (node 6 17 0 (node 7 8 2 nil nil) (node 8 14 0 (node 9 11 1 nil (node 10 11 2 nil (node 11 11 3 nil nil))) nil)) nil) nil))) nil)

unfoldable pub listing_records : Records
listing_records = record {
  bindings = (0 ∷ 1 ∷ 0 ∷ 1 ∷ 0 ∷ 0 ∷ 0 ∷ 0 ∷ []) ∷ (1 ∷ 3 ∷ 0 ∷ 1 ∷ 0 ∷ 1 ∷ 1 ∷ 0 ∷ []) ∷ (2 ∷ 7 ∷ 0 ∷ 1 ∷ 0 ∷ 0 ∷ 1 ∷ 0 ∷ []) ∷ [];
  entries = (0 ∷ 1 ∷ 0 ∷ []) ∷ [];
  scopes = (0 ∷ 0 ∷ []) ∷ (1 ∷ 1 ∷ []) ∷ (1 ∷ 2 ∷ []) ∷ [];
  slots = (1 ∷ 1 ∷ []) ∷ (2 ∷ 2 ∷ []) ∷ (2 ∷ 1 ∷ []) ∷ [];
  copies = (2 ∷ 0 ∷ 1 ∷ []) ∷ [];
  names = (1 ∷ 1 ∷ 0 ∷ 0 ∷ []) ∷ (3 ∷ 2 ∷ 0 ∷ 1 ∷ []) ∷ (7 ∷ 2 ∷ 0 ∷ 2 ∷ []) ∷ [];
  answers = (9 ∷ 2 ∷ 1 ∷ 1 ∷ []) ∷ (10 ∷ 2 ∷ 0 ∷ 2 ∷ []) ∷ [];
  errors = (11 ∷ 1 ∷ []) ∷ [];
}

-- 2. `for x in E` at module level: x any
unfoldable pub for_x : File
for_x = file 9 false [] []
    (node 0 5 0 (node 1 8 0 nil (node 2 14 0 nil (node 3 0 0 nil nil))) nil)

unfoldable pub for_x_records : Records
for_x_records = record {
  bindings = (0 ∷ 1 ∷ 0 ∷ 1 ∷ 1 ∷ 0 ∷ 0 ∷ 0 ∷ []) ∷ [];
  entries = (0 ∷ 1 ∷ 0 ∷ []) ∷ [];
  scopes = (0 ∷ 0 ∷ []) ∷ [];
  slots = [];
  copies = [];
  names = (1 ∷ 1 ∷ 0 ∷ 0 ∷ []) ∷ [];
  answers = [];
  errors = [];
}

-- 3. Entry x private; `x=1`: any, afterwards public
unfoldable pub entry_x : File
entry_x = file 9 false (record { name = 0; public = false; slot = 0 } ∷ []) []
    (node 0 2 0 (node 1 8 0 nil (node 2 14 0 nil nil)) nil)

unfoldable pub entry_x_records : Records
entry_x_records = record {
  bindings = (0 ∷ 65535 ∷ 1 ∷ 1 ∷ 1 ∷ 0 ∷ 0 ∷ 0 ∷ []) ∷ [];
  entries = (0 ∷ 1 ∷ 0 ∷ []) ∷ [];
  scopes = (0 ∷ 0 ∷ []) ∷ [];
  slots = [];
  copies = [];
  names = (1 ∷ 1 ∷ 0 ∷ 0 ∷ []) ∷ [];
  answers = [];
  errors = [];
}

-- 4. Load x, reexport 0: private
unfoldable pub load_x : File
load_x = file 9 false [] []
    (node 0 7 0 (node 1 8 0 nil nil) nil)

unfoldable pub load_x_records : Records
load_x_records = record {
  bindings = (0 ∷ 1 ∷ 0 ∷ 0 ∷ 0 ∷ 0 ∷ 0 ∷ 0 ∷ []) ∷ [];
  entries = (0 ∷ 0 ∷ 0 ∷ []) ∷ [];
  scopes = (0 ∷ 0 ∷ []) ∷ [];
  slots = [];
  copies = [];
  names = (1 ∷ 1 ∷ 0 ∷ 0 ∷ []) ∷ [];
  answers = [];
  errors = [];
}

-- 4. Followed by `x=1`: public
unfoldable pub load_set_x : File
load_set_x = file 9 false [] []
    (node 0 0 0 (node 1 7 0 (node 2 8 0 nil nil) (node 3 2 0 (node 4 8 0 nil (node 5 14 0 nil nil)) nil)) nil)

unfoldable pub load_set_x_records : Records
load_set_x_records = record {
  bindings = (0 ∷ 2 ∷ 0 ∷ 1 ∷ 1 ∷ 0 ∷ 0 ∷ 0 ∷ []) ∷ [];
  entries = (0 ∷ 1 ∷ 0 ∷ []) ∷ [];
  scopes = (0 ∷ 0 ∷ []) ∷ [];
  slots = [];
  copies = [];
  names = (2 ∷ 1 ∷ 0 ∷ 0 ∷ []) ∷ (4 ∷ 1 ∷ 0 ∷ 0 ∷ []) ∷ [];
  answers = [];
  errors = [];
}

-- 5. `def f(_p): _q=1`: `_p` public, `_q` private
unfoldable pub hidden_p : File
hidden_p = file 1 false [] []
    (node 0 6 1 (node 1 8 0 nil (node 2 17 0 (node 3 8 1 nil nil) (node 4 2 0 (node 5 8 2 nil (node 6 14 0 nil nil)) nil))) nil)

unfoldable pub hidden_p_records : Records
hidden_p_records = record {
  bindings = (0 ∷ 1 ∷ 0 ∷ 1 ∷ 0 ∷ 0 ∷ 0 ∷ 0 ∷ []) ∷ (1 ∷ 3 ∷ 0 ∷ 1 ∷ 0 ∷ 0 ∷ 1 ∷ 0 ∷ []) ∷ (2 ∷ 5 ∷ 0 ∷ 0 ∷ 0 ∷ 0 ∷ 1 ∷ 1 ∷ []) ∷ [];
  entries = (0 ∷ 1 ∷ 0 ∷ []) ∷ [];
  scopes = (0 ∷ 0 ∷ []) ∷ (1 ∷ 2 ∷ []) ∷ [];
  slots = (1 ∷ 1 ∷ []) ∷ (1 ∷ 2 ∷ []) ∷ [];
  copies = [];
  names = (1 ∷ 1 ∷ 0 ∷ 0 ∷ []) ∷ (3 ∷ 2 ∷ 0 ∷ 1 ∷ []) ∷ (5 ∷ 2 ∷ 1 ∷ 2 ∷ []) ∷ [];
  answers = [];
  errors = [];
}

-- 6. `[x for x in x]`, global x: the `in x` is the global, the element local slot 0 of scope 0
unfoldable pub compr_x : File
compr_x = file 9 false [] (0 ∷ [])
    (node 0 1 0 (node 1 13 0 (node 2 15 0 (node 3 8 0 nil (node 4 11 0 nil nil)) (node 5 11 0 nil nil)) nil) nil)

unfoldable pub compr_x_records : Records
compr_x_records = record {
  bindings = (0 ∷ 3 ∷ 0 ∷ 1 ∷ 1 ∷ 0 ∷ 1 ∷ 0 ∷ []) ∷ [];
  entries = [];
  scopes = (0 ∷ 1 ∷ []) ∷ [];
  slots = (0 ∷ 0 ∷ []) ∷ [];
  copies = [];
  names = (3 ∷ 2 ∷ 0 ∷ 0 ∷ []) ∷ [];
  answers = (4 ∷ 3 ∷ 0 ∷ 0 ∷ []) ∷ (5 ∷ 2 ∷ 0 ∷ 0 ∷ []) ∷ [];
  errors = [];
}

-- 7. `[x for y in E for x in x]`: y 0, x 1; the last `x` is local 1
unfoldable pub compr_yx : File
compr_yx = file 9 false [] []
    (node 0 1 0 (node 1 13 0 (node 2 15 0 (node 3 8 1 nil (node 4 14 0 nil nil)) (node 5 15 0 (node 6 8 0 nil (node 7 11 0 nil nil)) (node 8 11 0 nil nil))) nil) nil)

unfoldable pub compr_yx_records : Records
compr_yx_records = record {
  bindings = (1 ∷ 3 ∷ 0 ∷ 1 ∷ 1 ∷ 0 ∷ 1 ∷ 0 ∷ []) ∷ (0 ∷ 6 ∷ 0 ∷ 1 ∷ 1 ∷ 0 ∷ 1 ∷ 1 ∷ []) ∷ [];
  entries = [];
  scopes = (0 ∷ 2 ∷ []) ∷ [];
  slots = (0 ∷ 1 ∷ []) ∷ (0 ∷ 0 ∷ []) ∷ [];
  copies = [];
  names = (3 ∷ 2 ∷ 0 ∷ 0 ∷ []) ∷ (6 ∷ 2 ∷ 1 ∷ 1 ∷ []) ∷ [];
  answers = (7 ∷ 2 ∷ 1 ∷ 1 ∷ []) ∷ (8 ∷ 2 ∷ 1 ∷ 1 ∷ []) ∷ [];
  errors = [];
}

-- 8. f(t), inside it g: `v: t = 1`: error 2, t captured, copy 2 0 1 remains
unfoldable pub type_t : File
type_t = file 9 false [] []
    (node 0 6 1 (node 1 8 0 nil (node 2 17 0 (node 3 8 1 nil nil) (node 4 6 2 (node 5 8 2 nil (node 6 2 0 (node 7 8 3 nil (node 8 18 0 (node 9 11 1 nil nil) (node 10 14 0 nil nil))) nil)) nil))) nil)

unfoldable pub type_t_records : Records
type_t_records = record {
  bindings = (0 ∷ 1 ∷ 0 ∷ 1 ∷ 0 ∷ 0 ∷ 0 ∷ 0 ∷ []) ∷ (1 ∷ 3 ∷ 0 ∷ 1 ∷ 0 ∷ 1 ∷ 1 ∷ 0 ∷ []) ∷ (2 ∷ 5 ∷ 0 ∷ 1 ∷ 0 ∷ 0 ∷ 1 ∷ 1 ∷ []) ∷ (3 ∷ 7 ∷ 0 ∷ 1 ∷ 0 ∷ 0 ∷ 1 ∷ 0 ∷ []) ∷ [];
  entries = (0 ∷ 1 ∷ 0 ∷ []) ∷ [];
  scopes = (0 ∷ 0 ∷ []) ∷ (1 ∷ 2 ∷ []) ∷ (0 ∷ 2 ∷ []) ∷ [];
  slots = (1 ∷ 1 ∷ []) ∷ (1 ∷ 2 ∷ []) ∷ (2 ∷ 3 ∷ []) ∷ (2 ∷ 1 ∷ []) ∷ [];
  copies = (2 ∷ 0 ∷ 1 ∷ []) ∷ [];
  names = (1 ∷ 1 ∷ 0 ∷ 0 ∷ []) ∷ (3 ∷ 2 ∷ 0 ∷ 1 ∷ []) ∷ (5 ∷ 2 ∷ 1 ∷ 2 ∷ []) ∷ (7 ∷ 2 ∷ 0 ∷ 3 ∷ []) ∷ [];
  answers = [];
  errors = (9 ∷ 2 ∷ []) ∷ [];
}

-- 9. `def f(a, b=a)`, no other a: error 1
unfoldable pub default_a : File
default_a = file 9 false [] []
    (node 0 6 1 (node 1 8 0 nil (node 2 17 0 (node 3 8 1 nil nil) (node 4 17 0 (node 5 8 2 nil (node 6 11 1 nil nil)) (node 7 0 0 nil nil)))) nil)

unfoldable pub default_a_records : Records
default_a_records = record {
  bindings = (0 ∷ 1 ∷ 0 ∷ 1 ∷ 0 ∷ 0 ∷ 0 ∷ 0 ∷ []) ∷ (1 ∷ 3 ∷ 0 ∷ 1 ∷ 0 ∷ 0 ∷ 1 ∷ 0 ∷ []) ∷ (2 ∷ 5 ∷ 0 ∷ 1 ∷ 0 ∷ 0 ∷ 1 ∷ 1 ∷ []) ∷ [];
  entries = (0 ∷ 1 ∷ 0 ∷ []) ∷ [];
  scopes = (0 ∷ 0 ∷ []) ∷ (2 ∷ 2 ∷ []) ∷ [];
  slots = (1 ∷ 1 ∷ []) ∷ (1 ∷ 2 ∷ []) ∷ [];
  copies = [];
  names = (1 ∷ 1 ∷ 0 ∷ 0 ∷ []) ∷ (3 ∷ 2 ∷ 0 ∷ 1 ∷ []) ∷ (5 ∷ 2 ∷ 1 ∷ 2 ∷ []) ∷ [];
  answers = [];
  errors = (6 ∷ 1 ∷ []) ∷ [];
}

-- 10. f 1, one parameter a, holds g 2, g holds h 3, h reads a: copies 2 0 1, then 3 1 0
unfoldable pub nested : File
nested = file 9 false [] []
    (node 0 6 1 (node 1 8 0 nil (node 2 17 0 (node 3 8 1 nil nil) (node 4 6 2 (node 5 8 2 nil (node 6 6 3 (node 7 8 3 nil (node 8 1 0 (node 9 11 1 nil nil) nil)) nil)) nil))) nil)

unfoldable pub nested_records : Records
nested_records = record {
  bindings = (0 ∷ 1 ∷ 0 ∷ 1 ∷ 0 ∷ 0 ∷ 0 ∷ 0 ∷ []) ∷ (1 ∷ 3 ∷ 0 ∷ 1 ∷ 0 ∷ 1 ∷ 1 ∷ 0 ∷ []) ∷ (2 ∷ 5 ∷ 0 ∷ 1 ∷ 0 ∷ 0 ∷ 1 ∷ 1 ∷ []) ∷ (3 ∷ 7 ∷ 0 ∷ 1 ∷ 0 ∷ 0 ∷ 1 ∷ 0 ∷ []) ∷ [];
  entries = (0 ∷ 1 ∷ 0 ∷ []) ∷ [];
  scopes = (0 ∷ 0 ∷ []) ∷ (1 ∷ 2 ∷ []) ∷ (0 ∷ 2 ∷ []) ∷ (0 ∷ 1 ∷ []) ∷ [];
  slots = (1 ∷ 1 ∷ []) ∷ (1 ∷ 2 ∷ []) ∷ (2 ∷ 3 ∷ []) ∷ (2 ∷ 1 ∷ []) ∷ (3 ∷ 1 ∷ []) ∷ [];
  copies = (2 ∷ 0 ∷ 1 ∷ []) ∷ (3 ∷ 1 ∷ 0 ∷ []) ∷ [];
  names = (1 ∷ 1 ∷ 0 ∷ 0 ∷ []) ∷ (3 ∷ 2 ∷ 0 ∷ 1 ∷ []) ∷ (5 ∷ 2 ∷ 1 ∷ 2 ∷ []) ∷ (7 ∷ 2 ∷ 0 ∷ 3 ∷ []) ∷ [];
  answers = (9 ∷ 2 ∷ 0 ∷ 1 ∷ []) ∷ [];
  errors = [];
}

pub examples : map records (listing ∷ for_x ∷ entry_x ∷ load_x ∷ load_set_x ∷ hidden_p ∷ compr_x ∷ compr_yx ∷ type_t ∷ default_a ∷ nested ∷ [])
    ≡ listing_records ∷ for_x_records ∷ entry_x_records ∷ load_x_records ∷ load_set_x_records ∷ hidden_p_records ∷ compr_x_records ∷ compr_yx_records ∷ type_t_records ∷ default_a_records ∷ nested_records ∷ []
unfolding records file listing listing_records for_x for_x_records entry_x entry_x_records load_x load_x_records load_set_x load_set_x_records hidden_p hidden_p_records compr_x compr_x_records compr_yx compr_yx_records type_t type_t_records default_a default_a_records nested nested_records
examples = refl
