-- Further files with their records, for the rules that document 01's ten examples leave untouched. Rows as in Examples.
use Rattle.std.specs.Prelude.{◌≡◌, refl, [], ◌∷◌, map, true, false}
use Rattle.std.proofs.Common.{inl, inr, arith}
use Rattle.lexical.specs.Places.{In}
use Rattle.lexical.specs.Tree.{nil, node, scopes_in, listed, when, is_fn, way}
use Rattle.lexical.specs.Module.{File}
use Rattle.lexical.specs.Records.{Records, records}
use Rattle.lexical.specs.Claims.{Scoped}
use Rattle.lexical.proofs.Examples.{file, listing}

-- Entries x private slot 4, y public slot 2; `z=1`: the old ones keep their slots, z takes the number of entries
unfoldable pub gaps : File
gaps = file 9 false (record { name = 0; public = false; slot = 4 } ∷ record { name = 1; public = true; slot = 2 } ∷ []) []
    (node 0 2 0 (node 1 8 2 nil (node 2 14 0 nil nil)) nil)

unfoldable pub gaps_records : Records
gaps_records = record {
  bindings = (0 ∷ 65535 ∷ 1 ∷ 0 ∷ 0 ∷ 0 ∷ 0 ∷ 4 ∷ []) ∷ (1 ∷ 65535 ∷ 1 ∷ 1 ∷ 0 ∷ 0 ∷ 0 ∷ 2 ∷ []) ∷ (2 ∷ 1 ∷ 0 ∷ 1 ∷ 0 ∷ 0 ∷ 0 ∷ 2 ∷ []) ∷ [];
  entries = (0 ∷ 0 ∷ 4 ∷ []) ∷ (1 ∷ 1 ∷ 2 ∷ []) ∷ (2 ∷ 1 ∷ 2 ∷ []) ∷ [];
  scopes = (0 ∷ 0 ∷ []) ∷ [];
  slots = [];
  copies = [];
  names = (1 ∷ 1 ∷ 2 ∷ 2 ∷ []) ∷ [];
  answers = [];
  errors = [];
}

-- Load x, reexport 1: public. Load _y: private. `x=1` in `for`: x any
unfoldable pub promoted : File
promoted = file 1 true [] []
    (node 0 0 0 (node 1 7 0 (node 2 8 0 nil (node 3 8 1 nil nil)) (node 4 5 0 (node 5 9 0 nil (node 6 14 0 nil (node 7 2 0 (node 8 8 0 nil (node 9 14 0 nil nil)) nil))) nil)) nil)

unfoldable pub promoted_records : Records
promoted_records = record {
  bindings = (0 ∷ 2 ∷ 0 ∷ 1 ∷ 1 ∷ 0 ∷ 0 ∷ 0 ∷ []) ∷ (1 ∷ 3 ∷ 0 ∷ 0 ∷ 0 ∷ 0 ∷ 0 ∷ 1 ∷ []) ∷ [];
  entries = (0 ∷ 1 ∷ 0 ∷ []) ∷ (1 ∷ 0 ∷ 1 ∷ []) ∷ [];
  scopes = (0 ∷ 0 ∷ []) ∷ [];
  slots = [];
  copies = [];
  names = (2 ∷ 1 ∷ 0 ∷ 0 ∷ []) ∷ (3 ∷ 1 ∷ 1 ∷ 1 ∷ []) ∷ (8 ∷ 1 ∷ 0 ∷ 0 ∷ []) ∷ [];
  answers = [];
  errors = [];
}

-- `for x in E: def f(): z=1`: f any, z once
unfoldable pub def_in_for : File
def_in_for = file 9 false [] []
    (node 0 5 0 (node 1 8 0 nil (node 2 14 0 nil (node 3 6 1 (node 4 8 1 nil (node 5 2 0 (node 6 8 2 nil (node 7 14 0 nil nil)) nil)) nil))) nil)

unfoldable pub def_in_for_records : Records
def_in_for_records = record {
  bindings = (0 ∷ 1 ∷ 0 ∷ 1 ∷ 1 ∷ 0 ∷ 0 ∷ 0 ∷ []) ∷ (1 ∷ 4 ∷ 0 ∷ 1 ∷ 1 ∷ 0 ∷ 0 ∷ 1 ∷ []) ∷ (2 ∷ 6 ∷ 0 ∷ 1 ∷ 0 ∷ 0 ∷ 1 ∷ 0 ∷ []) ∷ [];
  entries = (0 ∷ 1 ∷ 0 ∷ []) ∷ (1 ∷ 1 ∷ 1 ∷ []) ∷ [];
  scopes = (0 ∷ 0 ∷ []) ∷ (0 ∷ 1 ∷ []) ∷ [];
  slots = (1 ∷ 2 ∷ []) ∷ [];
  copies = [];
  names = (1 ∷ 1 ∷ 0 ∷ 0 ∷ []) ∷ (4 ∷ 1 ∷ 1 ∷ 1 ∷ []) ∷ (6 ∷ 2 ∷ 0 ∷ 2 ∷ []) ∷ [];
  answers = [];
  errors = [];
}

-- `def f(a) -> a: 0`, no other a: the return type lies outside, error 1
unfoldable pub return_a : File
return_a = file 9 false [] []
    (node 0 6 1 (node 1 8 0 nil (node 2 17 0 (node 3 8 1 nil nil) (node 4 18 0 (node 5 11 1 nil nil) (node 6 1 0 (node 7 14 0 nil nil) nil)))) nil)

unfoldable pub return_a_records : Records
return_a_records = record {
  bindings = (0 ∷ 1 ∷ 0 ∷ 1 ∷ 0 ∷ 0 ∷ 0 ∷ 0 ∷ []) ∷ (1 ∷ 3 ∷ 0 ∷ 1 ∷ 0 ∷ 0 ∷ 1 ∷ 0 ∷ []) ∷ [];
  entries = (0 ∷ 1 ∷ 0 ∷ []) ∷ [];
  scopes = (0 ∷ 0 ∷ []) ∷ (1 ∷ 1 ∷ []) ∷ [];
  slots = (1 ∷ 1 ∷ []) ∷ [];
  copies = [];
  names = (1 ∷ 1 ∷ 0 ∷ 0 ∷ []) ∷ (3 ∷ 2 ∷ 0 ∷ 1 ∷ []) ∷ [];
  answers = [];
  errors = (5 ∷ 1 ∷ []) ∷ [];
}

-- `def f(t): v: [t for x in t] = lambda: t`, and `w: (lambda: t) = 1`: a Compr and a Lambda in a type are free of its rule
unfoldable pub free_in_type : File
free_in_type = file 9 false [] []
    (node 0 6 1 (node 1 8 0 nil (node 2 17 0 (node 3 8 1 nil nil) (node 4 0 0 (node 5 2 0 (node 6 8 2 nil (node 7 18 0 (node 8 13 0 (node 9 15 0 (node 10 8 3 nil (node 11 11 1 nil nil)) (node 12 11 1 nil nil)) nil) (node 13 12 2 (node 14 11 1 nil nil) nil))) (node 15 2 0 (node 16 8 4 nil (node 17 18 0 (node 18 12 3 (node 19 11 1 nil nil) nil) (node 20 14 0 nil nil))) nil)) nil))) nil)

unfoldable pub free_in_type_records : Records
free_in_type_records = record {
  bindings = (0 ∷ 1 ∷ 0 ∷ 1 ∷ 0 ∷ 0 ∷ 0 ∷ 0 ∷ []) ∷ (1 ∷ 3 ∷ 0 ∷ 1 ∷ 0 ∷ 1 ∷ 1 ∷ 0 ∷ []) ∷ (2 ∷ 6 ∷ 0 ∷ 1 ∷ 0 ∷ 0 ∷ 1 ∷ 1 ∷ []) ∷ (4 ∷ 16 ∷ 0 ∷ 1 ∷ 0 ∷ 0 ∷ 1 ∷ 2 ∷ []) ∷ (3 ∷ 10 ∷ 0 ∷ 1 ∷ 1 ∷ 0 ∷ 1 ∷ 3 ∷ []) ∷ [];
  entries = (0 ∷ 1 ∷ 0 ∷ []) ∷ [];
  scopes = (0 ∷ 0 ∷ []) ∷ (1 ∷ 4 ∷ []) ∷ (0 ∷ 1 ∷ []) ∷ (0 ∷ 1 ∷ []) ∷ [];
  slots = (1 ∷ 1 ∷ []) ∷ (1 ∷ 2 ∷ []) ∷ (1 ∷ 4 ∷ []) ∷ (1 ∷ 3 ∷ []) ∷ (2 ∷ 1 ∷ []) ∷ (3 ∷ 1 ∷ []) ∷ [];
  copies = (2 ∷ 0 ∷ 0 ∷ []) ∷ (3 ∷ 0 ∷ 0 ∷ []) ∷ [];
  names = (1 ∷ 1 ∷ 0 ∷ 0 ∷ []) ∷ (3 ∷ 2 ∷ 0 ∷ 1 ∷ []) ∷ (6 ∷ 2 ∷ 1 ∷ 2 ∷ []) ∷ (16 ∷ 2 ∷ 2 ∷ 3 ∷ []) ∷ (10 ∷ 2 ∷ 3 ∷ 4 ∷ []) ∷ [];
  answers = (11 ∷ 2 ∷ 0 ∷ 1 ∷ []) ∷ (12 ∷ 2 ∷ 0 ∷ 1 ∷ []) ∷ (14 ∷ 2 ∷ 0 ∷ 1 ∷ []) ∷ (19 ∷ 2 ∷ 0 ∷ 1 ∷ []) ∷ [];
  errors = [];
}

-- `[0 for a[p] in q for b[r] in s]`: q, p before any variable, then s, r: errors in that order
unfoldable pub clauses : File
clauses = file 9 false [] []
    (node 0 1 0 (node 1 13 0 (node 2 15 0 (node 3 10 0 (node 4 11 0 nil (node 5 11 1 nil nil)) (node 6 11 2 nil nil)) (node 7 15 0 (node 8 10 0 (node 9 11 3 nil (node 10 11 4 nil nil)) (node 11 11 5 nil nil)) (node 12 14 0 nil nil))) nil) nil)

unfoldable pub clauses_records : Records
clauses_records = record {
  bindings = [];
  entries = [];
  scopes = (0 ∷ 0 ∷ []) ∷ [];
  slots = [];
  copies = [];
  names = [];
  answers = [];
  errors = (6 ∷ 1 ∷ []) ∷ (4 ∷ 1 ∷ []) ∷ (5 ∷ 1 ∷ []) ∷ (11 ∷ 1 ∷ []) ∷ (9 ∷ 1 ∷ []) ∷ (10 ∷ 1 ∷ []) ∷ [];
}

-- `[x for x in E]` twice: a fresh slot each; then `x` is the global again
unfoldable pub twice : File
twice = file 9 false [] (0 ∷ [])
    (node 0 0 0 (node 1 1 0 (node 2 13 0 (node 3 15 0 (node 4 8 0 nil (node 5 14 0 nil nil)) (node 6 11 0 nil nil)) nil) (node 7 1 0 (node 8 13 0 (node 9 15 0 (node 10 8 0 nil (node 11 14 0 nil nil)) (node 12 11 0 nil nil)) nil) (node 13 1 0 (node 14 11 0 nil nil) nil))) nil)

unfoldable pub twice_records : Records
twice_records = record {
  bindings = (0 ∷ 4 ∷ 0 ∷ 1 ∷ 1 ∷ 0 ∷ 1 ∷ 0 ∷ []) ∷ (0 ∷ 10 ∷ 0 ∷ 1 ∷ 1 ∷ 0 ∷ 1 ∷ 1 ∷ []) ∷ [];
  entries = [];
  scopes = (0 ∷ 2 ∷ []) ∷ [];
  slots = (0 ∷ 0 ∷ []) ∷ (0 ∷ 0 ∷ []) ∷ [];
  copies = [];
  names = (4 ∷ 2 ∷ 0 ∷ 0 ∷ []) ∷ (10 ∷ 2 ∷ 1 ∷ 1 ∷ []) ∷ [];
  answers = (6 ∷ 2 ∷ 0 ∷ 0 ∷ []) ∷ (12 ∷ 2 ∷ 1 ∷ 1 ∷ []) ∷ (14 ∷ 3 ∷ 0 ∷ 0 ∷ []) ∷ [];
  errors = [];
}

-- `x=1`, `y=1`, `y`, `def f(): x` and a global there: x is captured, y is not
unfoldable pub module_name : File
module_name = file 9 false [] (3 ∷ [])
    (node 0 0 0 (node 1 2 0 (node 2 8 0 nil (node 3 14 0 nil nil)) (node 4 2 0 (node 5 8 1 nil (node 6 14 0 nil nil)) (node 7 1 0 (node 8 11 1 nil nil) (node 9 6 1 (node 10 8 2 nil (node 11 1 0 (node 12 14 0 (node 13 11 0 nil (node 14 11 3 nil nil)) nil) nil)) nil)))) nil)

unfoldable pub module_name_records : Records
module_name_records = record {
  bindings = (0 ∷ 2 ∷ 0 ∷ 1 ∷ 0 ∷ 1 ∷ 0 ∷ 0 ∷ []) ∷ (1 ∷ 5 ∷ 0 ∷ 1 ∷ 0 ∷ 0 ∷ 0 ∷ 1 ∷ []) ∷ (2 ∷ 10 ∷ 0 ∷ 1 ∷ 0 ∷ 0 ∷ 0 ∷ 2 ∷ []) ∷ [];
  entries = (0 ∷ 1 ∷ 0 ∷ []) ∷ (1 ∷ 1 ∷ 1 ∷ []) ∷ (2 ∷ 1 ∷ 2 ∷ []) ∷ [];
  scopes = (0 ∷ 0 ∷ []) ∷ (0 ∷ 0 ∷ []) ∷ [];
  slots = [];
  copies = [];
  names = (2 ∷ 1 ∷ 0 ∷ 0 ∷ []) ∷ (5 ∷ 1 ∷ 1 ∷ 1 ∷ []) ∷ (10 ∷ 1 ∷ 2 ∷ 2 ∷ []) ∷ [];
  answers = (8 ∷ 1 ∷ 1 ∷ 1 ∷ []) ∷ (13 ∷ 1 ∷ 0 ∷ 0 ∷ []) ∷ (14 ∷ 3 ∷ 0 ∷ 0 ∷ []) ∷ [];
  errors = [];
}

pub further : map records (gaps ∷ promoted ∷ def_in_for ∷ return_a ∷ free_in_type ∷ clauses ∷ twice ∷ module_name ∷ [])
    ≡ gaps_records ∷ promoted_records ∷ def_in_for_records ∷ return_a_records ∷ free_in_type_records ∷ clauses_records ∷ twice_records ∷ module_name_records ∷ []
unfolding records file gaps gaps_records promoted promoted_records def_in_for def_in_for_records return_a return_a_records free_in_type free_in_type_records clauses clauses_records twice twice_records module_name module_name_records
further = refl

-- the theorems' hypothesis holds of such files: of the listing's
pub listing_scoped : Scoped listing
unfolding listing file scopes_in listed when is_fn way
listing_scoped = record { distinct = (two, ((λ m. m), tt)); positive = none }
  where
    two : In 1 (2 ∷ []) → ⊥
    two (inl e) = omega arith
    two (inr x') = elim x' [ ]

    none : In 0 (1 ∷ 2 ∷ []) → ⊥
    none (inl e) = omega arith
    none (inr (inl e)) = omega arith
    none (inr (inr x'')) = elim x'' [ ]
