-- Document 01's table of children ("The node file"), over the kinds of a node's children, and a tree that keeps to it (no node meets condition 8, nor 7 by its kind).
use Rattle.std.specs.Prelude.{◌≡◌, List, [], ◌∷◌, ◌++◌, Bool, true, false, cond, ◌&&◌, ◌||◌, ℕ, ◌≤◌, leb, eqb, get_or}
use Rattle.lexical.specs.Tree.{Forest, nil, node, pick, shut}

-- a place of a row: one child, at most one, any number, each of the kinds lo to hi
pub data Item : Type 0 where
  one opt many : (lo hi : ℕ) → Item

unfoldable pub row : ℕ → List Item
row k = get_or (
    (many 0 7 ∷ [])  -- 0 Block: statements
    ∷ (opt 11 14 ∷ [])  -- 1 Plain
    ∷ (one 8 10 ∷ opt 18 18 ∷ one 11 14 ∷ [])  -- 2 Assign
    ∷ (one 8 10 ∷ one 11 14 ∷ [])  -- 3 Modify
    ∷ (one 11 14 ∷ one 0 7 ∷ opt 0 7 ∷ [])  -- 4 If
    ∷ (one 8 10 ∷ one 11 14 ∷ one 0 7 ∷ [])  -- 5 For
    ∷ (one 8 8 ∷ many 17 17 ∷ opt 18 18 ∷ one 0 7 ∷ [])  -- 6 Def
    ∷ (many 8 8 ∷ [])  -- 7 Load
    ∷ []  -- 8 Name
    ∷ (many 8 10 ∷ [])  -- 9 Tuple
    ∷ (one 11 14 ∷ opt 11 14 ∷ [])  -- 10 Place
    ∷ []  -- 11 Ident
    ∷ (many 17 17 ∷ one 11 14 ∷ [])  -- 12 Lambda
    ∷ (one 15 15 ∷ many 15 16 ∷ one 11 14 ∷ opt 11 14 ∷ [])  -- 13 Compr
    ∷ (many 11 14 ∷ [])  -- 14 Other
    ∷ (one 8 10 ∷ one 11 14 ∷ [])  -- 15 ForClause
    ∷ (one 11 14 ∷ [])  -- 16 IfClause
    ∷ (one 8 8 ∷ opt 18 18 ∷ opt 11 14 ∷ [])  -- 17 Param, where it has any
    ∷ (one 11 14 ∷ [])  -- 18 Type
    ∷ []
    ) k []

unfoldable pub within : ℕ → ℕ → ℕ → Bool
within lo hi k = leb lo k && leb k hi

unfoldable pub head_in : ℕ → ℕ → List ℕ → Bool
head_in lo hi [] = false
head_in lo hi (k ∷ ks) = within lo hi k

unfoldable pub drop_one : ℕ → ℕ → List ℕ → List ℕ
drop_one lo hi [] = []
drop_one lo hi (k ∷ ks) = cond (within lo hi k) ks (k ∷ ks)

unfoldable pub drop_many : ℕ → ℕ → List ℕ → List ℕ
drop_many lo hi [] = []
drop_many lo hi (k ∷ ks) = cond (within lo hi k) (drop_many lo hi ks) (k ∷ ks)

unfoldable pub is_empty : List ℕ → Bool
is_empty [] = true
is_empty (k ∷ ks) = false

-- the kinds ks of the children are as a row says
unfoldable pub matches : List Item → List ℕ → Bool
matches [] ks = is_empty ks
matches (one lo hi ∷ is) ks = head_in lo hi ks && matches is (drop_one lo hi ks)
matches (opt lo hi ∷ is) ks = matches is (drop_one lo hi ks)
matches (many lo hi ∷ is) ks = matches is (drop_many lo hi ks)

-- a Param may have no children
unfoldable pub allowed : ℕ → List ℕ → Bool
allowed k ks = (eqb k 17 && is_empty ks) || matches (row k) ks

unfoldable pub kinds : Forest → List ℕ
kinds nil = []
kinds (node at k v kids rest) = k ∷ kinds rest

unfoldable pub Tabled : Forest → Type 0
Tabled nil = Unit {0}
Tabled (node at k v kids rest) = (k ≤ 18) × (allowed k (kinds kids) ≡ true) × Tabled kids × Tabled rest

-- the names of a function's Params, in order; condition 11 is that no two are alike
unfoldable pub own_name : Forest → List ℕ
own_name nil = []
own_name (node at k n kids rest) = n ∷ []

unfoldable pub param_names : Forest → List ℕ
param_names nil = []
param_names (node at k v kids rest) = cond (eqb k 17) (own_name kids) [] ++ param_names rest

-- what the bounds by Names use of the table: a Def's first child is a Name
unfoldable pub FirstName : Forest → Type 0
FirstName nil = Unit {0}
FirstName (node at k v kids rest) = k ≡ 8

unfoldable pub Headed : Forest → Type 0
Headed nil = Unit {0}
Headed (node at k v kids rest) = (k ≡ 6 → FirstName kids) × Headed kids × Headed rest

-- expressions and Types: kinds that give no targets
unfoldable pub Exprs : Forest → Type 0
Exprs nil = Unit {0}
Exprs (node at k v kids rest) = (pick k ≡ shut) × Exprs rest

-- what the table says of the places where a Name could be lost: a Def begins with a Name; Names and Idents have no children; Others and Types have expressions
pub record TidyHere (k : ℕ) (kids : Forest) : Type 0 where
  pub low : k ≤ 18
  pub def : k ≡ 6 → FirstName kids
  pub name : k ≡ 8 → kids ≡ nil
  pub ident : k ≡ 11 → kids ≡ nil
  pub other : k ≡ 14 → Exprs kids
  pub type : k ≡ 18 → Exprs kids

unfoldable pub Tidy : Forest → Type 0
Tidy nil = Unit {0}
Tidy (node at k v kids rest) = TidyHere k kids × Tidy kids × Tidy rest
