-- The node tree of document 01 ("The node file") without its bytes, and the two tables by which the walks treat its kinds.
use Rattle.std.specs.Prelude.{List, [], ◌∷◌, ◌++◌, Bool, true, false, cond, not, ◌&&◌, ℕ, ◌+◌, eqb, get_or}

-- sibling nodes: the first one's number, kind and value, what is below it, and the siblings after it
pub data Forest : Type 0 where
  nil : Forest
  node : (at kind value : ℕ) (kids rest : Forest) → Forest

unfoldable pub empty : Forest → Bool
empty nil = true
empty (node at k v kids rest) = false

unfoldable pub after : Forest → Forest
after nil = nil
after (node at k v kids rest) = rest

-- one list of siblings after another
unfoldable pub ◌⊕◌ : Forest → Forest → Forest
◌⊕◌ nil g = g
◌⊕◌ (node at k v kids rest) g = node at k v kids (◌⊕◌ rest g)

infixr 60 ◌⊕◌
-- how a kind is resolved: an Ident is looked up; Def and Lambda, Compr, ForClause and Type each treat their children in a way of their own
pub data Way : Type 0 where
  plain look fn compr clause type : Way

unfoldable pub way : ℕ → Way
way k = get_or (
    plain ∷ plain ∷ plain ∷ plain ∷ plain ∷ plain ∷ fn ∷ plain  -- Block, Plain, Assign, Modify, If, For, Def, Load
    ∷ plain ∷ plain ∷ plain ∷ look ∷ fn ∷ compr ∷ plain  -- Name, Tuple, Place, Ident, Lambda, Compr, Other
    ∷ clause ∷ plain ∷ plain ∷ type ∷ []  -- ForClause, IfClause, Param, Type
    ) k plain

unfoldable pub is_look : Way → Bool
is_look plain = false
is_look look = true
is_look fn = false
is_look compr = false
is_look clause = false
is_look type = false

unfoldable pub is_fn : Way → Bool
is_fn plain = false
is_fn look = false
is_fn fn = true
is_fn compr = false
is_fn clause = false
is_fn type = false

unfoldable pub is_compr : Way → Bool
is_compr plain = false
is_compr look = false
is_compr fn = false
is_compr compr = true
is_compr clause = false
is_compr type = false

-- when a child has its turn among its siblings, by the parent's way and whether it is the first child, the last:
-- in node order; as the body, inside its function; as the first clause, before its comprehension's variables are bound;
-- as the target of a ForClause, after the expression behind it
pub data Turn : Type 0 where
  in_order inside opening behind : Turn

unfoldable pub turn : Way → Bool → Bool → Turn
turn plain f l = in_order
turn look f l = in_order
turn fn f true = inside
turn fn f false = in_order
turn compr true l = opening
turn compr false l = in_order
turn clause true l = behind
turn clause false l = in_order
turn type f l = in_order

-- how a kind is collected: a Name binds; of a Def its name alone; For, Load and Param mark the targets in them; expressions and Types have none
pub data Pick : Type 0 where
  through shut head name loop load param : Pick

unfoldable pub pick : ℕ → Pick
pick k = get_or (
    through ∷ through ∷ through ∷ through ∷ through ∷ loop ∷ head ∷ load  -- Block, Plain, Assign, Modify, If, For, Def, Load
    ∷ name ∷ through ∷ through ∷ shut ∷ shut ∷ shut ∷ shut  -- Name, Tuple, Place, Ident, Lambda, Compr, Other
    ∷ through ∷ through ∷ param ∷ shut ∷ []  -- ForClause, IfClause, Param, Type
    ) k shut

unfoldable pub is_name : Pick → Bool
is_name through = false
is_name shut = false
is_name head = false
is_name name = true
is_name loop = false
is_name load = false
is_name param = false

-- one, where a test holds
unfoldable pub when : {A : Type 0} → Bool → A → List A
when true a = a ∷ []
when false a = []

-- what g says of each node whose kind passes a test, in node order
unfoldable pub listed : {A : Type 0} → (ℕ → Bool) → (ℕ → ℕ → ℕ → Forest → A) → Forest → List A
listed p g nil = []
listed p g (node at k v kids rest) = when (p k) (g at k v kids) ++ (listed p g kids ++ listed p g rest)

unfoldable pub nodes_in : Forest → List ℕ
nodes_in f = listed (λ k. true) (λ at k v kids. at) f

unfoldable pub idents_in : Forest → List ℕ
idents_in f = listed (λ k. is_look (way k)) (λ at k v kids. at) f

unfoldable pub names_in : Forest → List ℕ
names_in f = listed (λ k. is_name (pick k)) (λ at k v kids. at) f

-- the scope numbers of the Defs and Lambdas
unfoldable pub scopes_in : Forest → List ℕ
scopes_in f = listed (λ k. is_fn (way k)) (λ at k v kids. v) f

-- a function's parameter variables: its Params that have a Name
unfoldable pub params : Forest → ℕ
params nil = 0
params (node at k v kids rest) = cond (eqb k 17 && not (empty kids)) 1 0 + params rest

-- each function's scope number and parameter variables
unfoldable pub params_in : Forest → List (ℕ × ℕ)
params_in f = listed (λ k. is_fn (way k)) (λ at k v kids. (v, params kids)) f

-- the innermost of some scopes
unfoldable pub top : List ℕ → ℕ
top [] = 0
top (s ∷ ss) = s
