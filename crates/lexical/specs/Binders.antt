-- What a block binds (document 01, "First, the module" and "Second, each Def and Lambda"): its targets in order, each a Name that binds,
-- and the variables that they make. One `collect` for the module, for each Def and Lambda, and for each comprehension.
use Rattle.std.specs.Prelude.{List, [], ◌∷◌, ◌++◌, map, Bool, true, false, cond, not, ◌&&◌, ◌||◌, ℕ, eqb}
use Rattle.lexical.specs.Tree.{Forest, nil, node, Pick, through, shut, head, name, loop, load, param, pick, after}

-- which names begin with `_`, and whether Load passes names on
pub record Names : Type 0 where
  pub hidden : ℕ → Bool
  pub reexport : Bool

-- what stands around a target: a For or a comprehension; a Load; a Param
pub record Marks : Type 0 where
  pub loop : Bool
  pub load : Bool
  pub param : Bool

-- one Name that binds: its node, its name, whether it counts as any, whether it is Public
pub record Target : Type 0 where
  pub node : ℕ
  pub name : ℕ
  pub any : Bool
  pub public : Bool

-- a name bound by Load is shown if the file passes such names on
unfoldable pub load_shown : Names → Bool
load_shown N = N.reexport

-- a target's visibility: a parameter is Public; else Private if the name begins with `_`, or in a Load that is not shown
unfoldable pub visible : Names → Marks → ℕ → Bool
visible N m n = m.param || (not (N.hidden n) && (not m.load || load_shown N))

unfoldable pub target : Names → Marks → ℕ → ℕ → Target
target N m at n = record {
  node = at;
  name = n;
  any = m.loop;
  public = visible N m n;
}

-- a Def's first child, its name
unfoldable pub head_target : Names → Marks → Forest → List Target
head_target N m nil = []
head_target N m (node at k v kids rest) = target N m at v ∷ []

-- what one node gives, by its pick; `go` collects its children under the marks it is given
unfoldable pub gather : Names → Marks → Pick → ℕ → ℕ → Forest → (Marks → List Target) → List Target
gather N m through at v kids go = go m
gather N m shut at v kids go = []
gather N m head at v kids go = head_target N m kids
gather N m name at v kids go = target N m at v ∷ []
gather N m loop at v kids go = go (record { loop = true; load = m.load; param = m.param })
gather N m load at v kids go = go (record { loop = m.loop; load = true; param = m.param })
gather N m param at v kids go = go (record { loop = m.loop; load = m.load; param = true })

-- the targets among some nodes, in node order
unfoldable pub collect : Names → Marks → Forest → List Target
collect N m nil = []
collect N m (node at k v kids rest) = gather N m (pick k) at v kids (λ m. collect N m kids) ++ collect N m rest

unfoldable pub unmarked : Marks
unmarked = record { loop = false; load = false; param = false }

unfoldable pub looping : Marks
looping = record { loop = true; load = false; param = false }

-- what a node binds for its inside: a Def its Params and its body, a Lambda its Params, a Compr its clauses' targets
unfoldable pub targets : Names → ℕ → Forest → List Target
targets N k kids =
    cond (eqb k 6) (collect N unmarked (after kids))
    (cond (eqb k 12) (collect N unmarked kids)
    (cond (eqb k 13) (collect N looping kids) []))

-- a block's variable: its name; the Name node that first declared it, 65,535 for a module entry; whether it is an entry, Public, any
pub record Var : Type 0 where
  pub name : ℕ
  pub source : ℕ
  pub entry : Bool
  pub public : Bool
  pub any : Bool

-- their names
abbrev pub titles : List Var → List ℕ
titles vs = map (λ (v : Var). v.name) vs

unfoldable pub new_var : Target → Var
new_var t = record { name = t.name; source = t.node; entry = false; public = t.public; any = t.any }

-- a name bound again becomes any; a Public target promotes a Private variable, none is demoted
unfoldable pub again : Target → Var → Var
again t v = record { name = v.name; source = v.source; entry = v.entry; public = v.public || t.public; any = true }

-- one target more: a new name makes a variable, at the end
unfoldable pub note : Target → List Var → List Var
note t [] = new_var t ∷ []
note t (v ∷ vs) = cond (eqb v.name t.name) (again t v ∷ vs) (v ∷ note t vs)

unfoldable pub merge : List Var → List Target → List Var
merge vs [] = vs
merge vs (t ∷ ts) = merge (note t vs) ts
