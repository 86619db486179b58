-- A file without its bytes, and what its names mean outside all functions and comprehensions: the module's variables
-- (document 01, "First, the module": each entry, then the targets of the root), then the globals.
use Rattle.std.specs.Prelude.{List, map, Bool, true, false, ℕ}
use Rattle.std.proofs.Math.Option.{Option, none, some}
use Rattle.lexical.specs.Lists.{place}
use Rattle.lexical.specs.Tree.{Forest, name}
use Rattle.lexical.specs.Binders.{Names, collect, unmarked, Var, merge}

-- a module entry of the file
pub record Entry : Type 0 where
  pub name : ℕ
  pub public : Bool
  pub slot : ℕ

-- the file: what is known of its names, its module entries, its globals' names, its tree
pub record File : Type 0 where
  pub names : Names
  pub entries : List Entry
  pub globals : List ℕ
  pub root : Forest

-- an entry's variable: from the module, at most once so far
unfoldable pub entry_var : Entry → Var
entry_var e = record { name = e.name; source = 65535; entry = true; public = e.public; any = false }

-- the module's variables: the entries in order, then what the root binds
unfoldable pub module_vars : File → List Var
module_vars F = merge (map entry_var F.entries) (collect F.names unmarked F.root)

-- what stands outside all functions and comprehensions: a module binding's number, a global's number
pub data Outer : Type 0 where
  module' : ℕ → Outer
  global : ℕ → Outer
  missing : Outer

unfoldable pub globally : Option ℕ → Outer
globally none = missing
globally (some g) = global g

unfoldable pub beyond : Option ℕ → Option ℕ → Outer
beyond none g = globally g
beyond (some i) g = module' i

-- the module's names, then the globals
unfoldable pub outer : List ℕ → List ℕ → ℕ → Outer
outer mods globals n = beyond (place n mods) (place n globals)

-- of a file
unfoldable pub outer_of : File → ℕ → Outer
outer_of F = outer (map (λ (v : Var). v.name) (module_vars F)) F.globals
