-- The blocks themselves: the module, each Def and Lambda in node order (walk two), and a comprehension.
use Rattle.std.specs.Prelude.{ℕ, ◌+◌, ◌*◌, ◌<◌, ◌≤◌, ◌≡◌, Bool, false, List, [], ◌∷◌, ◌++◌, eqb, length, Result}
use Rattle.std.proofs.Math.Option.{none}
use Rattle.lexical.specs.Lists.{first}
use Rattle.lexical.specs.Places.{Distinct}
use Rattle.lexical.specs.Tree.{Forest, Way, way, is_fn, when, top, params, params_in, scopes_in}
use Rattle.lexical.specs.Binders.{collect, unmarked, looping, targets}
use Rattle.lexical.specs.Module.{File, module_vars}
use Rattle.lexical.specs.State.{Binding, Row, St}
use Rattle.lexical.specs.Block.{block}
use Rattle.lexical.specs.First.{start}
use Rattle.lexical.specs.Second.{declare_fn, declare_here, keyed, rows, second}
use Rattle.lexical.specs.Records.{params_of}
use Rattle.nodefile.specs.Node.{size_of, kind_of, value_of, below}
use Rattle.nodefile.specs.Reads.{Reads}
use Rattle.store.specs.declared.ids.State.{State}
use Rattle.store.specs.declared.ids.Full.{Full}
use Rattle.store.specs.declared.ids.Block.{Block}
use Rattle.store.specs.declared.ids.Marks.{Marks}
use Rattle.store.specs.Sections.{Mem, Long}
use Rattle.store.specs.Rel.{World, R}
use Rattle.store.specs.Blocks.{titles}
use Rattle.nodefile.specs.Valid.{NodeOk, Valid}

-- the module's block and a target with nothing around it, as code has them
abbrev pub module_is : Block
module_is = record { scope = record { 0 = 0 }; first = 0; local = false }

abbrev pub plain_marks : Marks
plain_marks = record { in_loop = false; load = false; param = false }

-- the rows of walk two so far, and the parameters that it has counted
unfoldable pub counted : ℕ → ℕ × ℕ → Bool
counted s p = eqb p.0 s

abbrev pub world_of : File → List Row → List (ℕ × ℕ) → World
world_of F tbl ps = record { F = F; M = (start F).made; mods = titles (module_vars F); D = rows tbl; P = λ s. params_of (first (counted s) ps) }

-- what a node adds to them: a function its own
abbrev pub own_params : Way → ℕ → Forest → List (ℕ × ℕ)
own_params w s kids = when (is_fn w) (s, params kids)

-- scope s has no row yet
pub record Unmet (s : ℕ) (tbl : List Row) (ps : List (ℕ × ℕ)) : Type 0 where
  pub row : first (keyed s) tbl ≡ none
  pub parameters : first (counted s) ps ≡ none

-- a function: the part holds its Params and what follows them
pub record Function (part : List ℕ) (at scope : ℕ) (s : Result State Full) (m : Mem) : Type 0 where
  pub F : File
  pub tbl : List Row
  pub ps : List (ℕ × ℕ)
  pub st : St
  pub f : Forest
  pub reads : Reads part at f
  pub valid : Valid f
  pub small : scope < 256
  pub unmet : Unmet scope tbl ps
  pub rel : R (world_of F tbl ps) [] (0 ∷ []) st s m

pub record PreFunction (part : List ℕ) (at scope : ℕ) (s : Result State Full) (m : Mem) : Type 0 where
  pub long : Long m
  pub below : 0 < at
  pub within : 8 * at + length part ≤ 16384
  pub ghost : Function part at scope s m

pub record FunctionDone (part : List ℕ) (at scope : ℕ) (s : Result State Full) (m : Mem) (r : Result State Full) (m' : Mem) : Type 0 where
  pub right : (g : Function part at scope s m)
      → let x = declare_fn scope (collect g.F.names unmarked g.f) (g.tbl, g.st) in
      R (world_of g.F x.0 (g.ps ++ ((scope, params g.f) ∷ []))) [] (0 ∷ []) x.1 r m'

-- the node that a part starts with
pub record Here (part : List ℕ) (at : ℕ) (s : Result State Full) (m : Mem) : Type 0 where
  pub F : File
  pub tbl : List Row
  pub ps : List (ℕ × ℕ)
  pub st : St
  pub k : ℕ
  pub v : ℕ
  pub kids : Forest
  pub kind_is : kind_of part ≡ k
  pub value_is : value_of part ≡ v
  pub some : 0 < size_of part
  pub inside : 8 * size_of part ≤ length part
  pub reads : Reads (below part) (at + 1) kids
  pub ok : NodeOk at k v kids
  pub valid : Valid kids
  pub def_unmet : k ≡ 6 → Unmet v tbl ps
  pub lambda_unmet : k ≡ 12 → Unmet v tbl ps
  pub rel : R (world_of F tbl ps) [] (0 ∷ []) st s m

pub record PreHere (part : List ℕ) (at : ℕ) (s : Result State Full) (m : Mem) : Type 0 where
  pub long : Long m
  pub within : 8 * at + length part ≤ 16384
  pub ghost : Here part at s m

pub record HereDone (part : List ℕ) (at : ℕ) (s : Result State Full) (m : Mem) (r : Result State Full) (m' : Mem) : Type 0 where
  pub right : (g : Here part at s m)
      → let x = declare_here (way g.k) g.v (targets g.F.names g.k g.kids) (g.tbl, g.st) in
      R (world_of g.F x.0 (g.ps ++ own_params (way g.k) g.v g.kids)) [] (0 ∷ []) x.1 r m'

-- the whole list of nodes
pub record AllNodes (list : List ℕ) (s : Result State Full) (m : Mem) : Type 0 where
  pub F : File
  pub reads : Reads list 0 F.root
  pub valid : Valid F.root
  pub apart : Distinct (scopes_in F.root)
  pub rel : R (world_of F [] []) [] (0 ∷ []) (start F) s m

pub record PreAll (list : List ℕ) (s : Result State Full) (m : Mem) : Type 0 where
  pub long : Long m
  pub within : length list ≤ 16384
  pub ghost : AllNodes list s m

pub record AllDone (list : List ℕ) (s : Result State Full) (m : Mem) (r : Result State Full) (m' : Mem) : Type 0 where
  pub right : (g : AllNodes list s m) → R (world_of g.F (second g.F).0 (params_in g.F.root)) [] (0 ∷ []) (second g.F).1 r m'

-- a comprehension: the part holds its children
pub record Compr (part : List ℕ) (at : ℕ) (s : Result State Full) (m : Mem) : Type 0 where
  pub W : World
  pub env : List Binding
  pub ss : List ℕ
  pub st : St
  pub f : Forest
  pub reads : Reads part at f
  pub valid : Valid f
  pub rel : R W env ss st s m

pub record PreCompr (part : List ℕ) (at : ℕ) (s : Result State Full) (m : Mem) : Type 0 where
  pub long : Long m
  pub within : 8 * at + length part ≤ 16384
  pub ghost : Compr part at s m

-- its variables are in reach; their numbers start where the bindings ended
pub record ComprDone (part : List ℕ) (at : ℕ) (s : Result State Full) (m : Mem) (r : Result State Full) (m' : Mem) : Type 0 where
  pub right : (g : Compr part at s m)
      → let x = block (top g.ss) (collect g.W.F.names looping g.f) g.st in
      R g.W (x.0 ++ g.env) g.ss x.1 r m'
