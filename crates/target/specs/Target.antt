-- One target of a block that is being collected: a name that the block has already, or a new one.
use Rattle.std.specs.Prelude.{ℕ, ◌+◌, ◌<◌, ◌≡◌, Bool, List, [], ◌∷◌, ◌++◌, Result, Ok}
use Rattle.std.proofs.Math.Option.{none, some}
use Rattle.lexical.specs.Lists.{place}
use Rattle.lexical.specs.Binders as bind
use Rattle.lexical.specs.Binders.{Target, target}
use Rattle.lexical.specs.State.{Binding}
use Rattle.store.specs.declared.ids.State.{State}
use Rattle.store.specs.declared.ids.Full.{Full}
use Rattle.store.specs.declared.ids.Block.{Block}
use Rattle.store.specs.declared.ids.Marks.{Marks}
use Rattle.store.specs.Sections.{Mem, mem, Long}
use Rattle.store.specs.Rel.{World}
use Rattle.store.specs.Blocks.{BlockEnv, InBlock, RB, vars_of, titles}

abbrev pub a_target : ℕ → ℕ → Bool → Bool → Target
a_target at name any public = record { node = at; name = name; any = any; public = public }

abbrev pub marks_of : Marks → bind.Marks
marks_of m = record { loop = m.in_loop; load = m.load; param = m.param }

-- a name that the block has: its k-th; the list t is not needed for it
pub record Again (id at : ℕ) (local : Bool) (s : State) (binds w : List ℕ) : Type 0 where
  pub W : World
  pub env : List Binding
  pub ss : List ℕ
  pub E : BlockEnv
  pub ts : List Target
  pub t : List ℕ
  pub rel : InBlock W env ss E ts s (mem binds w t)
  pub local_is : local ≡ E.local
  pub node : at < 2048
  pub name : ℕ
  pub k : ℕ
  pub known : place name (titles (vars_of E ts)) ≡ some k
  pub number : id ≡ E.first + k

pub record AgainDone (id at : ℕ) (local public : Bool) (s : State) (binds w binds' w' : List ℕ) : Type 0 where
  pub right : (g : Again id at local s binds w) (any : Bool) → RB g.W g.env g.ss g.E (g.ts ++ (a_target at g.name any public ∷ [])) (Ok s) (mem binds' w' g.t)

-- a name that it does not have
pub record Fresh (name at scope : ℕ) (local : Bool) (s : State) (m : Mem) : Type 0 where
  pub W : World
  pub env : List Binding
  pub ss : List ℕ
  pub E : BlockEnv
  pub ts : List Target
  pub rel : InBlock W env ss E ts s m
  pub local_is : E.local ≡ local
  pub scope_is : E.scope ≡ scope
  pub node : at < 2048
  pub small : name < 1024
  pub unknown : place name (titles (vars_of E ts)) ≡ none

pub record FreshDone (name at scope : ℕ) (local any public : Bool) (s : State) (m : Mem) (r : Result State Full) (m' : Mem) : Type 0 where
  pub right : (g : Fresh name at scope local s m) → RB g.W g.env g.ss g.E (g.ts ++ (a_target at name any public ∷ [])) r m'

-- the block that code is told of
pub record BlockIs (E : BlockEnv) (b : Block) : Type 0 where
  pub scope_is : b.scope.0 ≡ E.scope
  pub first-is : b.first ≡ E.first
  pub local_is : b.local ≡ E.local

-- any target
pub record Meets (name at : ℕ) (b : Block) (s : Result State Full) (m : Mem) : Type 0 where
  pub W : World
  pub env : List Binding
  pub ss : List ℕ
  pub E : BlockEnv
  pub ts : List Target
  pub is : BlockIs E b
  pub rel : RB W env ss E ts s m
  pub node : at < 2048
  pub small : name < 1024

pub record PreTarget (name at : ℕ) (b : Block) (s : Result State Full) (m : Mem) : Type 0 where
  pub long : Long m
  pub ghost : Meets name at b s m

pub record DoneTarget (name at : ℕ) (b : Block) (marks : Marks) (s : Result State Full) (m : Mem) (r : Result State Full) (m' : Mem) : Type 0 where
  pub right : (g : Meets name at b s m) → RB g.W g.env g.ss g.E (g.ts ++ (target g.W.F.names (marks_of marks) at name ∷ [])) r m'
