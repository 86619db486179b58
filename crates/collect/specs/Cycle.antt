-- Collecting the targets of some nodes: contracts of the functions that call one another.
use Rattle.std.specs.Prelude.{ℕ, ◌+◌, ◌*◌, ◌<◌, ◌≤◌, ◌≡◌, List, ◌++◌, length, Result}
use Rattle.lexical.specs.Tree.{Forest}
use Rattle.lexical.specs.Binders.{Target, collect}
use Rattle.lexical.specs.State.{Binding}
use Rattle.nodefile.specs.Node.{size_of, kind_of}
use Rattle.nodefile.specs.Reads.{Reads}
use Rattle.store.specs.declared.ids.State.{State}
use Rattle.store.specs.declared.ids.Full.{Full}
use Rattle.store.specs.declared.ids.Block.{Block}
use Rattle.store.specs.declared.ids.Marks.{Marks}
use Rattle.store.specs.Sections.{Mem, Long}
use Rattle.store.specs.Rel.{World}
use Rattle.store.specs.Blocks.{BlockEnv, RB}
use Rattle.nodefile.specs.Valid.{Valid}
use Rattle.target.specs.Target.{BlockIs, marks_of}

-- the part holds a forest, and the block has the targets ts so far
pub record Ghost (part : List ℕ) (at : ℕ) (b : Block) (s : Result State Full) (m : Mem) : Type 0 where
  pub W : World
  pub env : List Binding
  pub ss : List ℕ
  pub E : BlockEnv
  pub ts : List Target
  pub f : Forest
  pub reads : Reads part at f
  pub valid : Valid f
  pub is : BlockIs E b
  pub rel : RB W env ss E ts s m

pub record Pre (part : List ℕ) (at : ℕ) (b : Block) (s : Result State Full) (m : Mem) : Type 0 where
  pub long : Long m
  pub within : 8 * at + length part ≤ 16384
  pub ghost : Ghost part at b s m

-- the part is one node
pub record Pre1 (part : List ℕ) (at : ℕ) (b : Block) (s : Result State Full) (m : Mem) : Type 0 where
  pub some : 0 < size_of part
  pub whole : 8 * size_of part ≡ length part
  pub pre : Pre part at b s m

-- .. of these kinds
pub record PreKind (lo hi : ℕ) (part : List ℕ) (at : ℕ) (b : Block) (s : Result State Full) (m : Mem) : Type 0 where
  pub low : lo ≤ kind_of part
  pub high : kind_of part ≤ hi
  pub one : Pre1 part at b s m

-- then the block has the targets of the forest too
pub record Done (part : List ℕ) (at : ℕ) (b : Block) (marks : Marks) (s : Result State Full) (m : Mem) (r : Result State Full) (m' : Mem) : Type 0 where
  pub right : (g : Ghost part at b s m) → RB g.W g.env g.ss g.E (g.ts ++ collect g.W.F.names (marks_of marks) g.f) r m'
