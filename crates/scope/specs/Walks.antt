-- The walks of a ready file: from working lists that are all zero to the state that `lexical` resolves the file to.
use Rattle.std.specs.Prelude.{ℕ, ◌≤◌, ◌≡◌, List, length, Result, MatchResult}
use Rattle.lexical.specs.Lists.{first}
use Rattle.lexical.specs.Tree.{Forest, params_in}
use Rattle.lexical.specs.First.{start}
use Rattle.lexical.specs.Third.{resolved}
use Rattle.lexical.specs.Records.{params_of}
use Rattle.nodefile.specs.Layout.{nodes_of}
use Rattle.nodefile.specs.FileOf.{file_of}
use Rattle.store.specs.declared.ids.Full.{Full}
use Rattle.store.specs.Sections.{Mem, mem, Long}
use Rattle.store.specs.Image.{Image}
use Rattle.store.specs.Rel.{Over, caps}
use Rattle.store.proofs.Laws.Points.{Zeros}
use Rattle.collect.specs.Declare.{counted}
use Rattle.note.specs.Noted.{Noted}
use Rattle.scope.specs.declared.Walked.{Walked}
use Rattle.scope.specs.Ready.{Ready}

-- each scope's parameter variables
abbrev pub params_at : Forest → ℕ → ℕ
params_at root s = params_of (first (counted s) (params_in root))

-- the end of all three: the working lists are those of the last state
pub record Finished (bs : List ℕ) (root : Forest) (v : Walked) (m : Mem) : Type 0 where
  pub image : Image (start (file_of bs root)).made (params_at root) (caps (resolved (file_of bs root))) (resolved (file_of bs root)) v.st m
  pub first : v.«module» ≡ length (start (file_of bs root)).made

-- or a list was full
abbrev pub Ended : List ℕ → Forest → Result Walked Full → Mem → Type 0
Ended bs root r m = MatchResult r (λ v. Finished bs root v m) (λ _. Over (resolved (file_of bs root)))

-- a ready file whose lists are noted, before its nodes are walked over
pub record Begun (list : List ℕ) (entries : ℕ) (m : Mem) : Type 0 where
  pub bs : List ℕ
  pub root : Forest
  pub ready : Ready bs root
  pub list_is : list ≡ nodes_of bs
  pub noted : Noted (file_of bs root) entries m.binds m.t
  pub blank : Zeros m.w

pub record PreNodes (list : List ℕ) (entries : ℕ) (m : Mem) : Type 0 where
  pub long : Long m
  pub ghost : Begun list entries m

pub record NodesDone (list : List ℕ) (entries : ℕ) (m : Mem) (r : Result Walked Full) (m' : Mem) : Type 0 where
  pub right : (g : Begun list entries m) → Ended g.bs g.root r m'

-- a ready file, and blank lists; what the walks leave in them
pub record PreWalk (bs binds w : List ℕ) : Type 0 where
  pub long_binds : 2304 ≤ length binds
  pub blank_binds : Zeros binds
  pub blank_w : Zeros w
  pub root : Forest
  pub ready : Ready bs root

pub record WalkDone (bs : List ℕ) (r : Result Walked Full) (binds w : List ℕ) : Type 0 where
  pub right : (root : Forest) → Ready bs root → (t : List ℕ) × Ended bs root r (mem binds w t)
