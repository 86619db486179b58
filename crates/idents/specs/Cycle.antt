-- Resolving some nodes: contracts of the functions that call one another.
use Rattle.std.specs.Prelude.{ℕ, ◌+◌, ◌*◌, ◌/◌, ◌<◌, ◌≤◌, ◌≡◌, Bool, ◌⊎◌, List, length, take, drop, Result}
use Rattle.lexical.specs.Places.{In, Distinct}
use Rattle.lexical.specs.Tree.{Forest, nil, node, scopes_in, ◌⊕◌}
use Rattle.lexical.specs.Module.{outer}
use Rattle.lexical.specs.State.{Binding, St}
use Rattle.lexical.proofs.Laws.Visit.{each}
use Rattle.nodefile.specs.Node.{size_of, kind_of}
use Rattle.nodefile.specs.Reads.{Reads}
use Rattle.nodefile.specs.Height.{height}
use Rattle.store.specs.declared.ids.State.{State}
use Rattle.store.specs.declared.ids.Full.{Full}
use Rattle.store.specs.Sections.{Mem, Long}
use Rattle.store.specs.Rel.{World, R}
use Rattle.nodefile.specs.Valid.{Valid, Some}
use Rattle.lookup.specs.Lookup.{Settled}
use Rattle.lookup.specs.Enter.{OwnedIn}

-- the part holds a forest; the locals in reach and the scopes around it
pub record Ghost (part : List ℕ) (at : ℕ) (s : Result State Full) (m : Mem) : Type 0 where
  pub W : World
  pub env : List Binding
  pub ss : List ℕ
  pub st : St
  pub f : Forest
  pub settled : Settled W
  pub reads : Reads part at f
  pub valid : Valid f
  pub deep : length ss + height f ≤ 127
  pub around : 0 < length ss
  pub owned : OwnedIn env ss
  pub apart : Distinct (scopes_in f)
  pub unmet : (s : ℕ) → In s (scopes_in f) → In s ss → ⊥
  pub rel : R W env ss st s m

pub record Pre (part : List ℕ) (at : ℕ) (s : Result State Full) (m : Mem) : Type 0 where
  pub long : Long m
  pub within : 8 * at + length part ≤ 16384
  pub ghost : Ghost part at s m

-- the part is one node
pub record Pre1 (part : List ℕ) (at : ℕ) (s : Result State Full) (m : Mem) : Type 0 where
  pub some : 0 < size_of part
  pub whole : 8 * size_of part ≡ length part
  pub pre : Pre part at s m

-- .. of these kinds
pub record PreKind (lo hi : ℕ) (part : List ℕ) (at : ℕ) (s : Result State Full) (m : Mem) : Type 0 where
  pub low : lo ≤ kind_of part
  pub high : kind_of part ≤ hi
  pub one : Pre1 part at s m

-- what the names of the forest come to, as `lexical` resolves them
abbrev pub resolved_at : {part : List ℕ} {at : ℕ} {s : Result State Full} {m : Mem} → Ghost part at s m → Bool → St
resolved_at g ty = each g.W.F.names g.W.D (outer g.W.mods g.W.F.globals) g.f (record { env = g.env; scopes = g.ss; ty = ty }) g.st

pub record Done (part : List ℕ) (at : ℕ) (ty : Bool) (s : Result State Full) (m : Mem) (r : Result State Full) (m' : Mem) : Type 0 where
  pub right : (g : Ghost part at s m) → R g.W g.env g.ss (resolved_at g ty) r m'

-- the same where the node itself decides what counts as a type
pub record DoneAny (part : List ℕ) (at : ℕ) (s : Result State Full) (m : Mem) (r : Result State Full) (m' : Mem) : Type 0 where
  pub right : (g : Ghost part at s m) (ty : Bool) → R g.W g.env g.ss (resolved_at g ty) r m'

-- a Def or a Lambda
pub record PreDef (part : List ℕ) (at : ℕ) (s : Result State Full) (m : Mem) : Type 0 where
  pub function : (kind_of part ≡ 6) ⊎ (kind_of part ≡ 12)
  pub one : Pre1 part at s m

-- a part that holds some nodes
pub record Parted (part : List ℕ) : Type 0 where
  pub at : ℕ
  pub f : Forest
  pub reads : Reads part at f
  pub some : Some f

-- the last of them starts at byte b
pub record LastAt (part : List ℕ) (at : ℕ) (f : Forest) (b : ℕ) : Type 0 where
  pub inside : b + 8 ≤ length part
  pub eights : 8 * (b / 8) ≡ b
  pub front : Forest
  pub a : ℕ
  pub k : ℕ
  pub v : ℕ
  pub kids : Forest
  pub split : f ≡ front ⊕ node a k v kids nil
  pub front_reads : Reads (take b part) at front
  pub last_reads : Reads (drop b part) (at + b / 8) (node a k v kids nil)
