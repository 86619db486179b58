-- Into a function, whose variables come into reach, and out of it again.
use Rattle.std.specs.Prelude.{ℕ, ◌<◌, ◌≡◌, List, ◌∷◌, ◌++◌, length, Result}
use Rattle.std.proofs.Math.Option.{some}
use Rattle.std.proofs.Math.ListN.{get_elem?}
use Rattle.lexical.specs.Places.{In}
use Rattle.lexical.specs.State.{Binding, St}
use Rattle.store.specs.declared.ids.State.{State}
use Rattle.store.specs.declared.ids.Full.{Full}
use Rattle.store.specs.Sections.{mem}
use Rattle.store.specs.Rel.{World, R}
use Rattle.lookup.specs.Lookup.{Settled}

-- each local in reach belongs to one of the scopes around
abbrev pub OwnedIn : List Binding → List ℕ → Type 0
OwnedIn env ss = (j : ℕ) (b : Binding) → get_elem? env j ≡ some b → In b.owner ss

-- a function that is entered; it is none of the scopes around
pub record Entering (scope : ℕ) (s : Result State Full) (binds t : List ℕ) : Type 0 where
  pub W : World
  pub env : List Binding
  pub ss : List ℕ
  pub st : St
  pub w : List ℕ
  pub small : scope < 256
  pub deep : length ss < 127
  pub settled : Settled W
  pub owned : OwnedIn env ss
  pub unmet : In scope ss → ⊥
  pub rel : R W env ss st s (mem binds w t)

pub record Entered (scope : ℕ) (s : Result State Full) (binds t : List ℕ) (r : Result State Full) (t' : List ℕ) : Type 0 where
  pub right : (g : Entering scope s binds t) → R g.W (g.W.D scope ++ g.env) (scope ∷ g.ss) g.st r (mem binds g.w t')

-- a function that is left; another scope is around it
pub record Leaving (scope : ℕ) (s : Result State Full) (binds t : List ℕ) : Type 0 where
  pub W : World
  pub env : List Binding
  pub ss : List ℕ
  pub st : St
  pub w : List ℕ
  pub small : scope < 256
  pub outside : 0 < length ss
  pub rel : R W (W.D scope ++ env) (scope ∷ ss) st s (mem binds w t)

pub record Left (scope : ℕ) (s : Result State Full) (binds t : List ℕ) (r : Result State Full) (t' : List ℕ) : Type 0 where
  pub right : (g : Leaving scope s binds t) → R g.W g.env g.ss g.st r (mem binds g.w t')
