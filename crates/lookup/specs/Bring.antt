-- A local is brought into the current scope: at hand there, or copied from the scope outside, where it is brought first.
use Rattle.std.specs.Prelude.{ℕ, ◌+◌, ◌<◌, ◌≤◌, ◌≡◌, Bool, true, List, length, Result, MatchResult}
use Rattle.std.proofs.Math.Option.{some}
use Rattle.std.proofs.Math.ListN.{get_elem?}
use Rattle.lexical.specs.State.{Binding, St}
use Rattle.lexical.specs.Third.{bring, copy_in}
use Rattle.store.specs.declared.ids.State.{State}
use Rattle.store.specs.declared.ids.Full.{Full}
use Rattle.store.specs.declared.ids.Brought.{Brought}
use Rattle.store.specs.Sections.{Mem}
use Rattle.store.specs.Meanings.{Stacked}
use Rattle.store.specs.Rel.{World, Rel, Over}

-- the result is the slot and the state that x says
pub record Reached (W : World) (env : List Binding) (ss : List ℕ) (cap : ℕ → Bool) (x : ℕ × St) (r : Brought) (m' : Mem) : Type 0 where
  pub rel : Rel W env ss cap x.1 r.st m'
  pub slot : r.slot.0 ≡ x.0
  pub small : r.slot.0 < 4096

-- .. or a list was full
abbrev pub ReachedOr : World → List Binding → List ℕ → (ℕ → Bool) → ℕ × St → Result Brought Full → Mem → Type 0
ReachedOr W env ss cap x r m' = MatchResult r (λ v. Reached W env ss cap x v m') (λ _. Over x.1)

-- binding b is copied from the slot `parent` of the scope outside into `scope`
pub record Copying (scope parent id : ℕ) (s : State) (m : Mem) : Type 0 where
  pub W : World
  pub env : List Binding
  pub ss : List ℕ
  pub cap : ℕ → Bool
  pub st : St
  pub b : Binding
  pub rel : Rel W env ss cap st s m
  pub stands : get_elem? st.made b.id ≡ some b
  pub number : id ≡ b.id
  pub scope_small : scope < 256
  pub parent_small : parent < 4096

pub record Copied (scope parent id : ℕ) (s : State) (m : Mem) (r : Result Brought Full) (m' : Mem) : Type 0 where
  pub right : (g : Copying scope parent id s m) → ReachedOr g.W g.env g.ss g.cap (copy_in scope g.b (parent, g.st)) r m'

-- binding b is brought to the scope at `level`; inner: that scope and those around it
pub record Bringing (level id : ℕ) (s : State) (m : Mem) : Type 0 where
  pub W : World
  pub env : List Binding
  pub ss : List ℕ
  pub cap : ℕ → Bool
  pub st : St
  pub b : Binding
  pub inner : List ℕ
  pub rel : Rel W env ss cap st s m
  pub stands : get_elem? st.made b.id ≡ some b
  pub local : b.local ≡ true
  pub number : id ≡ b.id
  pub stack : Stacked inner m.t
  pub level_is : level + 1 ≡ length inner
  pub low : length inner ≤ 127

pub record Brings (level id : ℕ) (s : State) (m : Mem) (r : Result Brought Full) (m' : Mem) : Type 0 where
  pub right : (g : Bringing level id s m) → ReachedOr g.W g.env g.ss g.cap (bring g.inner g.b g.st) r m'
