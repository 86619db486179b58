-- A block's variables come into reach, and go out of it again.
use Rattle.std.specs.Prelude.{ℕ, ◌+◌, ◌<◌, ◌≤◌, ◌≡◌, Bool, List, ◌++◌, length}
use Rattle.std.proofs.Math.Option.{some}
use Rattle.std.proofs.Math.ListN.{get_elem?}
use Rattle.lexical.specs.State.{Binding, St}
use Rattle.store.specs.declared.ids.State.{State}
use Rattle.store.specs.Sections.{mem}
use Rattle.store.specs.Meanings.{Range}
use Rattle.store.specs.Rel.{World, Rel}

-- before the bindings bs, from lo up to hi, come into reach; none of them is
pub record Opening (binds t : List ℕ) (lo hi : ℕ) : Type 0 where
  pub W : World
  pub env : List Binding
  pub ss : List ℕ
  pub cap : ℕ → Bool
  pub st : St
  pub s : State
  pub w : List ℕ
  pub bs : List Binding
  pub rel : Rel W env ss cap st s (mem binds w t)
  pub range : Range st.made bs lo hi
  pub apart : (j : ℕ) (b : Binding) → get_elem? env j ≡ some b → lo ≤ b.id → b.id < hi → ⊥

pub record Opened (binds t : List ℕ) (lo hi : ℕ) (t' : List ℕ) : Type 0 where
  pub right : (g : Opening binds t lo hi) → Rel g.W (g.bs ++ g.env) g.ss g.cap g.st g.s (mem binds g.w t')

-- bs are numbered from lo on
abbrev pub Numbered : List Binding → ℕ → Type 0
Numbered bs lo = (k : ℕ) (b : Binding) → get_elem? bs k ≡ some b → b.id ≡ lo + k

-- before they go out of reach
pub record Closing (binds t : List ℕ) (lo hi : ℕ) : Type 0 where
  pub W : World
  pub env : List Binding
  pub ss : List ℕ
  pub cap : ℕ → Bool
  pub st : St
  pub s : State
  pub w : List ℕ
  pub bs : List Binding
  pub rel : Rel W (bs ++ env) ss cap st s (mem binds w t)
  pub numbered : Numbered bs lo
  pub end : hi ≡ lo + length bs

pub record Closed (binds t : List ℕ) (lo hi : ℕ) (t' : List ℕ) : Type 0 where
  pub right : (g : Closing binds t lo hi) → Rel g.W g.env g.ss g.cap g.st g.s (mem binds g.w t')
