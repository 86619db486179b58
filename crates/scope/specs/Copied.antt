-- What is copied out of the working list w.
use Rattle.std.specs.Prelude.{ℕ, ◌+◌, ◌≤◌, ◌≡◌, List, length, get_or}
use Rattle.store.specs.declared.ids.State.{State}
use Rattle.store.specs.Sections.{nodes_at, slots_at, copies_at, errors_at, scopes_at}
use Rattle.scope.specs.Filled.{Filled}

-- there is as much in w, and as much room
pub record PreCopy (n : ℕ) (st : State) (nodes scopes slots copies errors : List ℕ) : Type 0 where
  pub few_nodes : n ≤ 2048
  pub few_slots : st.slots ≤ 4096
  pub few_copies : st.copies ≤ 4096
  pub few_errors : st.errors ≤ 2048
  pub nodes_fit : n ≤ length nodes
  pub scopes_fit : 256 ≤ length scopes
  pub slots_fit : st.slots ≤ length slots
  pub copies_fit : st.copies ≤ length copies
  pub errors_fit : st.errors ≤ length errors

-- the section of w that starts at a place
abbrev pub from : List ℕ → ℕ → ℕ → ℕ
from w base j = get_or w (base + j) 0

pub record Copied (w : List ℕ) (n : ℕ) (st : State) (nodes scopes slots copies errors nodes' scopes' slots' copies' errors' : List ℕ) : Type 0 where
  pub of_nodes : Filled (from w nodes_at) n nodes nodes'
  pub of_scopes : Filled (from w scopes_at) 256 scopes scopes'
  pub of_slots : Filled (from w slots_at) st.slots slots slots'
  pub of_copies : Filled (from w copies_at) st.copies copies copies'
  pub of_errors : Filled (from w errors_at) st.errors errors errors'
