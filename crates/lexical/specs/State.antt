-- What the walks make: bindings, slots, copies, Names with their bindings, lookups. Every part of the state only grows, at its end.
-- Document 01 counts binding, scope, module slot and local slot numbers apart: `id`, `scope`, `slot` of a module binding, `slot` of a local one.
use Rattle.std.specs.Prelude.{List, Bool, ℕ}
use Rattle.std.proofs.Math.Option.{Option}
use Rattle.lexical.specs.Tree.{node}
use Rattle.lexical.specs.Binders.{Var}
use Rattle.lexical.specs.Module.{Outer}

-- a variable with its number, the scope that owns it and its slot there
pub record Binding : Type 0 where
  pub id : ℕ
  pub var : Var
  pub local : Bool
  pub owner : ℕ
  pub slot : ℕ

-- a slot of a scope: its number there, and the binding whose value it holds
pub record Slot : Type 0 where
  pub scope : ℕ
  pub num : ℕ
  pub name : ℕ
  pub id : ℕ

-- a slot of a scope filled from a slot of the scope directly around, with the same binding's value
pub record Copy : Type 0 where
  pub scope : ℕ
  pub parent : ℕ
  pub child : ℕ
  pub id : ℕ

-- what a lookup found: a local and its slot in the innermost scope; one that is refused because it stands directly in a type; or from outside
pub data Found : Type 0 where
  local : Binding → ℕ → Found
  refused : Binding → ℕ → Found
  outside : Outer → Found

-- a name looked up: the Ident, its name, the scopes around it, innermost first, 0 last, and what was found
pub record Event : Type 0 where
  pub node : ℕ
  pub name : ℕ
  pub scopes : List ℕ
  pub found : Found

-- a Name and its binding
pub record Named : Type 0 where
  pub node : ℕ
  pub of : Option Binding

pub record St : Type 0 where
  pub made : List Binding
  pub named : List Named
  pub slots : List Slot
  pub copies : List Copy
  pub log : List Event

-- walk two's: the bindings of a Def or Lambda, by its scope number
pub record Row : Type 0 where
  pub scope : ℕ
  pub names : List Binding

-- walk three's: the bindings in force, innermost first; the scopes around, innermost first; is this directly in a type
pub record Ctx : Type 0 where
  pub env : List Binding
  pub scopes : List ℕ
  pub ty : Bool
