-- The words of the theorems on slots and copies: which slots the copies fill, where following them stops, and the slot of a local that an Ident means. Read with Whole.
use Rattle.std.specs.Prelude.{◌≡◌, List, true, ℕ, ◌<◌}
use Rattle.std.proofs.Math.Option.{none, some}
use Rattle.std.proofs.Math.ListN.{get_elem?}
use Rattle.lexical.specs.Places.{In}
use Rattle.lexical.specs.Tree.{top}
use Rattle.lexical.specs.Module.{File}
use Rattle.lexical.specs.Meaning.{Site, scopes_of}
use Rattle.lexical.specs.State.{Binding, Copy}
use Rattle.lexical.specs.Block.{fresh}
use Rattle.lexical.specs.Third.{resolved}
use Rattle.lexical.specs.Follow.{from_in, follow}

-- following from slot k through the scopes ss stops in one of them, at a slot that no copy fills: it never runs out of scopes
pub record Stops (cs : List Copy) (ss : List ℕ) (k : ℕ) : Type 0 where
  pub within : In (follow cs ss k).0 ss
  pub unfilled : from_in (follow cs ss k).0 (follow cs ss k).1 cs ≡ none

-- an Ident means the local that Name d of scope o declares, refused in a type or not: its binding, and a slot of the Ident's own scope from which the copies lead to the binding's slot
pub record SlotFor (F : File) (s : Site) (o d : ℕ) : Type 0 where
  pub binding : Binding
  pub slot : ℕ
  pub of_scope_lem : slot < fresh (top (scopes_of s.above)) (resolved F)
  pub known : get_elem? (resolved F).made binding.id ≡ some binding
  pub owner : binding.owner ≡ o
  pub source : binding.var.source ≡ d
  pub named : binding.var.name ≡ s.name
  pub is_local : binding.local ≡ true
  pub home : follow (resolved F).copies (scopes_of s.above) slot ≡ (o, binding.slot)
