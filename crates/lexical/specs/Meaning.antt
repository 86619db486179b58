-- What a name means (document 01, "Sources": outward from a name over the node tree, which block binds it, without slots, copies or walk states).
-- The nodes around an Ident are given innermost first; the first block that reaches it and declares its name has it.
use Rattle.std.specs.Prelude.{List, [], ◌∷◌, ◌&&◌, Bool, true, false, cond, not, ℕ, eqb}
use Rattle.std.proofs.Math.Option.{Option, none, some}
use Rattle.lexical.specs.Lists.{first, or_else, map_o}
use Rattle.lexical.specs.Tree.{is_fn, node, Way, plain, look, fn, compr, clause, type, way, top}
use Rattle.lexical.specs.Binders.{Target, targets}
use Rattle.lexical.specs.Module.{Outer}

-- an enclosing node: how it binds, its scope number, what it binds, and whether the way comes from its first child, from its last
pub record Around : Type 0 where
  pub way : Way
  pub scope : ℕ
  pub targets : List Target
  pub first : Bool
  pub last : Bool

-- a Def's or Lambda's names reach its last child, a comprehension's all but its first
unfoldable pub reach : Way → Bool → Bool → Bool
reach plain f l = false
reach look f l = false
reach fn f l = l
reach compr f l = not f
reach clause f l = false
reach type f l = false

-- the first Name that declares n among some targets
unfoldable pub declares : ℕ → List Target → Option ℕ
declares n ts = map_o (λ (t : Target). t.node) (first (λ t. eqb t.name n) ts)

-- the functions whose inside this is, innermost first, and the module
unfoldable pub deeper : Way → Bool → ℕ → List ℕ → List ℕ
deeper w r s ss = cond (is_fn w && r) (s ∷ ss) ss

unfoldable pub scopes_of : List Around → List ℕ
scopes_of [] = 0 ∷ []
scopes_of (a ∷ up) = deeper a.way (reach a.way a.first a.last) a.scope (scopes_of up)

-- the scope that a block's variables belong to: a function's own, for a comprehension the function around it
unfoldable pub owner_of : Way → ℕ → List Around → ℕ
owner_of w s up = cond (is_fn w) s (top (scopes_of up))

unfoldable pub owned : ℕ → Option ℕ → Option (ℕ × ℕ)
owned s d = map_o (λ (x : ℕ). (s, x)) d

unfoldable pub declared_if : Bool → Option (ℕ × ℕ) → Option (ℕ × ℕ) → Option (ℕ × ℕ)
declared_if true d e = or_else d e
declared_if false d e = e

-- the scope that n belongs to and the Name that declares it, seen from inside these nodes, innermost first
unfoldable pub declared : ℕ → List Around → Option (ℕ × ℕ)
declared n [] = none
declared n (a ∷ up) = declared_if (reach a.way a.first a.last) (owned (owner_of a.way a.scope up) (declares n a.targets)) (declared n up)

-- directly in a Type: no Def, Lambda or Compr between
unfoldable pub type_at : Way → Bool → Bool
type_at plain b = b
type_at look b = b
type_at fn b = false
type_at compr b = false
type_at clause b = b
type_at type b = true

unfoldable pub in_type : List Around → Bool
in_type [] = false
in_type (a ∷ up) = type_at a.way (in_type up)

-- a local of a scope, by the Name that declares it; such a one directly in a type; or from outside
pub data Meaning : Type 0 where
  local : ℕ × ℕ → Meaning
  refused : ℕ × ℕ → Meaning
  outside : Outer → Meaning

unfoldable pub means_in : Option (ℕ × ℕ) → Bool → Outer → Meaning
means_in none t o = outside o
means_in (some d) t o = cond t (refused d) (local d)

-- an Ident with the nodes around it, innermost first
pub record Site : Type 0 where
  pub node : ℕ
  pub name : ℕ
  pub above : List Around

unfoldable pub meaning : (ℕ → Outer) → Site → Meaning
meaning out s = means_in (declared s.name s.above) (in_type s.above) (out s.name)

abbrev pub around : Way → ℕ → List Target → Bool → Bool → Around
around w s ts f l = record { way = w; scope = s; targets = ts; first = f; last = l }
