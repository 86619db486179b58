-- Number 11 of document 01: the parameters of each Def and Lambda.
use Rattle.std.specs.Prelude.{ℕ, ◌*◌, ◌≤◌, ◌<◌, ◌≡◌, Bool, true, false, ◌&&◌, List, [], ◌∷◌, eqb, ltb, length, drop}
use Rattle.lexical.specs.Places.{Distinct}
use Rattle.nodefile.specs.Node.{kind_of, size_of, value_of, below}
use Rattle.shape.specs.Nodes.{at}
use Rattle.scoping.specs.Scopes.{is_scope}

-- t starts with a Param that has a Name, which is the node after it
abbrev pub named : List ℕ → Bool
named t = eqb (kind_of t) 17 && ltb 1 (size_of t)

abbrev pub param_name : List ℕ → ℕ
param_name t = value_of (drop 8 t)

-- a part of the list falls into whole nodes, one after the other: the names of the Params among them
pub data ParamNames : List ℕ → List ℕ → Type 0 where
  no_params_lem : ParamNames [] []
  param : {t vs : List ℕ} → 0 < size_of t → 8 * size_of t ≤ length t → named t ≡ true → ParamNames (drop (8 * size_of t) t) vs → ParamNames t (param_name t ∷ vs)
  other : {t vs : List ℕ} → 0 < size_of t → 8 * size_of t ≤ length t → named t ≡ false → ParamNames (drop (8 * size_of t) t) vs → ParamNames t vs

-- 11: two Params of one Def or Lambda with one name
pub data BadParams (ns : List ℕ) : Type 0 where
  same_name : (i : ℕ) → 8 * i < length ns → is_scope ns i ≡ true → (vs : List ℕ) → ParamNames (below (at ns i)) vs → (Distinct vs → ⊥) → BadParams ns
