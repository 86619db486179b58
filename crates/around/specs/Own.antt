-- The scope that a node has of its own, and what is made of it where there is one.
use Rattle.std.specs.Prelude.{ℕ, cond, Option, None, Some, List, [], ◌∷◌}
use Rattle.nodefile.specs.Node.{kind_of, value_of}
use Rattle.nodefile.specs.Listed.{is_scope}

-- of the node that a part starts with: that of a Def or Lambda
abbrev pub own_scope : List ℕ → Option ℕ
own_scope t = cond (is_scope (kind_of t)) (Some (value_of t)) None

-- the scopes that are entered with it
abbrev pub entered : Option ℕ → List ℕ
entered None = []
entered (Some s) = s ∷ []
