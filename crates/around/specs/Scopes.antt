-- The scopes around a node, outermost first, of any bytes.
use Rattle.std.specs.Prelude.{ℕ, zero, suc, ◌+◌, ◌/◌, ◌≡◌, cond, List, [], ◌∷◌, ◌++◌, eqb, leb, ltb, length, get_or}
use Rattle.base.specs.UpTo.{up_to}
use Rattle.lexical.specs.Tree.{when}
use Rattle.nodefile.specs.Layout.{nodes_of}
use Rattle.nodefile.specs.Listed.{kind_at, size_at, value_at, is_scope}
use Rattle.around.specs.Ends.{end_in}

-- down from siblings, which begin at node p and end at e, to node x: the scopes that are entered on the way. The last of the siblings
-- stands in `inner`: their parent's own scope, if that is a Def or Lambda. (The first number is one above what is left to go.)
unfoldable pub descend : ℕ → List ℕ → ℕ → ℕ → ℕ → List ℕ → List ℕ
descend zero ns x p e inner = []
descend (suc f) ns x p e inner =
    let q = end_in (size_at ns p) p e in
    cond (ltb x p) []
    (cond (leb q x) (descend f ns x q e inner)
    (cond (eqb q e) inner [] ++ descend f ns x (p + 1) q (when (is_scope (kind_at ns p)) (value_at ns p))))

-- how many nodes the bytes have
abbrev pub counted : List ℕ → ℕ
counted ns = length ns / 8

-- the module's scope, and those on the way down to node x; none if there is no such node
unfoldable pub scopes_at : List ℕ → ℕ → List ℕ
scopes_at bs x = let ns = nodes_of bs in cond (ltb x (counted ns)) (0 ∷ descend (suc x) ns x 0 (counted ns) []) []

-- as many of a list as fit into n places, and zeros behind
abbrev pub fitted : ℕ → List ℕ → List ℕ
fitted n xs = up_to (λ i. get_or xs i 0) n

-- n numbers, of which a list, as long as before, holds as many as fit
pub record Holds (xs : List ℕ) (n : ℕ) (old new : List ℕ) : Type 0 where
  pub count : n ≡ length xs
  pub places : new ≡ fitted (length old) xs
