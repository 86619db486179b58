-- The scope directly around each Def's and Lambda's own, of any bytes.
use Rattle.std.specs.Prelude.{ℕ, zero, suc, ◌+◌, cond, List, [], ◌∷◌, ◌++◌, eqb, leb, set, replicate}
use Rattle.lexical.specs.Tree.{when}
use Rattle.nodefile.specs.Layout.{nodes_of}
use Rattle.nodefile.specs.Listed.{kind_at, size_at, value_at, is_scope}
use Rattle.around.specs.Ends.{end_in}
use Rattle.around.specs.Scopes.{counted}

-- of siblings, which begin at node p and end at e, and of d levels of nodes from them on down: each Def's and Lambda's scope number with
-- the scope that it stands in. The last of the siblings stands in `inner`, the others in `scope`. (The first number is at least e - p.)
unfoldable pub outer_in : ℕ → ℕ → List ℕ → ℕ → ℕ → ℕ → ℕ → List (ℕ × ℕ)
outer_in zero d ns p e scope inner = []
outer_in (suc f) zero ns p e scope inner = []
outer_in (suc f) (suc d) ns p e scope inner =
    let q = end_in (size_at ns p) p e in
    let here = cond (eqb q e) inner scope in
    let own = is_scope (kind_at ns p) in
    cond (leb e p) []
    (when own (value_at ns p, here) ++ (outer_in f d ns (p + 1) q here (cond own (value_at ns p) here) ++ outer_in f (suc d) ns q e scope inner))

-- of all nodes, as deep as document 01 lets a tree be
abbrev pub levels : ℕ
levels = 64

unfoldable pub outers_of : List ℕ → List (ℕ × ℕ)
outers_of bs = let ns = nodes_of bs in outer_in (counted ns) levels ns 0 (counted ns) 0 0

-- each number put at its place of a table, as far as the table has it
unfoldable pub stored : List (ℕ × ℕ) → List ℕ → List ℕ
stored [] l = l
stored (x ∷ xs) l = stored xs (set l x.0 x.1)

-- a table of n places: at each Def's and Lambda's scope number the scope that it stands in, and 0 elsewhere
abbrev pub outer_table : List ℕ → ℕ → List ℕ
outer_table bs n = stored (outers_of bs) (replicate n 0)
