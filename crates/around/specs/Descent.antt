-- The steps of the descent to node x: past it, over a sibling before it, into the node that holds it.
use Prim.Native.Nat.{ℕ, zero, suc, ◌+◌, ◌<◌, ◌≤◌}
use Rattle.std.specs.Prelude.{◌≡◌, cond, List, [], ◌∷◌, ◌++◌, eqb}
use Rattle.std.proofs.Math.Path.{refl}
use borrow.Author.Tests.{lt-ltb, le-ltb, le-leb, lt-leb}
use Rattle.lexical.specs.Tree.{when}
use Rattle.nodefile.specs.Layout.{nodes_of}
use Rattle.nodefile.specs.Listed.{kind_at, size_at, value_at, is_scope}
use Rattle.around.specs.Ends.{end_in}
use Rattle.around.specs.Scopes.{descend, counted, scopes_at}

-- where node p ends
abbrev pub end_at : List ℕ → ℕ → ℕ → ℕ
end_at ns p e = end_in (size_at ns p) p e

-- its own scope, if it is a Def or Lambda
abbrev pub own_at : List ℕ → ℕ → List ℕ
own_at ns p = when (is_scope (kind_at ns p)) (value_at ns p)

module _ (ns : List ℕ) (x p e : ℕ) (inner : List ℕ) where
  pub descend_past : (f : ℕ) → x < p → descend f ns x p e inner ≡ []
  unfolding descend
  descend_past zero h = refl
  descend_past (suc f) h = rw (lt-ltb x p h)

  module _ (f : ℕ) (h : p ≤ x) where
    pub descend-next : end_at ns p e ≤ x → descend (suc f) ns x p e inner ≡ descend f ns x (end_at ns p e) e inner
    unfolding descend
    descend-next l = rw (le-ltb x p h, le-leb (end_at ns p e) x l)

    pub descend_in : x < end_at ns p e → descend (suc f) ns x p e inner ≡ cond (eqb (end_at ns p e) e) inner [] ++ descend f ns x (p + 1) (end_at ns p e) (own_at ns p)
    unfolding descend
    descend_in l = rw (le-ltb x p h, lt-leb (end_at ns p e) x l)

-- the whole way down, for a node that is there, and for one that is not
module _ (bs : List ℕ) (x : ℕ) where
  pub scopes_there : x < counted (nodes_of bs) → scopes_at bs x ≡ 0 ∷ descend (suc x) (nodes_of bs) x 0 (counted (nodes_of bs)) []
  unfolding scopes_at
  scopes_there h = rw (lt-ltb x (counted (nodes_of bs)) h)

  pub scopes_none : counted (nodes_of bs) ≤ x → scopes_at bs x ≡ []
  unfolding scopes_at
  scopes_none h = rw (le-ltb x (counted (nodes_of bs)) h)
