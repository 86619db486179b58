-- The descent enters no more scopes than the tree is deep.
use Rattle.std.specs.Prelude.{ℕ, zero, suc, ◌+◌, ◌*◌, ◌≤◌, ◌<◌, ◌≡◌, Bool, true, false, cond, List, [], eqb, length}
use Rattle.std.proofs.Common.{ap, ◌∙◌, arith, length-append}
use Rattle.std.proofs.Math.Decide.{dec_lt, ℕ_discrete}
use Rattle.lexical.specs.Tree.{Forest, nil, node, when}
use Rattle.nodefile.specs.Height.{height}
use Rattle.nodefile.specs.Reads.{Reads}
use Rattle.nodefile.specs.Listed.{kind_at, value_at, is_scope}
use Rattle.around.specs.Scopes.{descend}
use Rattle.around.specs.Descent.{end_at, own_at, descend_past, descend-next, descend_in}
use Rattle.around.specs.Opens.{range, opens, range_none}

some_of : (b : Bool) (xs : List ℕ) → length (cond b xs []) ≤ length xs
some_of true xs = omega arith
some_of false xs = omega arith

one_at_most : (b : Bool) (v : ℕ) → length (when b v) ≤ 1
unfolding when
one_at_most true v = omega arith
one_at_most false v = omega arith

module _ (ns : List ℕ) (x : ℕ) where
  pub few : (f : Forest) (g p e : ℕ) (inner : List ℕ) → 8 * e ≤ length ns → p ≤ x → x < e → x < p + g → Reads (range ns p e) p f
      → length (descend g ns x p e inner) + 1 ≤ height f + length inner
  few nil g p e inner l h i j r = let z : ⊥ = omega (arith, range_none ns p e l (omega arith) r) in absurd z
  few (node a k v ks rs) zero p e inner l h i j r = let z : ⊥ = omega arith in absurd z
  few (node a k v ks rs) (suc g) p e inner l h i j r =
      let o = opens ns p e a k v ks rs l (omega arith) r in
      let q = end_at ns p e in
      let below = descend g ns x (p + 1) q (own_at ns p) in
      elim (dec_lt x q) [
        | no c ↦ let u = few rs g q e inner l (omega arith) i (omega (arith, o.past)) o.after in
            omega (arith, u, ap length (descend-next ns x p e inner g h (omega arith)))
        | yes c ↦ let step : length (descend (suc g) ns x p e inner) ≡ length (cond (eqb q e) inner []) + length below =
            ap length (descend_in ns x p e inner g h c) ∙ length-append (cond (eqb q e) inner []) below in
            elim (ℕ_discrete x p) [
              | yes z ↦ omega (arith, step, some_of (eqb q e) inner, ap length (descend_past ns x (p + 1) q (own_at ns p) g (omega arith)))
              | no z ↦ let u = few ks g (p + 1) q (own_at ns p) (omega (arith, o.inside)) (omega arith) c (omega arith) o.under in
                  omega (arith, step, some_of (eqb q e) inner, one_at_most (is_scope (kind_at ns p)) (value_at ns p), u)
            ]
      ]
