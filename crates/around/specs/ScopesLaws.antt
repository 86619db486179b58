-- The descent against the tree: it enters the scopes around the node.
use Prim.Native.Nat.{ℕ, zero, suc, ◌+◌, ◌*◌, ◌≤◌, ◌<◌}
use Rattle.std.specs.Prelude.{◌≡◌, refl, Bool, cond, eqb, length}
use Rattle.std.proofs.Common.{sym, ap₂, ◌∙◌, eq-eqb, ne_eqb}
use Rattle.std.proofs.Math.Path.{ap}
use Rattle.std.proofs.Math.Bool.{true, false}
use Rattle.std.proofs.Math.Option.{some}
use mathlib.Core.List.{List, [], ◌∷◌, ◌++◌, reverse, append_assoc, append-nil}
use native.Mathlib.Omega.{arith}
use Rattle.std.proofs.Math.Decide.{dec_lt, ℕ_discrete}
use Rattle.lexical.specs.Lists.{or_else}
use Rattle.lexical.specs.Tree.{Forest, nil, node, Way, way, is_fn, when, empty}
use Rattle.lexical.specs.Binders.{Names, Target, targets}
use Rattle.lexical.specs.Meaning.{Around, around, scopes_of}
use Rattle.lexical.specs.Claims.{ancestors}
use Rattle.nodefile.specs.Reads.{Reads}
use Rattle.nodefile.specs.Listed.{is_scope}
use Rattle.around.specs.Scopes.{descend}
use Rattle.around.specs.Descent.{end_at, own_at, descend_past, descend-next, descend_in}
use Rattle.around.specs.Opens.{range, Opens, opens, range_none}
use Rattle.around.specs.Above.{turned, outside}

module _ (N : Names) (ns : List ℕ) (x : ℕ) where
  -- the nodes around node x, which stands among these siblings, and their scopes
  pub record Entered (f : Forest) (w : Way) (s : ℕ) (ts : List Target) (b : Bool) (up : List Around) (found : List ℕ) : Type 0 where
    pub above : List Around
    pub are : ancestors N x f w s ts b up ≡ some above
    pub scopes : reverse (scopes_of above) ≡ reverse (scopes_of up) ++ found

  -- the first of the siblings, and those behind it
  module _ {a k v : ℕ} {ks rs : Forest} (g p e : ℕ) (l : 8 * e ≤ length ns) (h : p ≤ x) (o : Opens ns p e a k v ks rs) (w : Way) (s : ℕ) (ts : List Target) (b : Bool) (up : List Around) where
    -- seen from it
    abbrev here : List Around
    here = around w s ts b (empty rs) ∷ up

    -- the scope that is entered there
    abbrev one : List ℕ
    one = cond (eqb (end_at ns p e) e) (when (is_fn w) s) []

    Goal : Type 0
    Goal = Entered (node a k v ks rs) w s ts b up (descend (suc g) ns x p e (when (is_fn w) s))

    enters : reverse (scopes_of here) ≡ reverse (scopes_of up) ++ one
    enters = turned w s ts b (empty rs) up ∙ ap (λ (t : Bool). reverse (scopes_of up) ++ cond t (when (is_fn w) s) []) o.last

    itself : x < end_at ns p e → x ≡ p → Goal
    unfolding Goal
    itself d c = record {
      above = here;
      are = unfold ancestors in (rw (eq-eqb a x (omega (arith, o.number))) refl);
      scopes = enters ∙ ap (λ (m : List ℕ). reverse (scopes_of up) ++ m)
          (sym (descend_in ns x p e (when (is_fn w) s) g h d ∙ ap (λ (m : List ℕ). one ++ m) (descend_past ns x (p + 1) (end_at ns p e) (own_at ns p) g (omega arith)) ∙ append-nil one));
    }

    inner : x < end_at ns p e → p < x → Entered ks (way k) v (targets N k ks) true here (descend g ns x (p + 1) (end_at ns p e) (when (is_fn (way k)) v)) → Goal
    unfolding Goal
    inner d c u = record {
      above = u.above;
      are = unfold ancestors or_else in (rw (ne_eqb a x (λ z. omega (arith, o.number)), u.are) refl);
      scopes = u.scopes ∙ ap (λ (m : List ℕ). m ++ descend g ns x (p + 1) (end_at ns p e) (when (is_fn (way k)) v)) enters
          ∙ append_assoc (reverse (scopes_of up)) one (descend g ns x (p + 1) (end_at ns p e) (when (is_fn (way k)) v))
          ∙ ap (λ (m : List ℕ). reverse (scopes_of up) ++ (one ++ descend g ns x (p + 1) (end_at ns p e) m)) (ap₂ (λ (i j : ℕ). when (is_scope i) j) o.kind o.value)
          ∙ ap (λ (m : List ℕ). reverse (scopes_of up) ++ m) (sym (descend_in ns x p e (when (is_fn w) s) g h d));
    }

    later : end_at ns p e ≤ x → Entered rs w s ts false up (descend g ns x (end_at ns p e) e (when (is_fn w) s)) → Goal
    unfolding Goal
    later d u = record {
      above = u.above;
      are = unfold ancestors or_else in
          (rw (ne_eqb a x (λ z. omega (arith, o.number, o.past)), outside N ns x ks (p + 1) (end_at ns p e) (omega (arith, o.inside)) (omega (arith, o.past)) o.under (λ m n. omega arith) (way k) v (targets N k ks) true here) u.are);
      scopes = u.scopes ∙ ap (λ (m : List ℕ). reverse (scopes_of up) ++ m) (sym (descend-next ns x p e (when (is_fn w) s) g h d));
    }

  pub entered : (f : Forest) (g p e : ℕ) → 8 * e ≤ length ns → p ≤ x → x < e → x < p + g → Reads (range ns p e) p f
      → (w : Way) (s : ℕ) (ts : List Target) (b : Bool) (up : List Around) → Entered f w s ts b up (descend g ns x p e (when (is_fn w) s))
  unfolding Goal
  entered nil g p e l h i j r w s ts b up = let z : ⊥ = omega (arith, range_none ns p e l (omega arith) r) in absurd z
  entered (node a k v ks rs) zero p e l h i j r w s ts b up = let z : ⊥ = omega arith in absurd z
  entered (node a k v ks rs) (suc g) p e l h i j r w s ts b up =
      let o = opens ns p e a k v ks rs l (omega arith) r in
      elim (dec_lt x (end_at ns p e)) [
        | no d ↦ later g p e l h o w s ts b up (omega arith) (entered rs g (end_at ns p e) e l (omega arith) i (omega (arith, o.past)) o.after w s ts false up)
        | yes d ↦ elim (ℕ_discrete x p) [
          | yes c ↦ itself g p e l h o w s ts b up d c
          | no c ↦ inner g p e l h o w s ts b up d (omega arith)
              (entered ks g (p + 1) (end_at ns p e) (omega (arith, o.inside)) (omega arith) d (omega arith) o.under (way k) v (targets N k ks) true (around w s ts b (empty rs) ∷ up))
        ]
      ]
