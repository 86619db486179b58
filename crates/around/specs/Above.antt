-- The scopes of the nodes around a node, one node more.
--     scopes_here, turned   the list of scopes, and that outermost first
--     top_here              the innermost scope
--     outside               a node that does not stand among some siblings
use Rattle.std.specs.Prelude.{ℕ, ◌+◌, ◌*◌, ◌≤◌, ◌<◌, ◌≡◌, Bool, cond}
use Rattle.std.proofs.Math.Path.{refl}
use Rattle.std.proofs.Common.{sym, ap, ◌∙◌, arith}
use Rattle.std.proofs.Math.Bool.{true, false}
use Rattle.std.proofs.Math.Option.{none}
use mathlib.Core.List.{List, [], ◌∷◌, ◌++◌, reverse, reverse_aux-eq, append-nil}
use Rattle.std.proofs.Math.ListN.{length}
use borrow.Author.Tests.{ne_eqb}
use Rattle.lexical.specs.Lists.{or_else}
use Rattle.lexical.specs.Tree.{Forest, nil, node, Way, plain, look, fn, compr, clause, type, way, is_fn, when, empty, top}
use Rattle.lexical.specs.Binders.{Names, Target, targets}
use Rattle.lexical.specs.Meaning.{Around, around, reach, deeper, scopes_of}
use Rattle.lexical.specs.Claims.{ancestors}
use Rattle.nodefile.specs.Reads.{Reads}
use Rattle.around.specs.Descent.{end_at}
use Rattle.around.specs.Opens.{range, opens}

-- nothing is entered
none-entered : (l : Bool) (s : ℕ) (ss : List ℕ) → ss ≡ cond l (when false s) [] ++ ss
unfolding when
none-entered true s ss = refl
none-entered false s ss = refl

module _ (s : ℕ) (ts : List Target) (b : Bool) (up : List Around) where
  pub scopes_here : (w : Way) (l : Bool) → scopes_of (around w s ts b l ∷ up) ≡ cond l (when (is_fn w) s) [] ++ scopes_of up
  unfolding scopes_of deeper reach is_fn when
  scopes_here plain l = none-entered l s (scopes_of up)
  scopes_here look l = none-entered l s (scopes_of up)
  scopes_here fn true = refl
  scopes_here fn false = refl
  scopes_here compr l = none-entered l s (scopes_of up)
  scopes_here clause l = none-entered l s (scopes_of up)
  scopes_here type l = none-entered l s (scopes_of up)

turn_one : (l f : Bool) (s : ℕ) (ss : List ℕ) → reverse (cond l (when f s) [] ++ ss) ≡ reverse ss ++ cond l (when f s) []
unfolding when
turn_one true true s ss = reverse_aux-eq ss (s ∷ [])
turn_one true false s ss = sym (append-nil (reverse ss))
turn_one false f s ss = sym (append-nil (reverse ss))

pub turned : (w : Way) (s : ℕ) (ts : List Target) (b l : Bool) (up : List Around) → reverse (scopes_of (around w s ts b l ∷ up)) ≡ reverse (scopes_of up) ++ cond l (when (is_fn w) s) []
turned w s ts b l up = ap reverse (scopes_here s ts b up w l) ∙ turn_one l (is_fn w) s (scopes_of up)

top_one : (l f : Bool) (s : ℕ) (ss : List ℕ) → top (cond l (when f s) [] ++ ss) ≡ cond l (cond f s (top ss)) (top ss)
unfolding when top
top_one true true s ss = refl
top_one true false s ss = refl
top_one false f s ss = refl

pub top_here : (w : Way) (s : ℕ) (ts : List Target) (b l : Bool) (up : List Around) → top (scopes_of (around w s ts b l ∷ up)) ≡ cond l (cond (is_fn w) s (top (scopes_of up))) (top (scopes_of up))
top_here w s ts b l up = ap top (scopes_here s ts b up w l) ∙ top_one l (is_fn w) s (scopes_of up)

module _ (N : Names) (ns : List ℕ) (x : ℕ) where
  pub outside : (f : Forest) (p e : ℕ) → 8 * e ≤ length ns → p ≤ e → Reads (range ns p e) p f → (p ≤ x → x < e → ⊥)
      → (w : Way) (s : ℕ) (ts : List Target) (b : Bool) (up : List Around) → ancestors N x f w s ts b up ≡ none
  unfolding ancestors or_else
  outside nil p e l h r n w s ts b up = refl
  outside (node a k v ks rs) p e l h r n w s ts b up =
      let o = opens ns p e a k v ks rs l h r in
      let here = around w s ts b (empty rs) ∷ up in
      let d : 8 * end_at ns p e ≤ length ns = omega (arith, o.inside) in
      rw (
        ne_eqb a x (λ z. n (omega (arith, o.number)) (omega (arith, o.number, o.past, o.inside))),
        outside ks (p + 1) (end_at ns p e) d (omega (arith, o.past)) o.under (λ i j. n (omega arith) (omega (arith, o.inside))) (way k) v (targets N k ks) true here,
      )
      (outside rs (end_at ns p e) e l o.inside o.after (λ i j. n (omega (arith, o.past)) j) w s ts false up)
