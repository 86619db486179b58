-- The walk over all nodes against the tree.
--     outer-places   it notes something at each scope number, once
--     noted          of a Def or Lambda it notes the innermost scope around it
use Prim.Native.Nat.{ℕ, zero, suc, ◌+◌, ◌*◌, ◌≤◌, ◌<◌}
use Rattle.std.specs.Prelude.{◌≡◌, refl, Bool, cond}
use Rattle.std.proofs.Common.{sym, ap₂, ◌∙◌, eq-eqb, ne_eqb}
use Rattle.std.proofs.Math.Path.{ap}
use Rattle.std.proofs.Math.Bool.{true, false}
use Rattle.std.proofs.Math.Option.{some}
use mathlib.Core.List.{List, [], ◌∷◌, ◌++◌}
use native.Mathlib.Omega.{arith}
use Rattle.std.proofs.Math.Decide.{dec_lt, ℕ_discrete}
use Rattle.std.proofs.Math.ListN.{length, get_elem?}
use Rattle.base.specs.UpTo.{at_behind}
use Rattle.lexical.specs.Lists.{or_else}
use Rattle.lexical.specs.Places.{at_append}
use Rattle.lexical.specs.Tree.{Forest, nil, node, Way, way, is_fn, when, empty, top, listed, scopes_in}
use Rattle.lexical.specs.Binders.{Names, Target, targets}
use Rattle.lexical.specs.Meaning.{Around, around, scopes_of}
use Rattle.lexical.specs.Claims.{ancestors}
use Rattle.nodefile.specs.Height.{height}
use Rattle.nodefile.specs.Reads.{Reads}
use Rattle.nodefile.specs.Listed.{kind_at, value_at, is_scope}
use Rattle.around.specs.Outer.{outer_in}
use Rattle.around.specs.Descent.{end_at}
use Rattle.around.specs.Levels.{outer-none, here_at, last_at, outer_more}
use Rattle.around.specs.Opens.{range, Opens, opens, range_none}
use Rattle.around.specs.Above.{top_here, outside}
use Rattle.around.specs.Table.{places}

places-when : (b : Bool) (v o : ℕ) → places (when b (v, o)) ≡ when b v
unfolding when
places-when true v o = refl
places-when false v o = refl

places_append : (xs ys : List (ℕ × ℕ)) → places (xs ++ ys) ≡ places xs ++ places ys
places_append [] ys = refl
places_append (x ∷ xs) ys = ap (λ (l : List ℕ). x.0 ∷ l) (places_append xs ys)

pub outer-places : (f : Forest) (ns : List ℕ) (g d p e scope inner : ℕ) → 8 * e ≤ length ns → p ≤ e → e ≤ p + g → height f ≤ d → Reads (range ns p e) p f
    → places (outer_in g d ns p e scope inner) ≡ scopes_in f
unfolding scopes_in listed
outer-places nil ns g d p e scope inner l h m t r = ap places (outer-none g d ns p e scope inner (omega (arith, range_none ns p e l h r)))
outer-places (node a k v ks rs) ns zero d p e scope inner l h m t r = let o = opens ns p e a k v ks rs l h r in let z : ⊥ = omega (arith, o.past, o.inside) in absurd z
outer-places (node a k v ks rs) ns (suc g) zero p e scope inner l h m t r = let z : ⊥ = omega arith in absurd z
outer-places (node a k v ks rs) ns (suc g) (suc d) p e scope inner l h m t r =
    let o = opens ns p e a k v ks rs l h r in
    let here = here_at ns p e scope inner in
    let kids = outer_in g d ns (p + 1) (end_at ns p e) here (last_at ns p here) in
    let rest = outer_in g (suc d) ns (end_at ns p e) e scope inner in
    let under : places kids ≡ scopes_in ks = outer-places ks ns g d (p + 1) (end_at ns p e) here (last_at ns p here) (omega (arith, o.inside)) (omega (arith, o.past)) (omega (arith, o.inside)) (omega arith) o.under in
    let after : places rest ≡ scopes_in rs = outer-places rs ns g (suc d) (end_at ns p e) e scope inner l o.inside (omega (arith, o.past)) (omega arith) o.after in
    let own : List (ℕ × ℕ) = when (is_scope (kind_at ns p)) (value_at ns p, here) in
    ap places (outer_more g d ns p e scope inner (omega (arith, o.past, o.inside)))
    ∙ places_append own (kids ++ rest)
    ∙ ap₂ ◌++◌ (places-when (is_scope (kind_at ns p)) (value_at ns p) here ∙ ap₂ (λ (i j : ℕ). when (is_scope i) j) (sym o.kind) (sym o.value)) (places_append kids rest ∙ ap₂ ◌++◌ under after)

module _ (N : Names) (ns : List ℕ) (x : ℕ) (fn : is_scope (kind_at ns x) ≡ true) where
  -- the nodes around node x, which stands among these siblings; the innermost scope around it is noted with its own
  pub record Noted (f : Forest) (w : Way) (s : ℕ) (ts : List Target) (b : Bool) (up : List Around) (xs : List (ℕ × ℕ)) : Type 0 where
    pub above : List Around
    pub are : ancestors N x f w s ts b up ≡ some above
    pub place : ℕ
    pub noted : get_elem? xs place ≡ some (value_at ns x, top (scopes_of above))

  -- the first of the siblings, and those behind it
  module _ {a k v : ℕ} {ks rs : Forest} (g d p e : ℕ) (h : p ≤ x) (o : Opens ns p e a k v ks rs) (w : Way) (s : ℕ) (ts : List Target) (b : Bool) (up : List Around)
      (scope inner : ℕ) (hs : scope ≡ top (scopes_of up)) (hi : inner ≡ cond (is_fn w) s scope) where
    abbrev seen : List Around
    seen = around w s ts b (empty rs) ∷ up

    abbrev here : ℕ
    here = here_at ns p e scope inner

    abbrev own : List (ℕ × ℕ)
    own = when (is_scope (kind_at ns p)) (value_at ns p, here)

    abbrev kids : List (ℕ × ℕ)
    kids = outer_in g d ns (p + 1) (end_at ns p e) here (last_at ns p here)

    abbrev rest : List (ℕ × ℕ)
    rest = outer_in g (suc d) ns (end_at ns p e) e scope inner

    Goal : Type 0
    Goal = Noted (node a k v ks rs) w s ts b up (outer_in (suc g) (suc d) ns p e scope inner)

    parts : outer_in (suc g) (suc d) ns p e scope inner ≡ own ++ (kids ++ rest)
    parts = outer_more g d ns p e scope inner (omega (arith, o.past, o.inside))

    -- the scope that it stands in
    stands : here ≡ top (scopes_of seen)
    stands = rw (hi, hs, ← o.last) (sym (top_here w s ts b (empty rs) up))

    -- and that of its last child
    stands_last : last_at ns p here ≡ cond (is_fn (way k)) v here
    stands_last = rw (o.kind, o.value) refl

    itself : x ≡ p → Goal
    unfolding Goal when
    itself c = record {
      above = seen;
      are = unfold ancestors in (rw (eq-eqb a x (omega (arith, o.number))) refl);
      place = 0;
      noted = ap (λ (l : List (ℕ × ℕ)). get_elem? l 0) parts ∙ rw (← c, fn) (ap (λ (y : ℕ). some (value_at ns x, y)) (rw c stands));
    }

    inside : p < x → x < end_at ns p e → Noted ks (way k) v (targets N k ks) true seen kids → Goal
    unfolding Goal
    inside c i u = record {
      above = u.above;
      are = unfold ancestors or_else in (rw (ne_eqb a x (λ z. omega (arith, o.number)), u.are) refl);
      place = length own + u.place;
      noted = ap (λ (l : List (ℕ × ℕ)). get_elem? l (length own + u.place)) parts ∙ at_behind own (kids ++ rest) u.place ∙ at_append kids rest u.place _ u.noted;
    }

    later : end_at ns p e ≤ x → 8 * end_at ns p e ≤ length ns → Noted rs w s ts false up rest → Goal
    unfolding Goal
    later c l u = record {
      above = u.above;
      are = unfold ancestors or_else in
          (rw (ne_eqb a x (λ z. omega (arith, o.number, o.past)), outside N ns x ks (p + 1) (end_at ns p e) l (omega (arith, o.past)) o.under (λ m n. omega arith) (way k) v (targets N k ks) true seen) u.are);
      place = length own + (length kids + u.place);
      noted = ap (λ (l : List (ℕ × ℕ)). get_elem? l (length own + (length kids + u.place))) parts ∙ at_behind own (kids ++ rest) (length kids + u.place) ∙ at_behind kids rest u.place ∙ u.noted;
    }

  pub noted : (f : Forest) (g d p e : ℕ) → 8 * e ≤ length ns → p ≤ x → x < e → e ≤ p + g → height f ≤ d → Reads (range ns p e) p f
      → (w : Way) (s : ℕ) (ts : List Target) (b : Bool) (up : List Around) (scope inner : ℕ) → scope ≡ top (scopes_of up) → inner ≡ cond (is_fn w) s scope → Noted f w s ts b up (outer_in g d ns p e scope inner)
  unfolding Goal
  noted nil g d p e l h i j t r w s ts b up scope inner hs hi = let z : ⊥ = omega (arith, range_none ns p e l (omega arith) r) in absurd z
  noted (node a k v ks rs) zero d p e l h i j t r w s ts b up scope inner hs hi = let z : ⊥ = omega arith in absurd z
  noted (node a k v ks rs) (suc g) zero p e l h i j t r w s ts b up scope inner hs hi = let z : ⊥ = omega arith in absurd z
  noted (node a k v ks rs) (suc g) (suc d) p e l h i j t r w s ts b up scope inner hs hi =
      let o = opens ns p e a k v ks rs l (omega arith) r in
      let q = end_at ns p e in
      elim (dec_lt x q) [
        | no c ↦ later g d p e h o w s ts b up scope inner hs hi (omega arith) (omega (arith, o.inside))
            (noted rs g (suc d) q e l (omega arith) i (omega (arith, o.past)) (omega arith) o.after w s ts false up scope inner hs hi)
        | yes c ↦ elim (ℕ_discrete x p) [
          | yes z ↦ itself g d p e h o w s ts b up scope inner hs hi z
          | no z ↦ inside g d p e h o w s ts b up scope inner hs hi (omega arith) c
              (noted ks g d (p + 1) q (omega (arith, o.inside)) (omega arith) c (omega (arith, o.inside)) (omega arith) o.under (way k) v (targets N k ks) true (around w s ts b (empty rs) ∷ up)
              (here_at ns p e scope inner) (last_at ns p (here_at ns p e scope inner)) (stands g d p e h o w s ts b up scope inner hs hi) (stands_last g d p e h o w s ts b up scope inner hs hi))
        ]
      ]
