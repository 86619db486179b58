-- The loop over siblings: what was noted so far, and what is left to note.
use Prim.Native.Nat.{ℕ, zero, suc, ◌+◌, ◌-◌, ◌<◌, ◌≤◌}
use mathlib.Core.Path.{◌≡◌, refl, sym, ap, ◌∙◌}
use mathlib.Core.Bool.{Bool, true, false, cond}
use mathlib.Core.List.{List, [], ◌∷◌}
use native.Mathlib.Omega.{arith}
use lib.Dec.{eqb}
use lib.ListN.{length, drop}
use Rattle.std.specs.Prelude.{◌*◌, Option, None, Some}
use Rattle.lexical.specs.Tree.{when}
use Rattle.nodefile.specs.Listed.{kind_at, size_at, value_at, is_scope}
use Rattle.around.specs.Ends.{end_past}
use Rattle.around.specs.Descent.{end_at}
use Rattle.around.specs.Outer.{outer_in, stored}
use Rattle.around.specs.Own.{own_scope}
use Rattle.std.specs.Option.{unwrap_or}
use Rattle.around.specs.Levels.{outer-none, outer_flat, here_at, last_at, outer_more, stored_append, stored-length}

-- what is noted in the end, whatever number is above the siblings' count, is noted of those that are left
pub record Left (ns : List ℕ) (to scope inner levels p : ℕ) (out end : List ℕ) : Type 0 where
  pub far : ℕ
  pub enough : to ≤ p + far
  pub same : stored (outer_in far levels ns p to scope inner) out ≡ end

pub record Walking (ns : List ℕ) (from to scope inner levels : ℕ) (old : List ℕ) (p : ℕ) (out : List ℕ) : Type 0 where
  pub long : length out ≡ length old
  pub left : (f : ℕ) → to ≤ from + f → Left ns to scope inner levels p out (stored (outer_in f levels ns from to scope inner) old)

module _ {ns : List ℕ} {from to scope inner levels : ℕ} {old : List ℕ} {p : ℕ} {out : List ℕ} (g : Walking ns from to scope inner levels old p out) where
  pub walking_end : to ≤ p → (f : ℕ) → to ≤ from + f → out ≡ stored (outer_in f levels ns from to scope inner) old
  unfolding stored
  walking_end h f m = let r = g.left f m in ap (λ (xs : List (ℕ × ℕ)). stored xs out) (sym (outer-none r.far levels ns p to scope inner h)) ∙ r.same

-- no levels: nothing is noted
pub flat : (ns : List ℕ) (from to scope inner levels : ℕ) (old : List ℕ) → levels ≡ 0 → (f : ℕ) → old ≡ stored (outer_in f levels ns from to scope inner) old
unfolding stored
flat ns from to scope inner levels old e f =
    ap (λ (xs : List (ℕ × ℕ)). stored xs old) (sym (outer_flat f ns from to scope inner)) ∙ ap (λ (d : ℕ). stored (outer_in f d ns from to scope inner) old) (sym e)

pub ends_past : (ns : List ℕ) (p to q : ℕ) → p < to → q ≡ end_at ns p to → (p < q) × (q ≤ to)
ends_past ns p to q h e = let z = end_past (size_at ns p) p to h in omega (arith, z.0, z.1)

-- what is noted of a node that stands in a scope, by its own scope
abbrev pub noted_of : Option ℕ → ℕ → List (ℕ × ℕ)
noted_of None here = []
noted_of (Some v) here = (v, here) ∷ []

module _ (ns : List ℕ) (p here : ℕ) where
  own_noted : noted_of (own_scope (drop (8 * p) ns)) here ≡ when (is_scope (kind_at ns p)) (value_at ns p, here)
  unfolding when
  own_noted = pick (is_scope (kind_at ns p))
    where
      pick : (b : Bool) → noted_of (cond b (Some (value_at ns p)) None) here ≡ when b (value_at ns p, here)
      pick true = refl
      pick false = refl

  own_last : unwrap_or (own_scope (drop (8 * p) ns)) here ≡ last_at ns p here
  own_last = pick (is_scope (kind_at ns p))
    where
      pick : (b : Bool) → unwrap_or (cond b (Some (value_at ns p)) None) here ≡ cond b (value_at ns p) here
      pick true = refl
      pick false = refl

-- one sibling: what was read of it, noted, and noted below it
pub record Passed (ns : List ℕ) (to scope inner levels p : ℕ) (out : List ℕ) (q : ℕ) (new : List ℕ) : Type 0 where
  pub here : ℕ
  pub own : Option ℕ
  pub last : ℕ
  pub mid : List ℕ
  pub ends : q ≡ end_at ns p to
  pub here_is : here ≡ cond (eqb q to) inner scope
  pub own_is : own ≡ own_scope (drop (8 * p) ns)
  pub noted : mid ≡ stored (noted_of own here) out
  pub last_is : last ≡ unwrap_or own here
  pub below : (f : ℕ) → q ≤ p + 1 + f → new ≡ stored (outer_in f (levels - 1) ns (p + 1) q here last) mid

module _ {ns : List ℕ} {to scope inner levels p : ℕ} {out : List ℕ} {q : ℕ} {new : List ℕ} (h : p < to) (s : Passed ns to scope inner levels p out q new) where
  pub passed_past : (p < q) × (q ≤ to)
  passed_past = ends_past ns p to q h s.ends

  passed_long : length new ≡ length out
  passed_long =
      ap length (s.below q (omega arith)) ∙ stored-length (outer_in q (levels - 1) ns (p + 1) q s.here s.last) s.mid
      ∙ ap length s.noted ∙ stored-length (noted_of s.own s.here) out

  -- the words of the definition
  here_at_lem : s.here ≡ here_at ns p to scope inner
  here_at_lem = s.here_is ∙ ap (λ (x : ℕ). cond (eqb x to) inner scope) s.ends

  noted_at : s.mid ≡ stored (when (is_scope (kind_at ns p)) (value_at ns p, here_at ns p to scope inner)) out
  noted_at = s.noted ∙ rw (s.own_is, here_at_lem) (ap (λ (xs : List (ℕ × ℕ)). stored xs out) (own_noted ns p _))

  last_at_lem : s.last ≡ last_at ns p (here_at ns p to scope inner)
  last_at_lem = s.last_is ∙ rw (s.own_is, here_at_lem) (own_last ns p _)

  below_at : (f d : ℕ) → levels ≡ suc d → to ≤ p + suc f
      → new ≡ stored (outer_in f d ns (p + 1) (end_at ns p to) (here_at ns p to scope inner) (last_at ns p (here_at ns p to scope inner))) s.mid
  below_at f d e m =
      let z : levels - 1 ≡ d = omega arith in
      s.below f (omega (arith, passed_past)) ∙ rw (z, s.ends, here_at_lem, last_at_lem) refl

  left_more : {end : List ℕ} (f d : ℕ) → levels ≡ suc d → to ≤ p + suc f → stored (outer_in (suc f) levels ns p to scope inner) out ≡ end
      → stored (outer_in f levels ns q to scope inner) new ≡ end
  left_more {end} f d e m k =
      let here = here_at ns p to scope inner in
      let own : List (ℕ × ℕ) = when (is_scope (kind_at ns p)) (value_at ns p, here) in
      let kids = outer_in f d ns (p + 1) (end_at ns p to) here (last_at ns p here) in
      let rest = outer_in f levels ns (end_at ns p to) to scope inner in
      let split : stored (outer_in (suc f) levels ns p to scope inner) out ≡ stored rest (stored kids (stored own out)) =
      rw e (ap (λ (xs : List (ℕ × ℕ)). stored xs out) (outer_more f d ns p to scope inner h) ∙ stored_append own _ out ∙ stored_append kids _ (stored own out)) in
      let done : new ≡ stored kids (stored own out) = below_at f d e m ∙ ap (stored kids) noted_at in
      ap (λ (x : ℕ). stored (outer_in f levels ns x to scope inner) new) s.ends ∙ ap (stored rest) done ∙ sym split ∙ k

  left_on : {end : List ℕ} (d : ℕ) → levels ≡ suc d → Left ns to scope inner levels p out end → Left ns to scope inner levels q new end
  left_on {end} d e r = on r.far refl
    where
      on : (f : ℕ) → f ≡ r.far → Left ns to scope inner levels q new end
      on zero z = absurd (let y : ⊥ = omega (arith, r.enough) in y)
      on (suc f) z = record {
        far = f;
        enough = omega (arith, r.enough, passed_past);
        same = left_more f d e (omega (arith, r.enough)) (ap (λ (x : ℕ). stored (outer_in x levels ns p to scope inner) out) z ∙ r.same);
      }

  pub walking_more : {from : ℕ} {old : List ℕ} → (levels ≡ 0 → ⊥) → Walking ns from to scope inner levels old p out → Walking ns from to scope inner levels old q new
  walking_more n g = record {
    long = passed_long ∙ g.long;
    left = λ f m. left_on (levels - 1) (omega arith) (g.left f m);
  }
