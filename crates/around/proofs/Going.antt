-- The loop of the descent: the scopes entered so far, and what is left to enter.
use Prim.Native.Nat.{ℕ, zero, suc, ◌+◌, ◌<◌, ◌≤◌}
use mathlib.Core.Path.{◌≡◌, refl, sym, ap, ◌∙◌}
use mathlib.Core.Bool.{Bool, true, false, cond}
use mathlib.Core.List.{List, [], ◌∷◌, ◌++◌, append_assoc, append-nil}
use native.Mathlib.Omega.{arith}
use lib.Dec.{eqb}
use lib.ListN.{length, get_or, drop, replicate, length-append, length-replicate}
use Rattle.std.specs.Prelude.{◌*◌, Option, None, Some}
use Rattle.base.specs.UpTo.{up_to_length}
use Rattle.lexical.specs.Tree.{when}
use Rattle.nodefile.specs.Listed.{kind_at, size_at, value_at, is_scope}
use Rattle.around.specs.Ends.{end_past}
use Rattle.around.specs.Own.{own_scope, entered}
use Rattle.around.specs.Scopes.{descend, counted, fitted, Holds}
use Rattle.around.specs.Descent.{end_at, own_at, descend_past, descend-next, descend_in}
use Rattle.around.proofs.Fitted.{fitted_zeros}

-- all scopes around node x
abbrev pub all_of : List ℕ → ℕ → List ℕ
all_of ns x = 0 ∷ descend (suc x) ns x 0 (counted ns) []

pub record Going (ns : List ℕ) (x : ℕ) (old : List ℕ) (p e : ℕ) (inner : Option ℕ) (n : ℕ) (new : List ℕ) : Type 0 where
  pub far : ℕ
  pub left : x < p + far
  pub inside : x < e
  pub ends : e ≤ counted ns
  pub few : n ≤ p + 1
  pub found : List ℕ
  pub holds : Holds found n old new
  pub same : found ++ descend far ns x p e (entered inner) ≡ all_of ns x

pub going_start : (ns : List ℕ) (x : ℕ) (old : List ℕ) (n : ℕ) → x < counted ns → old ≡ replicate n 0 → Going ns x old 0 (counted ns) None 1 old
going_start ns x old n h z = record {
  far = suc x;
  left = omega arith;
  inside = h;
  ends = omega arith;
  few = omega arith;
  found = 0 ∷ [];
  holds = record { count = refl; places = z ∙ fitted_zeros n ∙ ap (λ (k : ℕ). fitted k (0 ∷ [])) (sym (ap length z ∙ length-replicate n 0)) };
  same = refl;
}

-- at most one number
few_entered : (o : Option ℕ) → length (entered o) ≤ 1
few_entered None = omega arith
few_entered (Some s) = omega arith

-- the last of the siblings stands in inner, the others in no scope more
chosen : (b : Bool) (inner o : Option ℕ) → o ≡ cond b inner None → entered o ≡ cond b (entered inner) []
chosen true inner o e = ap entered e
chosen false inner o e = ap entered e

-- a node's own scope, as the descent has it
pub own_entered : (ns : List ℕ) (p : ℕ) → entered (own_scope (drop (8 * p) ns)) ≡ own_at ns p
unfolding when
own_entered ns p = pick (is_scope (kind_at ns p))
  where
    pick : (b : Bool) → entered (cond b (Some (value_at ns p)) None) ≡ when b (value_at ns p)
    pick true = refl
    pick false = refl

module _ {ns : List ℕ} {x : ℕ} {old : List ℕ} {p e : ℕ} {inner : Option ℕ} {n : ℕ} {new : List ℕ} (g : Going ns x old p e inner n new) where
  -- the list is as long as before
  pub going_long : length new ≡ length old
  going_long = ap length g.holds.places ∙ up_to_length (λ i. get_or g.found i 0) (length old)

  -- what it holds, said of itself
  pub going_held : Holds g.found n new new
  going_held = record { count = g.holds.count; places = g.holds.places ∙ ap (λ (l : ℕ). fitted l g.found) (sym going_long) }

  pub going_end : x < p → Holds (all_of ns x) n old new
  going_end h =
      let e' : g.found ≡ all_of ns x = sym (append-nil g.found) ∙ ap (λ (l : List ℕ). g.found ++ l) (sym (descend_past ns x p e (entered inner) g.far h)) ∙ g.same in
      record { count = g.holds.count ∙ ap length e'; places = g.holds.places ∙ ap (fitted (length old)) e' }

  module _ (h : p ≤ x) (q : ℕ) (is : q ≡ end_at ns p e) where
    -- the node that is passed ends past its start
    pub going_past : (p < q) × (q ≤ e)
    going_past = let z = end_past (size_at ns p) p e (omega (arith, g.inside)) in omega (arith, z.0, z.1)

    pub going_next : q ≤ x → Going ns x old q e inner n new
    going_next l = next g.far refl
      where
        next : (f : ℕ) → f ≡ g.far → Going ns x old q e inner n new
        next zero d = let z : ⊥ = omega (arith, g.left) in absurd z
        next (suc f) d = record {
          far = f;
          left = omega (arith, g.left, going_past);
          inside = g.inside;
          ends = g.ends;
          few = omega (arith, g.few, going_past);
          found = g.found;
          holds = g.holds;
          same = ap (λ (r : ℕ). g.found ++ descend f ns x r e (entered inner)) is
              ∙ ap (λ (l : List ℕ). g.found ++ l) (sym (descend-next ns x p e (entered inner) f h (omega arith)))
              ∙ ap (λ (k : ℕ). g.found ++ descend k ns x p e (entered inner)) d ∙ g.same;
        }

    pub going_in : x < q → (o : Option ℕ) → o ≡ cond (eqb q e) inner None → (own : Option ℕ) → own ≡ own_scope (drop (8 * p) ns) → (m : ℕ) (out : List ℕ)
        → Holds (g.found ++ entered o) m new out → Going ns x old (p + 1) q own m out
    going_in l o ho own hw m out w = into g.far refl
      where
        ahead : (f : ℕ) → entered o ++ descend f ns x (p + 1) q (entered own) ≡ cond (eqb (end_at ns p e) e) (entered inner) [] ++ descend f ns x (p + 1) (end_at ns p e) (own_at ns p)
        ahead f = rw (chosen (eqb q e) inner o ho, hw, own_entered ns p, is) refl

        into : (f : ℕ) → f ≡ g.far → Going ns x old (p + 1) q own m out
        into zero d = let z : ⊥ = omega (arith, g.left) in absurd z
        into (suc f) d = record {
          far = f;
          left = omega (arith, g.left);
          inside = l;
          ends = omega (arith, g.ends, going_past);
          few = omega (arith, w.count, length-append g.found (entered o), few_entered o, g.few, g.holds.count);
          found = g.found ++ entered o;
          holds = record { count = w.count; places = w.places ∙ ap (λ (n : ℕ). fitted n (g.found ++ entered o)) going_long };
          same = append_assoc g.found (entered o) (descend f ns x (p + 1) q (entered own))
              ∙ ap (λ (l : List ℕ). g.found ++ l) (ahead f ∙ sym (descend_in ns x p e (entered inner) f h (omega arith)))
              ∙ ap (λ (k : ℕ). g.found ++ descend k ns x p e (entered inner)) d ∙ g.same;
        }
