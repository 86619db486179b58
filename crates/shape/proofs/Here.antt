-- The node that a loop over a sound list has come to.
use Prim.Native.Nat.{ℕ, ◌-◌, ◌*◌, ◌≤◌, ◌<◌}
use mathlib.Core.Path.{◌≡◌, sym, subst}
use mathlib.Core.List.{List}
use native.Mathlib.Omega.{arith}
use lib.ListN.{length, take, drop, length-drop}
use Rattle.nodefile.specs.Node.{kind_of, size_of, below}
use Rattle.nodefile.specs.Kids.{Kids, Fits}
use Rattle.shape.specs.Nodes.{Sound}
use Rattle.shape.proofs.Pass.{Passed, passed_inside}
use Rattle.nodefile.proofs.Laws.Fitting.{below-is}

-- what is known of the node that t starts with
pub record Here (t : List ℕ) : Type 0 where
  pub known : kind_of t < 19
  pub some : 0 < size_of t
  pub inside : 8 * size_of t ≤ length t
  pub fits : Fits (below t)

pub node_here : {ns : List ℕ} {P : ℕ → Type 0} {t : List ℕ} → Sound ns → Passed ns P t → 8 ≤ length t → Here t
node_here {ns} s p h =
    let l = passed_inside p h in
    let i = p.here in
    subst Here (sym p.part) (record {
      known = s.known i l;
      some = s.some i l;
      inside = omega (arith, s.inside i l, length-drop (8 * i) ns);
      fits = s.fits i l;
    })

-- what a test said of the children that a reader took out, said of the node itself
pub kids_here : {t u : List ℕ} {s k : ℕ} (Q : ℕ → List ℕ → Type 0) → s ≡ size_of t → k ≡ kind_of t → t ≡ u
    → ((ks : List ℕ) → Kids (take (8 * s - 8) (drop 8 t)) ks → Q k ks) → (ks : List ℕ) → Kids (below u) ks → Q (kind_of u) ks
kids_here {t} Q p q e g =
    subst (λ (u : List ℕ). (ks : List ℕ) → Kids (below u) ks → Q (kind_of u) ks) e
    (λ ks m. subst (λ (x : ℕ). Q x ks) q (g ks (subst (λ (v : List ℕ). Kids v ks) (sym (below-is t p)) m)))
