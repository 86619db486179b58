-- A loop over the nodes of a list: what was shown of each node passed.
use Prim.Native.Nat.{ℕ, ◌+◌, ◌-◌, ◌*◌, ◌%◌, ◌≤◌, ◌<◌}
use mathlib.Core.Path.{◌≡◌, refl, ap, ◌∙◌}
use mathlib.Core.List.{List}
use native.Mathlib.Omega.{arith}
use borrow.Author.Count.{below_more, below_none}
use lib.ListN.{length, take, drop, length-drop}
use lib.Seq.{drop-drop}
use Rattle.base.specs.Parts.{part-from}
use Rattle.shape.specs.Nodes.{at}

-- t starts with node `here`, and P holds of each node before it
pub record Passed (ns : List ℕ) (P : ℕ → Type 0) (t : List ℕ) : Type 0 where
  pub here : ℕ
  pub part : t ≡ at ns here
  pub holds : (k : ℕ) → k < here → P k

pub passed_none : (ns : List ℕ) (P : ℕ → Type 0) → Passed ns P ns
passed_none ns P = record { here = 0; part = refl; holds = below_none P }

module _ {ns : List ℕ} {P : ℕ → Type 0} {t : List ℕ} (p : Passed ns P t) where
  left : length t ≡ length ns - 8 * p.here
  left = ap length p.part ∙ length-drop (8 * p.here) ns

  pub passed_inside : 8 ≤ length t → 8 * p.here < length ns
  passed_inside h = omega (arith, left)

  -- `&t[8..]`, as the check has it
  pub passed_more : P p.here → Passed ns P (take (length t - 8) (drop 8 t))
  passed_more h =
      let e : 8 * p.here + 8 ≡ 8 * (p.here + 1) = omega arith in
      record {
        here = p.here + 1;
        part = part-from t 8 ∙ ap (drop 8) p.part ∙ drop-drop 8 (8 * p.here) ns ∙ ap (λ (x : ℕ). drop x ns) e;
        holds = below_more P p.here p.holds h;
      }

  pub passed_all : length t < 8 → length ns % 8 ≡ 0 → (k : ℕ) → 8 * k < length ns → P k
  passed_all h m k l = p.holds k (omega (arith, left))
