-- The laws of `listed`, once for every list that the tree gives: nodes, Names, Idents, scope numbers, parameters, blocks.
use Rattle.std.specs.Prelude.{◌≡◌, Bool, ℕ, ◌+◌, ◌≤◌}
use Rattle.std.proofs.Math.Path.{refl, ap₂}
use Rattle.std.proofs.Common.{◌∙◌}
use mathlib.Core.List.{◌++◌, map, map-append}
use Rattle.std.proofs.Math.Bool.{true, false}
use native.Mathlib.Omega.{arith}
use Rattle.lexical.specs.Sums.{total, total_append}
use Rattle.lexical.specs.Tree.{Forest, nil, node, when, listed, nodes_in}

module _ {A : Type 0} (p : ℕ → Bool) (g : ℕ → ℕ → ℕ → Forest → A) where
  pub listed-total : (u : A → ℕ) (at k v : ℕ) (kids rest : Forest) → total u (listed p g (node at k v kids rest)) ≡ total u (when (p k) (g at k v kids)) + (total u (listed p g kids) + total u (listed p g rest))
  unfolding listed
  listed-total u at k v kids rest = omega (arith, total_append u (when (p k) (g at k v kids)) (listed p g kids ++ listed p g rest), total_append u (listed p g kids) (listed p g rest))

  -- at a node that does not pass the test
  pub listed_no : (k : ℕ) → p k ≡ false → (at v : ℕ) (kids rest : Forest) → listed p g (node at k v kids rest) ≡ listed p g kids ++ listed p g rest
  unfolding listed when
  listed_no k e at v kids rest = rw e refl

  pub listed-map : {B : Type 0} (h : A → B) (f : Forest) → map h (listed p g f) ≡ listed p (λ at k v kids. h (g at k v kids)) f
  unfolding listed when
  listed-map h nil = refl
  listed-map h (node at k v kids rest) = map-append h (when (p k) (g at k v kids)) _ ∙ ap₂ ◌++◌ (one (p k)) (map-append h (listed p g kids) _ ∙ ap₂ ◌++◌ (listed-map h kids) (listed-map h rest))
    where
      one : (b : Bool) → map h (when b (g at k v kids)) ≡ when b (h (g at k v kids))
      one true = refl
      one false = refl

-- of two tests that no kind passes both, the nodes that pass weigh no more than all
pub listed-apart : {A B : Type 0} (p q : ℕ → Bool) (g : ℕ → ℕ → ℕ → Forest → A) (h : ℕ → ℕ → ℕ → Forest → B) (u : A → ℕ) (w : B → ℕ) (t : ℕ → ℕ)
    → ((at k v : ℕ) (kids : Forest) → total u (when (p k) (g at k v kids)) + total w (when (q k) (h at k v kids)) ≤ t at)
    → (f : Forest) → total u (listed p g f) + total w (listed q h f) ≤ total t (nodes_in f)
unfolding nodes_in total when
listed-apart p q g h u w t le nil = unfold listed in omega arith
listed-apart p q g h u w t le (node at k v kids rest) = omega (
  arith,
  le at k v kids,
  listed-apart p q g h u w t le kids,
  listed-apart p q g h u w t le rest,
  listed-total p g u at k v kids rest,
  listed-total q h w at k v kids rest,
  listed-total (λ k. true) (λ at k v kids. at) t at k v kids rest,
)
