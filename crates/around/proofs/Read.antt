-- What is read of a node, from the part of the list that starts with it.
use Prim.Native.Nat.{ℕ, ◌*◌, ◌<◌}
use mathlib.Core.Path.{◌≡◌, ap, ◌∙◌}
use mathlib.Core.List.{List}
use native.Mathlib.Omega.{arith}
use lib.ListN.{drop, length-take}
use Rattle.bits.proofs.FieldLaws.{field_lt}
use Rattle.nodefile.specs.Node.{Is, size_of}
use Rattle.nodefile.specs.Layout.{node_count, nodes_of}
use Rattle.around.specs.Ends.{end_in}
use Rattle.around.specs.Scopes.{counted}
use Rattle.around.specs.Descent.{end_at}

-- where it ends, by its size
pub ended : (ns : List ℕ) (p e : ℕ) {t : List ℕ} {z q : ℕ} → t ≡ drop (8 * p) ns → Is (size_of t) 65536 z → q ≡ end_in z p e → q ≡ end_at ns p e
ended ns p e n s q = q ∙ ap (λ (z : ℕ). end_in z p e) (s.is ∙ ap size_of n)

-- a file's header counts fewer nodes than this
pub few_nodes : (bs : List ℕ) → counted (nodes_of bs) < 65536
few_nodes bs = omega (arith, length-take (8 * node_count bs) (drop 12 bs), field_lt bs 8 16)
