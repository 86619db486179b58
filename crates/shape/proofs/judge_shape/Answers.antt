-- Numbers 7 and 8, one after the other.
use Rattle.std.proofs.Common.{ℕ, List, ◌≡◌, Bool, refl, subst, subst₂}
use Rattle.base.specs.Says.{Says, says-true, says-false}
use Rattle.base.specs.First.{here, later}
use Rattle.shape.specs.Nodes.{BadNodes, sound}
use Rattle.shape.specs.Children.{BadChildren}
use Rattle.shape.proofs.judge_shape.Goals as goal

-- what the tests say of what was read they say of the file
nodes_said : (b : Bool) {n m : ℕ} {l k : List ℕ} → n ≡ m → l ≡ k → Says b (BadNodes n l) → Says b (BadNodes m k)
nodes_said b e q h = subst₂ (λ (n : ℕ) (l : List ℕ). Says b (BadNodes n l)) e q h

children_said : (b : Bool) {l k : List ℕ} → l ≡ k → Says b (BadChildren l) → Says b (BadChildren k)
children_said b q h = subst (λ (l : List ℕ). Says b (BadChildren l)) q h

pub returns-then-bad_nodes : goal.returns-then-bad_nodes
returns-then-bad_nodes c = here (says-true c.if-bad_nodes.true (nodes_said c.bad_nodes.result c.name_count-known.ensures.is c.nodes-list.ensures c.bad_nodes.ensures)) refl

pub bad_children-requires : goal.bad_children-requires
bad_children-requires c = sound _ _ (says-false c.if-bad_nodes.false c.bad_nodes.ensures)

pub returns-then-bad_children : goal.returns-then-bad_children
returns-then-bad_children c =
    later (says-false c.if-bad_nodes.false (nodes_said c.bad_nodes.result c.name_count-known.ensures.is c.nodes-list.ensures c.bad_nodes.ensures))
    (here (says-true c.if-bad_children.true (children_said c.bad_children.result c.nodes-list.ensures c.bad_children.ensures)) refl)

pub returns : goal.returns
returns c =
    later (says-false c.if-bad_nodes.false (nodes_said c.bad_nodes.result c.name_count-known.ensures.is c.nodes-list.ensures c.bad_nodes.ensures))
    (later (says-false c.if-bad_children.false (children_said c.bad_children.result c.nodes-list.ensures c.bad_children.ensures)) refl)
