-- What a node gives when it is collected, by how its kind is (`pick`); and collecting as a walk over siblings.
use Prim.Native.Nat.{ℕ}
use mathlib.Core.Path.{◌≡◌, refl, sym, ap, ◌∙◌}
use mathlib.Core.List.{List, [], ◌∷◌, ◌++◌, append_assoc, append-nil}
use Rattle.lexical.specs.Tree.{Forest, nil, node, pick, through, shut}
use Rattle.lexical.specs.Binders.{Names, Marks, Target, target, head_target, gather, collect}
use Rattle.lexical.proofs.Laws.Collect.{in_loop, in_load, as_param}
use Rattle.nodefile.specs.Valid.{Valid}
use Rattle.nodefile.specs.Parts.{Walk}
use Rattle.nodefile.proofs.Laws.Parts.{valid_apart}

pub collect-stop : (N : Names) (m : Marks) (ts : List Target) → ts ++ collect N m nil ≡ ts
unfolding collect
collect-stop N m ts = append-nil ts

pub collect_step : (N : Names) (m : Marks) (a k v : ℕ) (kids rest : Forest) (ts : List Target)
    → ts ++ collect N m (node a k v kids rest) ≡ (ts ++ collect N m (node a k v kids nil)) ++ collect N m rest
unfolding collect
collect_step N m a k v kids rest ts =
    let x = gather N m (pick k) a v kids (λ m. collect N m kids) in
    ap (λ (y : List Target). ts ++ (y ++ collect N m rest)) (sym (append-nil x)) ∙ sym (append_assoc ts (x ++ []) (collect N m rest))

-- the targets so far, and those of one more forest
abbrev pub collecting : Names → Marks → Walk (List Target)
collecting N m = record {
  Fine = Valid;
  over = λ f ts. ts ++ collect N m f;
  apart = valid_apart;
  stop = collect-stop N m;
  step = collect_step N m;
}

module _ (N : Names) (m : Marks) (at k v : ℕ) (kids : Forest) where
  pub shut_node : pick k ≡ shut → collect N m (node at k v kids nil) ≡ []
  unfolding collect gather
  shut_node e = rw e refl

  -- a node by itself that gives what its children give
  pub through_node : pick k ≡ through → collect N m (node at k v kids nil) ≡ collect N m kids
  unfolding collect gather
  through_node e = rw e (append-nil (collect N m kids))

  pub loop_node : k ≡ 5 → collect N m (node at k v kids nil) ≡ collect N (in_loop m) kids
  unfolding collect gather pick
  loop_node e = rw e (append-nil (collect N (in_loop m) kids))

  pub load_node : k ≡ 7 → collect N m (node at k v kids nil) ≡ collect N (in_load m) kids
  unfolding collect gather pick
  load_node e = rw e (append-nil (collect N (in_load m) kids))

  pub param_node : k ≡ 17 → collect N m (node at k v kids nil) ≡ collect N (as_param m) kids
  unfolding collect gather pick
  param_node e = rw e (append-nil (collect N (as_param m) kids))

  -- a Name, and a Def by its Name
  pub name_node : (n : ℕ) → v ≡ n → k ≡ 8 → collect N m (node at k v kids nil) ≡ target N m at n ∷ []
  unfolding collect gather pick
  name_node n h e = rw (e, h) refl

  pub def_node : (n a w : ℕ) (rest : Forest) → w ≡ n → k ≡ 6 → kids ≡ node a 8 w nil rest → collect N m (node at k v kids nil) ≡ target N m a n ∷ []
  unfolding collect gather pick head_target
  def_node n a w rest h e i = rw (e, i, h) refl
