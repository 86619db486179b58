-- Collecting at each kind of node, and what a Def, a Lambda and a comprehension bind, by their children. Equations for code, which then needs no table of picks.
use Rattle.std.specs.Prelude.{◌≡◌, List, [], ◌∷◌, ◌++◌, true, ℕ}
use Rattle.std.proofs.Math.Path.{refl}
use Rattle.std.proofs.Common.{sym, ◌∙◌, ap, append_assoc, append-nil}
use Rattle.lexical.specs.Tree.{through, Forest, nil, node, shut, pick, after, loop, load, param, ◌⊕◌}
use Rattle.lexical.specs.Binders.{Names, Marks, Target, target, head_target, gather, collect, unmarked, looping, targets, Var, merge, note}

abbrev pub in_loop : Marks → Marks
in_loop m = record { loop = true; load = m.load; param = m.param }

abbrev pub in_load : Marks → Marks
in_load m = record { loop = m.loop; load = true; param = m.param }

abbrev pub as_param : Marks → Marks
as_param m = record { loop = m.loop; load = m.load; param = true }

-- expressions and Types give no target
pub collect_shut : (N : Names) (m : Marks) (k : ℕ) → pick k ≡ shut → (at v : ℕ) (kids rest : Forest) → collect N m (node at k v kids rest) ≡ collect N m rest
unfolding collect gather
collect_shut N m k e at v kids rest = rw e refl

-- what a node gives, then its later siblings
module _ (N : Names) (m : Marks) (at v : ℕ) (kids rest : Forest) where
  abbrev Gives : ℕ → List Target → Type 0
  Gives k ts = collect N m (node at k v kids rest) ≡ ts ++ collect N m rest

  through_kids : (k : ℕ) → pick k ≡ through → Gives k (collect N m kids)
  unfolding collect gather
  through_kids k e = rw e refl

  pub collect-block : Gives 0 (collect N m kids)
  collect-block = through_kids 0 (unfold pick in refl)

  pub collect-plain : Gives 1 (collect N m kids)
  collect-plain = through_kids 1 (unfold pick in refl)

  pub collect_assign : Gives 2 (collect N m kids)
  collect_assign = through_kids 2 (unfold pick in refl)

  pub collect_modify : Gives 3 (collect N m kids)
  collect_modify = through_kids 3 (unfold pick in refl)

  pub collect_if : Gives 4 (collect N m kids)
  collect_if = through_kids 4 (unfold pick in refl)

  pub collect_tuple : Gives 9 (collect N m kids)
  collect_tuple = through_kids 9 (unfold pick in refl)

  pub collect-place : Gives 10 (collect N m kids)
  collect-place = through_kids 10 (unfold pick in refl)

  pub collect_for_clause : Gives 15 (collect N m kids)
  collect_for_clause = through_kids 15 (unfold pick in refl)

  pub collect_if_clause : Gives 16 (collect N m kids)
  collect_if_clause = through_kids 16 (unfold pick in refl)

  pub collect_ident : Gives 11 []
  collect_ident = collect_shut N m 11 (unfold pick in refl) at v kids rest

  pub collect_lambda : Gives 12 []
  collect_lambda = collect_shut N m 12 (unfold pick in refl) at v kids rest

  pub collect_compr : Gives 13 []
  collect_compr = collect_shut N m 13 (unfold pick in refl) at v kids rest

  pub collect_other : Gives 14 []
  collect_other = collect_shut N m 14 (unfold pick in refl) at v kids rest

  pub collect_type : Gives 18 []
  collect_type = collect_shut N m 18 (unfold pick in refl) at v kids rest

  pub collect_for : Gives 5 (collect N (in_loop m) kids)
  unfolding collect gather pick
  collect_for = refl

  pub collect_def : Gives 6 (head_target N m kids)
  unfolding collect gather pick
  collect_def = refl

  pub collect-load : Gives 7 (collect N (in_load m) kids)
  unfolding collect gather pick
  collect-load = refl

  pub collect_name : Gives 8 (target N m at v ∷ [])
  unfolding collect gather pick
  collect_name = refl

  pub collect_param : Gives 17 (collect N (as_param m) kids)
  unfolding collect gather pick
  collect_param = refl

-- a Def gives its own name
pub collect_def_name : (N : Names) (m : Marks) (at v a n : ℕ) (kids more rest : Forest) → collect N m (node at 6 v (node a 8 n kids more) rest) ≡ target N m a n ∷ collect N m rest
unfolding collect gather pick head_target
collect_def_name N m at v a n kids more rest = refl

pub collect_append : (N : Names) (m : Marks) (f g : Forest) → collect N m (f ⊕ g) ≡ collect N m f ++ collect N m g
unfolding collect ◌⊕◌
collect_append N m nil g = refl
collect_append N m (node at k v kids rest) g = ap (λ l. gather N m (pick k) at v kids (λ m. collect N m kids) ++ l) (collect_append N m rest g) ∙ sym (append_assoc (gather N m (pick k) at v kids (λ m. collect N m kids)) (collect N m rest) (collect N m g))

pub merge_append : (vs : List Var) (xs ys : List Target) → merge vs (xs ++ ys) ≡ merge (merge vs xs) ys
unfolding merge
merge_append vs [] ys = refl
merge_append vs (t ∷ xs) ys = merge_append (note t vs) xs ys

-- what a Def, a Lambda and a comprehension bind
pub targets_def : (N : Names) (kids : Forest) → targets N 6 kids ≡ collect N unmarked (after kids)
unfolding targets
targets_def N kids = refl

pub targets_lambda : (N : Names) (kids : Forest) → targets N 12 kids ≡ collect N unmarked kids
unfolding targets
targets_lambda N kids = refl

pub targets_compr : (N : Names) (kids : Forest) → targets N 13 kids ≡ collect N looping kids
unfolding targets
targets_compr N kids = refl

-- what a Def and a Lambda bind, by their children
pub targets_def_named : (N : Names) (a n : ℕ) (ps body : Forest) → targets N 6 (node a 8 n nil (ps ⊕ body)) ≡ collect N unmarked ps ++ collect N unmarked body
unfolding targets after
targets_def_named N a n ps body = collect_append N unmarked ps body

-- a Lambda's expression gives no target
pub targets_lambda_shut : (N : Names) (ps : Forest) (k : ℕ) → pick k ≡ shut → (at v : ℕ) (kids : Forest) → targets N 12 (ps ⊕ node at k v kids nil) ≡ collect N unmarked ps
unfolding collect
targets_lambda_shut N ps k e at v kids = targets_lambda N (ps ⊕ node at k v kids nil) ∙ collect_append N unmarked ps _
    ∙ ap (λ l. collect N unmarked ps ++ l) (collect_shut N unmarked k e at v kids nil) ∙ append-nil (collect N unmarked ps)

pub collect_param_named : (N : Names) (m : Marks) (at v a n : ℕ) (more rest : Forest) → collect N m (node at 17 v (node a 8 n nil more) rest) ≡ target N (as_param m) a n ∷ (collect N (as_param m) more ++ collect N m rest)
unfolding collect gather pick
collect_param_named N m at v a n more rest = refl
