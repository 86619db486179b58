-- Walk two at each kind of node. Equations for code.
use Rattle.std.proofs.Common.{sym, ◌∙◌, ap, arith}
use Rattle.std.specs.Prelude.{◌≡◌, List, [], ◌∷◌, ◌++◌, Bool, true, cond, ℕ}
use Rattle.std.proofs.Math.Path.{refl}
use Rattle.std.proofs.Math.Bool.{false}
use Rattle.lexical.specs.Tree.{when, listed, is_fn, Forest, nil, node, way, after, ◌⊕◌}
use Rattle.lexical.specs.Binders.{Target, Names, collect, unmarked, targets}
use Rattle.lexical.specs.State.{St, Row}
use Rattle.lexical.specs.Second.{declare_fn, declare_here, declare}
use Rattle.lexical.proofs.Theory.Kinds.{no_fn}

-- walk two
pub declare_others : (N : Names) (k : ℕ) → (k ≡ 6 → ⊥) → (k ≡ 12 → ⊥) → (at v : ℕ) (kids rest : Forest) (x : List Row × St) → declare N (node at k v kids rest) x ≡ declare N rest (declare N kids x)
unfolding declare declare_here
declare_others N k a b at v kids rest x = rw (no_fn k a b) refl

module _ (N : Names) (at v : ℕ) (kids rest : Forest) (x : List Row × St) where
  pub declare_def : declare N (node at 6 v kids rest) x ≡ declare N rest (declare N kids (declare_fn v (collect N unmarked (after kids)) x))
  unfolding declare declare_here is_fn way targets
  declare_def = refl

  pub declare_lambda : declare N (node at 12 v kids rest) x ≡ declare N rest (declare N kids (declare_fn v (collect N unmarked kids) x))
  unfolding declare declare_here is_fn way targets
  declare_lambda = refl

  -- the other kinds one by one
  abbrev Passes : ℕ → Type 0
  Passes k = declare N (node at k v kids rest) x ≡ declare N rest (declare N kids x)

  pub declare-block : Passes 0
  declare-block = declare_others N 0 (λ e. omega arith) (λ e. omega arith) at v kids rest x

  pub declare-plain : Passes 1
  declare-plain = declare_others N 1 (λ e. omega arith) (λ e. omega arith) at v kids rest x

  pub declare_assign : Passes 2
  declare_assign = declare_others N 2 (λ e. omega arith) (λ e. omega arith) at v kids rest x

  pub declare_modify : Passes 3
  declare_modify = declare_others N 3 (λ e. omega arith) (λ e. omega arith) at v kids rest x

  pub declare_if : Passes 4
  declare_if = declare_others N 4 (λ e. omega arith) (λ e. omega arith) at v kids rest x

  pub declare_for : Passes 5
  declare_for = declare_others N 5 (λ e. omega arith) (λ e. omega arith) at v kids rest x

  pub declare-load : Passes 7
  declare-load = declare_others N 7 (λ e. omega arith) (λ e. omega arith) at v kids rest x

  pub declare_name : Passes 8
  declare_name = declare_others N 8 (λ e. omega arith) (λ e. omega arith) at v kids rest x

  pub declare_tuple : Passes 9
  declare_tuple = declare_others N 9 (λ e. omega arith) (λ e. omega arith) at v kids rest x

  pub declare-place : Passes 10
  declare-place = declare_others N 10 (λ e. omega arith) (λ e. omega arith) at v kids rest x

  pub declare_ident : Passes 11
  declare_ident = declare_others N 11 (λ e. omega arith) (λ e. omega arith) at v kids rest x

  pub declare_compr : Passes 13
  declare_compr = declare_others N 13 (λ e. omega arith) (λ e. omega arith) at v kids rest x

  pub declare_other : Passes 14
  declare_other = declare_others N 14 (λ e. omega arith) (λ e. omega arith) at v kids rest x

  pub declare_for_clause : Passes 15
  declare_for_clause = declare_others N 15 (λ e. omega arith) (λ e. omega arith) at v kids rest x

  pub declare_if_clause : Passes 16
  declare_if_clause = declare_others N 16 (λ e. omega arith) (λ e. omega arith) at v kids rest x

  pub declare_param : Passes 17
  declare_param = declare_others N 17 (λ e. omega arith) (λ e. omega arith) at v kids rest x

  pub declare_type : Passes 18
  declare_type = declare_others N 18 (λ e. omega arith) (λ e. omega arith) at v kids rest x

pub declare_append : (N : Names) (f g : Forest) (x : List Row × St) → declare N (f ⊕ g) x ≡ declare N g (declare N f x)
unfolding declare ◌⊕◌
declare_append N nil g x = refl
declare_append N (node at k v kids rest) g x = declare_append N rest g _

-- as a loop over the nodes: the functions in node order, each with its scope number and its targets
unfoldable pub fns_in : Names → Forest → List (ℕ × List Target)
fns_in N f = listed (λ k. is_fn (way k)) (λ at k v kids. (v, targets N k kids)) f

unfoldable pub declare_all : List (ℕ × List Target) → List Row × St → List Row × St
declare_all [] x = x
declare_all (p ∷ ps) x = declare_all ps (declare_fn p.0 p.1 x)

pub declare_all_append : (ps qs : List (ℕ × List Target)) (x : List Row × St) → declare_all (ps ++ qs) x ≡ declare_all qs (declare_all ps x)
unfolding declare_all
declare_all_append [] qs x = refl
declare_all_append (p ∷ ps) qs x = declare_all_append ps qs (declare_fn p.0 p.1 x)

pub declare_list : (N : Names) (f : Forest) (x : List Row × St) → declare N f x ≡ declare_all (fns_in N f) x
unfolding declare declare_here fns_in listed
declare_list N nil x = unfold declare_all in refl
declare_list N (node at k v kids rest) x =
    let p : List (ℕ × List Target) = when (is_fn (way k)) (v, targets N k kids) in
    declare_list N rest (declare N kids (declare_here (way k) v (targets N k kids) x))
    ∙ ap (declare_all (fns_in N rest)) (declare_list N kids (declare_here (way k) v (targets N k kids) x) ∙ ap (declare_all (fns_in N kids)) (here (is_fn (way k))))
    ∙ sym (declare_all_append p (fns_in N kids ++ fns_in N rest) x ∙ declare_all_append (fns_in N kids) (fns_in N rest) (declare_all p x))
  where
    here : (b : Bool) → cond b (declare_fn v (targets N k kids) x) x ≡ declare_all (when b (v, targets N k kids)) x
    here true = unfold when declare_all in refl
    here false = unfold when declare_all in refl
