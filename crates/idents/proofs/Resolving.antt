-- Resolving as a walk over siblings; and what a node by itself comes to, by its kind.
use Prim.Native.Nat.{ℕ}
use mathlib.Core.Path.{◌≡◌, sym, ap, ◌∙◌}
use mathlib.Core.Bool.{Bool, true, false}
use mathlib.Core.Logic.{◌⊎◌, inl, inr}
use mathlib.Core.List.{List, ◌∷◌, ◌++◌}
use Rattle.lexical.specs.Lists.{first}
use Rattle.lexical.specs.Tree.{Forest, nil, node, top, ◌⊕◌}
use Rattle.lexical.specs.Binders.{Names, collect, looping}
use Rattle.lexical.specs.Module.{Outer}
use Rattle.lexical.specs.State.{Binding, St, Ctx}
use Rattle.lexical.specs.Block.{block, called}
use Rattle.lexical.specs.Third.{look_found, typed, enter, inner}
use Rattle.lexical.proofs.Laws.Visit.{visit, each, each_nil, each_node, each_append, each-one, visit_others, visit_ident, visit_type, visit_for_clause, visit_def, visit_lambda, visit_compr}
use Rattle.nodefile.specs.Parts.{Walk}
use Rattle.idents.proofs.Fine.{Fine, fine_apart}

abbrev pub ctx : List Binding → List ℕ → Bool → Ctx
ctx env ss ty = record { env = env; scopes = ss; ty = ty }

-- a kind whose children are resolved in their order, and nothing else; `omega arith` proves it
abbrev pub Other : ℕ → Type 0
Other k = (k ≡ 6 → ⊥) × (k ≡ 11 → ⊥) × (k ≡ 12 → ⊥) × (k ≡ 13 → ⊥) × (k ≡ 15 → ⊥) × (k ≡ 18 → ⊥)

module _ (N : Names) (D : ℕ → List Binding) (out : ℕ → Outer) where
  pub each_step : (c : Ctx) (a k v : ℕ) (kids rest : Forest) (st : St) → each N D out (node a k v kids rest) c st ≡ each N D out rest c (each N D out (node a k v kids nil) c st)
  each_step c a k v kids rest st = each_node N D out a k v kids rest c st ∙ ap (λ (x : St). each N D out rest c x) (sym (each-one N D out a k v kids c st))

  -- the state so far, and after one more forest
  abbrev pub resolving : Ctx → Walk St
  resolving c = record {
    Fine = Fine c.scopes;
    over = λ f st. each N D out f c st;
    apart = fine_apart;
    stop = each_nil N D out c;
    step = each_step c;
  }

  module _ (at k v : ℕ) (kids : Forest) where
    -- a node by itself that comes to what its children come to
    pub other_node : Other k → (c : Ctx) (st : St) → each N D out (node at k v kids nil) c st ≡ each N D out kids c st
    other_node h c st = each-one N D out at k v kids c st ∙ visit_others N D out k h.0 h.1 h.2 h.3 h.4 h.5 at v kids c st

    -- .. and then to what those after it come to: its children stand before them
    pub opened_node : Other k → (rest : Forest) (c : Ctx) (st : St) → each N D out (kids ⊕ rest) c st ≡ each N D out (node at k v kids rest) c st
    opened_node h rest c st =
        each_append N D out kids rest c st ∙ ap (λ (x : St). each N D out rest c x) (sym (other_node h c st)) ∙ sym (each_step c at k v kids rest st)

    pub type_node : k ≡ 18 → (env : List Binding) (ss : List ℕ) (ty : Bool) (st : St) → each N D out (node at k v kids nil) (ctx env ss ty) st ≡ each N D out kids (ctx env ss true) st
    unfolding typed
    type_node e env ss ty st = each-one N D out at k v kids (ctx env ss ty) st ∙ (rw e (visit_type N D out at v kids (ctx env ss ty) st))

    -- an Ident
    pub ident_node : (n : ℕ) → v ≡ n → k ≡ 11 → kids ≡ nil → (c : Ctx) (st : St) → each N D out (node at k v kids nil) c st ≡ look_found (first (called n) c.env) (out n) at n c st
    ident_node n h e z c st = each-one N D out at k v kids c st ∙ (rw (e, z, h) (visit_ident N D out at n c st))

    -- the first child after the others
    pub clause_node : (a j u : ℕ) (more rest : Forest) → k ≡ 15 → kids ≡ node a j u more rest → (c : Ctx) (st : St)
        → each N D out (node at k v kids nil) c st ≡ each N D out (node a j u more nil) c (each N D out rest c st)
    clause_node a j u more rest e z c st = each-one N D out at k v kids c st ∙ (rw (e, z) (visit_for_clause N D out at v a j u more rest c st)) ∙ sym (each-one N D out a j u more c _)

    -- the first child, the variables, the others
    pub compr_node : (a j u : ℕ) (more rest : Forest) → k ≡ 13 → kids ≡ node a j u more rest → (env : List Binding) (ss : List ℕ) (ty : Bool) (st : St)
        → let r = block (top ss) (collect N looping kids) (each N D out (node a j u more nil) (ctx env ss false) st) in
        each N D out (node at k v kids nil) (ctx env ss ty) st ≡ each N D out rest (ctx (r.0 ++ env) ss false) r.1
    unfolding typed inner
    compr_node a j u more rest e z env ss ty st =
        each-one N D out at k v kids (ctx env ss ty) st ∙ (rw (e, z, each-one N D out a j u more (ctx env ss false) st) (visit_compr N D out at v a j u more rest (ctx env ss ty) st))

    -- all children but the last outside, the last inside
    pub function_node : (n : ℕ) → v ≡ n → (front : Forest) (a j u : ℕ) (more : Forest) → (k ≡ 6) ⊎ (k ≡ 12) → kids ≡ front ⊕ node a j u more nil → (env : List Binding) (ss : List ℕ) (ty : Bool) (st : St)
        → each N D out (node at k v kids nil) (ctx env ss ty) st ≡ each N D out (node a j u more nil) (ctx (D n ++ env) (n ∷ ss) false) (each N D out front (ctx env ss false) st)
    unfolding typed enter
    function_node n h front a j u more d z env ss ty st = each-one N D out at k v kids (ctx env ss ty) st ∙ go d ∙ sym (each-one N D out a j u more (ctx (D n ++ env) (n ∷ ss) false) _)
      where
        go : (k ≡ 6) ⊎ (k ≡ 12) → visit N D out at k v kids (ctx env ss ty) st ≡ visit N D out a j u more (ctx (D n ++ env) (n ∷ ss) false) (each N D out front (ctx env ss false) st)
        go (inl e) = rw (e, z, h) (visit_def N D out at n front a j u more (ctx env ss ty) st)
        go (inr e) = rw (e, z, h) (visit_lambda N D out at n front a j u more (ctx env ss ty) st)
