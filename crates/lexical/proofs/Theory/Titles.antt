-- Every Name's row, by the nodes around the Name: the binding that its block makes of its name. And every local is the binding of the Name that declares it.
use Rattle.std.proofs.Math.Path.{◌≡◌, sym, ap, subst}
use Rattle.std.specs.Prelude.{refl, ◌⊎◌, cond, ◌&&◌, ℕ, zero, suc, ◌+◌, length, drop}
use Rattle.std.proofs.Common.{◌∙◌, inl, inr}
use mathlib.Core.List.{List, [], ◌∷◌, ◌++◌, map}
use Rattle.std.proofs.Math.Bool.{true, false}
use Rattle.std.proofs.Math.Option.{some}
use native.Mathlib.Omega.{arith}
use Rattle.std.proofs.Math.Dec.{eqb}
use Rattle.std.proofs.Math.ListN.{get_elem?}
use Rattle.lexical.specs.Lists.{or_else, first, map_o, map_o_cond, eqb_self, eqb-not, eqb-true, none-some, Opened, absent, present, opened}
use Rattle.lexical.specs.Places.{All, all_none, all_cons, all_append, all_map, at_append, at_either, at_behind, map_at, first-at, map_o_some, In, Distinct}
use Rattle.lexical.specs.Tree.{is_fn, is_compr, plain, nodes_in}
use Rattle.lexical.specs.Table.{Tabled}
use Rattle.lexical.specs.Binders.{Target, Var, unmarked, merge}
use Rattle.lexical.specs.Module.{Entry, File, entry_var, module_vars}
use Rattle.lexical.specs.Meaning.{declares}
use Rattle.lexical.specs.State.{Binding, Named, St}
use Rattle.lexical.specs.Block.{new, add, bind, called, name_of, naming, block}
use Rattle.lexical.specs.First.{entry_slot, module_binding, module_bindings, start}
use Rattle.lexical.specs.Third.{copy_in, logged, resolved}
use Rattle.lexical.specs.Claims.{source}
use Rattle.lexical.specs.Blocks.{Block, of_module, of_scope, block_around, source_of, BoundIn, module_targets}
use Rattle.lexical.proofs.Laws.Adds.{bind_made}
use Rattle.lexical.proofs.Laws.Rows.{declares_has}
use Rattle.lexical.proofs.Theory.Apart.{called_as, block_distinct}
use Rattle.lexical.proofs.Theory.Blockwise.{KeptBy, blockwise}
use Rattle.lexical.proofs.Theory.Makes.{var_of, makes_block, makes_module}
use Rattle.lexical.proofs.Theory.Means.{source-merge, source_vars}
use Rattle.lexical.proofs.Theory.Modules.{module_numbers}
use Rattle.lexical.proofs.Theory.Owners.{Owned, all_owned}
use Rattle.lexical.proofs.Theory.Same.{bind-named}
use Rattle.lexical.proofs.Theory.Spots.{Spot, block_below, collected}
use Rattle.lexical.proofs.Theory.Tabled.{tabled_tidy}

-- the binding of a name has its variable
bind_var : (n s : ℕ) (vs : List Var) (st : St) → map_o (λ (b : Binding). b.var) (first (called n) (bind s vs st).0) ≡ var_of n vs
unfolding bind first called new map_o var_of
bind_var n s [] st = refl
bind_var n s (v ∷ vs) st = map_o_cond _ (eqb v.name n) _ _ ∙ ap (cond (eqb v.name n) (some v)) (bind_var n s vs (add s (new s v st) st))

pub module_var : (n : ℕ) (taken : List ℕ) (es : List Entry) (vs : List Var) → map_o (λ (b : Binding). b.var) (first (called n) (module_bindings taken es vs)) ≡ var_of n vs
unfolding module_bindings module_binding first called map_o var_of
module_var n taken es [] = refl
module_var n taken es (v ∷ vs) = map_o_cond _ (eqb v.name n) _ _ ∙ ap (cond (eqb v.name n) (some v)) (module_var n (entry_slot es taken ∷ taken) (drop 1 es) vs)

-- a block's are locals of its scope
abbrev Local : ℕ → Binding → Type 0
Local s b = (b.local ≡ true) × (b.owner ≡ s)

bind_local : (s : ℕ) (vs : List Var) (st : St) → All (Local s) (bind s vs st).0
unfolding bind
bind_local s [] st = all_none _
bind_local s (v ∷ vs) st = all_cons (Local s) (new s v st) (bind s vs (add s (new s v st) st)).0 (unfold new in (refl, refl)) (bind_local s vs (add s (new s v st) st))

-- a target's name is among the variables
var_there : (n : ℕ) (vs : List Var) (d : ℕ) → source n vs ≡ some d → (v : Var) × (var_of n vs ≡ some v)
unfolding source var_of
var_there n vs d e = let r = map_o_some (λ (v : Var). v.source) (first (λ (v : Var). eqb v.name n) vs) d e in (r.0, r.1)

declared-at : (ts : List Target) (j : ℕ) (t : Target) → get_elem? ts j ≡ some t → (d : ℕ) × (declares t.name ts ≡ some d)
declared-at ts j t e = go (opened (declares t.name ts))
  where
    go : Opened (declares t.name ts) → (d : ℕ) × (declares t.name ts ≡ some d)
    go (present d q) = (d, q)
    go (absent q) = absurd (declares_has ts j t e q)

-- in distinct names a binding is the first of its own
pub first_own : (bs : List Binding) → Distinct (called_as bs) → (j : ℕ) (b : Binding) → get_elem? bs j ≡ some b → first (called b.var.name) bs ≡ some b
unfolding first called
first_own [] d j b e = absurd (none-some refl e)
first_own (x ∷ bs) d zero b e = let z : x ≡ b = cc in rw (ap (λ (y : Binding). eqb y.var.name b.var.name) z, eqb_self b.var.name) e
first_own (x ∷ bs) d (suc j) b e = rw (eqb-not x.var.name b.var.name (λ q. d.0 (rw q (named_in bs j b e)))) (first_own bs d.1 j b e)
  where
    named_in : (bs : List Binding) (j : ℕ) (b : Binding) → get_elem? bs j ≡ some b → In b.var.name (called_as bs)
    named_in [] j b e = absurd (none-some refl e)
    named_in (x ∷ bs) zero b e = let z : x ≡ b = cc in inl (sym (ap (λ (y : Binding). y.var.name) z))
    named_in (x ∷ bs) (suc j) b e = inr (named_in bs j b e)

module _ (F : File) where
  -- a row: a target that stands in the tree, and the binding that its block makes of its name
  pub record RowTold (x : Named) : Type 0 where
    pub target : Target
    pub block_of_lem : Block
    pub binding : Binding
    pub row_is : x ≡ record { node = target.node; of = some binding }
    pub spot : Spot F.names F.root plain 0 [] true [] block_of_lem target
    pub bound_so : BoundIn F target.name block_of_lem binding

  -- every local is the binding of the Name that declares it
  abbrev Declared : St → Type 0
  Declared st = (i : ℕ) (b : Binding) → get_elem? st.made i ≡ some b → b.local ≡ true → (j : ℕ) × (get_elem? st.named j ≡ some (record { node = b.var.source; of = some b }))

  pub record TitledSo (st : St) : Type 0 where
    pub rows : All RowTold st.named
    pub locals : Declared st

  -- one row of a block
  block_row : (s : ℕ) (ts : List Target) (st : St) → Owned F.names F.root s ts → (j : ℕ) (t : Target) → get_elem? ts j ≡ some t → RowTold (name_of (bind s (merge [] ts) st).0 t)
  unfolding name_of BoundIn
  block_row s ts st g j t e =
      let d = declared-at ts j t e in
      let v = var_there t.name (merge [] ts) d.0 (source_vars t.name ts ∙ d.1) in
      let b = map_o_some (λ (b : Binding). b.var) (first (called t.name) (bind s (merge [] ts) st).0) v.0 (bind_var t.name s (merge [] ts) st ∙ v.1) in
      let p = first-at (called t.name) (bind s (merge [] ts) st).0 b.0 b.1 in
      let l = bind_local s (merge [] ts) st p.0 b.0 p.1 in record {
        target = t;
        block_of_lem = of_scope s ts;
        binding = b.0;
        row_is = ap (λ o. record { node = t.node; of = o }) b.1;
        spot = g j t e;
        bound_so = (l.0, l.1, makes_block t.name ts b.0.var (v.1 ∙ ap some (sym b.2)));
      }

  -- a block's own locals: each has the row of the target that declares it
  row_of : (s : ℕ) (ts : List Target) (st : St) (i : ℕ) (b : Binding) → get_elem? (bind s (merge [] ts) st).0 i ≡ some b → (j : ℕ) × (get_elem? (map (name_of (bind s (merge [] ts) st).0) ts) j ≡ some (record { node = b.var.source; of = some b }))
  unfolding source_of declares map_o block
  row_of s ts st i b e =
      let f : first (called b.var.name) (bind s (merge [] ts) st).0 ≡ some b = first_own (bind s (merge [] ts) st).0 (block_distinct s ts st) i b e in
      let v : var_of b.var.name (merge [] ts) ≡ some b.var = sym (bind_var b.var.name s (merge [] ts) st) ∙ ap (map_o (λ (b : Binding). b.var)) f in
      let m = makes_block b.var.name ts b.var v in
      let t = map_o_some (λ (t : Target). t.node) (first (λ (t : Target). eqb t.name b.var.name) ts) b.var.source m.source_is in
      let p = first-at (λ (t : Target). eqb t.name b.var.name) ts t.0 t.1 in
      (p.0, map_at (name_of (bind s (merge [] ts) st).0) ts p.0 t.0 p.1 ∙ ap some (same t.0 t.2 (eqb-true _ _ p.2) f))
    where
      same : (t : Target) → t.node ≡ b.var.source → t.name ≡ b.var.name → first (called b.var.name) (bind s (merge [] ts) st).0 ≡ some b → name_of (bind s (merge [] ts) st).0 t ≡ record { node = b.var.source; of = some b }
      same t q n f = unfold name_of in (rw (q, n, f) refl)

  block_titled : (s : ℕ) (ts : List Target) (st : St) → Owned F.names F.root s ts → TitledSo st → TitledSo (block s ts st).1
  unfolding block naming
  block_titled s ts st g h = record {
    rows = all_append RowTold (bind s (merge [] ts) st).1.named (map (name_of (bind s (merge [] ts) st).0) ts) (subst (All RowTold) (sym (bind-named s (merge [] ts) st)) h.rows) (all_map RowTold (name_of (bind s (merge [] ts) st).0) ts (block_row s ts st g));
    locals = λ i b e l. go i b l (at_either st.made (bind s (merge [] ts) st).0 i b (subst (λ m. get_elem? m i ≡ some b) (bind_made s (merge [] ts) st) e));
  }
    where
      go : (i : ℕ) (b : Binding) → b.local ≡ true → (get_elem? st.made i ≡ some b) ⊎ ((k : ℕ) × (get_elem? (bind s (merge [] ts) st).0 k ≡ some b))
          → (j : ℕ) × (get_elem? ((bind s (merge [] ts) st).1.named ++ map (name_of (bind s (merge [] ts) st).0) ts) j ≡ some (record { node = b.var.source; of = some b }))
      go i b l (inl e) = let r = h.locals i b e l in (r.0, at_append (bind s (merge [] ts) st).1.named _ r.0 _ (subst (λ m. get_elem? m r.0 ≡ some (record { node = b.var.source; of = some b })) (sym (bind-named s (merge [] ts) st)) r.1))
      go i b l (inr e) = let r = row_of s ts st e.0 b e.1 in (length (bind s (merge [] ts) st).1.named + r.0, at_behind (bind s (merge [] ts) st).1.named _ r.0 ∙ r.1)

  kept : KeptBy (Owned F.names F.root) TitledSo
  unfolding copy_in logged
  kept = record {
    blocks = block_titled;
    copies = λ s b r h. record { rows = h.rows; locals = h.locals };
    logs = λ at n ss f st h. record { rows = h.rows; locals = h.locals };
  }

  -- the module's rows
  module_row : (j : ℕ) (t : Target) → get_elem? (module_targets F) j ≡ some t → Spot F.names F.root plain 0 [] true [] of_module t → RowTold (name_of (module_bindings [] F.entries (module_vars F)) t)
  unfolding name_of BoundIn module_vars
  module_row j t e p =
      let d = declared-at (module_targets F) j t e in
      let v = there t.name d.0 d.1 in
      let b = map_o_some (λ (b : Binding). b.var) (first (called t.name) (module_bindings [] F.entries (module_vars F))) v.0 (module_var t.name [] F.entries (module_vars F) ∙ v.1) in
      let q = first-at (called t.name) (module_bindings [] F.entries (module_vars F)) b.0 b.1 in
      let l = module_numbers [] F.entries (module_vars F) q.0 b.0 q.1 in record {
        target = t;
        block_of_lem = of_module;
        binding = b.0;
        row_is = ap (λ o. record { node = t.node; of = o }) b.1;
        spot = p;
        bound_so = (l.1, makes_module t.name F.entries (module_targets F) b.0.var (v.1 ∙ ap some (sym b.2)));
      }
    where
      there : (n d : ℕ) → declares n (module_targets F) ≡ some d → (v : Var) × (var_of n (module_vars F) ≡ some v)
      there n d e = go (opened (source n (map entry_var F.entries))) (source-merge n (map entry_var F.entries) (module_targets F))
        where
          go : Opened (source n (map entry_var F.entries)) → source n (module_vars F) ≡ or_else (source n (map entry_var F.entries)) (declares n (module_targets F)) → (v : Var) × (var_of n (module_vars F) ≡ some v)
          go (present x q) z = var_there n (module_vars F) x (z ∙ (rw q (unfold or_else in refl)))
          go (absent q) z = var_there n (module_vars F) d (z ∙ (rw (q, e) (unfold or_else in refl)))

  start_titled : Tabled F.root → Distinct (nodes_in F.root) → TitledSo (start F)
  unfolding start
  start_titled h d = record {
    rows = all_map RowTold (name_of (module_bindings [] F.entries (module_vars F))) (module_targets F) (λ j t e. module_row j t e (spots j t e));
    locals = λ i b e l. absurd (let m = module_numbers [] F.entries (module_vars F) i b e in let z : true ≡ false = sym l ∙ m.1 in let y : ◌≡◌ {A = ℕ} 0 1 = cc in omega arith);
  }
    where
      nowhere : (is_fn plain && true) ≡ true → ⊥
      nowhere z = let x : (is_fn plain && true) ≡ false = (unfold is_fn in refl) in let y : ◌≡◌ {A = ℕ} 0 1 = cc in omega arith

      spots : All (Spot F.names F.root plain 0 [] true [] of_module) (module_targets F)
      spots = let z : block_below plain 0 [] [] ≡ of_module = (unfold block_below block_around is_fn is_compr in refl) in subst (λ x. All (Spot F.names F.root plain 0 [] true [] x) (module_targets F)) z
          (collected F.names F.root unmarked plain 0 [] true [] (tabled_tidy F.root h) d (λ z. absurd (nowhere z)))

  pub titled_so : Tabled F.root → Distinct (nodes_in F.root) → TitledSo (resolved F)
  titled_so h d = blockwise (Owned F.names F.root) TitledSo kept F (all_owned F.names F.root h d) (start_titled h d)
