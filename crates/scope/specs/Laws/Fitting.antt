-- What holds of every Name node and of every module entry, by name and source, holds of every binding, of the slots' names, and of every Name with its binding's name.
--     Fits, resolved_fit   those of a file's last state
use Rattle.std.specs.Prelude.{ℕ, suc, ◌≡◌, refl, Bool, cond}
use Rattle.std.proofs.Common.{subst}
use Rattle.std.proofs.Math.Bool.{true, false}
use mathlib.Core.List.{List, [], ◌∷◌, map}
use Rattle.std.proofs.Math.Option.{Option, none, some}
use Rattle.std.proofs.Math.Dec.{eqb}
use Rattle.std.proofs.Math.ListN.{get_elem?}
use Rattle.lexical.specs.Lists.{first, either, eqb-true, Opened, absent, present, opened}
use Rattle.lexical.specs.Places.{All, all_none, all_cons, all_append, all_snoc, all_map, map_at, first-at}
use Rattle.lexical.specs.Tree.{Forest, nil, node, Way, plain, is_fn, is_look, way, empty, Turn, turn, in_order, inside, opening, behind, top}
use Rattle.lexical.specs.Table.{Headed}
use Rattle.lexical.specs.Binders.{Names, Target, Var, collect, unmarked, targets, merge}
use Rattle.lexical.specs.Module.{Entry, File, Outer, entry_var, module_vars, outer_of}
use Rattle.lexical.specs.State.{Binding, Slot, Named, St, Row, Ctx}
use Rattle.lexical.specs.Block.{slot_for, new, add, bind, name_of, naming, block, called}
use Rattle.lexical.specs.First.{module_bindings, start}
use Rattle.lexical.specs.Second.{declare_fn, declare_here, declare, rows, row_names, second}
use Rattle.lexical.specs.Third.{hand, copy_in, bring_to, bring, logged, look_found, inner, enter, typed, below, look_up, order, walk, outermost, resolved}
use Rattle.lexical.proofs.Theory.Modules.{module_vars_lem}
use Rattle.scope.specs.Laws.Targets.{Each, FitTarget, FitVar, collect_fit, targets_fit, merge_fit}

module _ (P : ℕ → ℕ → Type 0) where
  abbrev FitBinding : Binding → Type 0
  FitBinding b = FitVar P b.var

  abbrev FitNamed : Named → Type 0
  FitNamed x = (b : Binding) → x.of ≡ some b → P b.var.name x.node

  pub record Fits (st : St) : Type 0 where
    pub made : All FitBinding st.made
    pub slots : All (λ (r : Slot). (x : ℕ) × P r.name x) st.slots
    pub named : All FitNamed st.named

  -- ---- a block

  bind_fit : (s : ℕ) (vs : List Var) (st : St) → All (FitVar P) vs → Fits st → Fits (bind s vs st).1 × All FitBinding (bind s vs st).0
  unfolding bind add slot_for new
  bind_fit s [] st f h = (h, all_none FitBinding)
  bind_fit s (v ∷ vs) st f h =
      let r = bind_fit s vs (add s (new s v st) st) (λ j x e. f (suc j) x e)
      (record {
        made = all_snoc FitBinding st.made (new s v st) h.made (f 0 v refl);
        slots = all_snoc _ st.slots (slot_for s (new s v st).slot (new s v st)) h.slots (v.source, f 0 v refl);
        named = h.named;
      }) in
      (r.0, all_cons FitBinding (new s v st) (bind s vs (add s (new s v st) st)).0 (f 0 v refl) r.1)

  -- a Name's binding has its name
  named_fit : (bs : List Binding) (t : Target) → FitTarget P t → FitNamed (name_of bs t)
  unfolding name_of called
  named_fit bs t f b e = let (j, p, q) = first-at (called t.name) bs b e in rw (eqb-true b.var.name t.name q) f

  block_fit : (s : ℕ) (ts : List Target) (st : St) → All (FitTarget P) ts → Fits st → Fits (block s ts st).1 × All FitBinding (block s ts st).0
  unfolding block naming
  block_fit s ts st f h =
      let r = bind_fit s (merge [] ts) st (merge_fit P [] ts (all_none (FitVar P)) f) h in
      let bs = (bind s (merge [] ts) st).0 in
      (record { made = r.0.made; slots = r.0.slots; named = all_append FitNamed (bind s (merge [] ts) st).1.named (map (name_of bs) ts) r.0.named (all_map FitNamed (name_of bs) ts (λ j t e. named_fit bs t (f j t e))) }, r.1)

  -- ---- a lookup

  brought_fit : (o : Option ℕ) (s : ℕ) (b : Binding) (st : St) (r : ℕ × St) → FitBinding b → Fits st → Fits r.1 → Fits (bring_to o s b st r).1
  unfolding bring_to copy_in slot_for
  brought_fit none s b st r f h g = record { made = g.made; slots = all_snoc _ r.1.slots _ g.slots (b.var.source, f); named = g.named }
  brought_fit (some k) s b st r f h g = h

  bring_fit : (ss : List ℕ) (b : Binding) (st : St) → FitBinding b → Fits st → Fits (bring ss b st).1
  unfolding bring
  bring_fit [] b st f h = h
  bring_fit (s ∷ ss) b st f h = brought_fit (hand s b.id st) s b st (bring ss b st) f h (bring_fit ss b st f h)

  found_fit : (o : Option Binding) (u : Outer) (at n : ℕ) (c : Ctx) (st : St) → ((b : Binding) → o ≡ some b → FitBinding b) → Fits st → Fits (look_found o u at n c st)
  unfolding look_found logged
  found_fit none u at n c st f h = record { made = h.made; slots = h.slots; named = h.named }
  found_fit (some b) u at n c st f h = let r = bring_fit c.scopes b st (f b refl) h in record { made = r.made; slots = r.slots; named = r.named }

  -- ---- the walks

  abbrev FitRow : Row → Type 0
  FitRow r = All FitBinding r.names

  here_fit : (w : Way) (s : ℕ) (ts : List Target) (x : List Row × St) → All (FitTarget P) ts → All FitRow x.0 → Fits x.1 → All FitRow (declare_here w s ts x).0 × Fits (declare_here w s ts x).1
  unfolding declare_here declare_fn
  here_fit w s ts x f t h = either (is_fn w) (λ b. All FitRow (cond b (declare_fn s ts x) x).0 × Fits (cond b (declare_fn s ts x) x).1)
      (let r = block_fit s ts x.1 f h in (all_snoc FitRow x.0 _ t r.1, r.0)) (t, h)

  module _ (N : Names) where
    declare_fit : (f : Forest) (x : List Row × St) → Headed f → Each P f → All FitRow x.0 → Fits x.1 → All FitRow (declare N f x).0 × Fits (declare N f x).1
    unfolding declare Headed Each
    declare_fit nil x d v t h = (t, h)
    declare_fit (node at k n kids rest) x d v t h =
        let a = here_fit (way k) n (targets N k kids) x (targets_fit P N k kids d.1 v.1) t h in
        let b = declare_fit kids (declare_here (way k) n (targets N k kids) x) d.1 v.1 a.0 a.1 in
        declare_fit rest (declare N kids (declare_here (way k) n (targets N k kids) x)) d.2 v.2 b.0 b.1

    module _ (D : ℕ → List Binding) (out : ℕ → Outer) (known : (s : ℕ) → All FitBinding (D s)) where
      look_fit : (w : Way) (at n : ℕ) (c : Ctx) (st : St) → All FitBinding c.env → Fits st → Fits (look_up N D out w at n c st)
      unfolding look_up
      look_fit w at n c st e h = either (is_look w) (λ b. Fits (cond b (look_found (first (called n) c.env) (out n) at n c st) st))
          (found_fit (first (called n) c.env) (out n) at n c st (λ b q. let (j, p, t) = first-at (called n) c.env b q in e j b p) h) h

      abbrev Runs : (Ctx → St → St) → Type 0
      Runs f = (c : Ctx) (st : St) → All FitBinding c.env → Fits st → Fits (f c st)

      order_fit : (t : Turn) (s : ℕ) (ts : List Target) (here next : Ctx → St → St) → All (FitTarget P) ts → Runs here → Runs next → Runs (order N D out t s ts here next)
      unfolding order enter inner
      order_fit in_order s ts here next f a b = λ c st e h. b c _ e (a c st e h)
      order_fit inside s ts here next f a b = λ c st e h. b c _ e (a (enter s (D s) c) st (all_append FitBinding (D s) c.env (known s) e) h)
      order_fit opening s ts here next f a b = λ c st e h.
          let r = block_fit (top c.scopes) ts (here c st) f (a c st e h) in
          b (inner (block (top c.scopes) ts (here c st)).0 c) (block (top c.scopes) ts (here c st)).1 (all_append FitBinding (block (top c.scopes) ts (here c st)).0 c.env r.1 e) r.0
      order_fit behind s ts here next f a b = λ c st e h. a c _ e (b c st e h)

      walk_fit : (f : Forest) → Headed f → Each P f → (w : Way) (s : ℕ) (ts : List Target) → All (FitTarget P) ts → (b : Bool) → Runs (walk N D out f w s ts b)
      unfolding walk Headed Each below typed
      walk_fit nil d v w s ts g b = λ c st e h. h
      walk_fit (node at k n kids rest) d v w s ts g b = order_fit (turn w b (empty rest)) s ts _ _ g
          (λ c st e h. walk_fit kids d.1 v.1 (way k) n (targets N k kids) (targets_fit P N k kids d.1 v.1) true (below (way k) c) _ e (look_fit (way k) at n c st e h))
          (λ c st e h. walk_fit rest d.2 v.2 w s ts g false c st e h)

  -- ---- a file

  rows_fit : (tbl : List Row) → All FitRow tbl → (s : ℕ) → All FitBinding (rows tbl s)
  unfolding rows row_names
  rows_fit tbl h s = go (opened (first (λ (r : Row). eqb r.scope s) tbl))
    where
      go : Opened (first (λ (r : Row). eqb r.scope s) tbl) → All FitBinding (row_names (first (λ (r : Row). eqb r.scope s) tbl))
      go (absent q) = rw q (all_none FitBinding)
      go (present r q) = rw q (let (j, p, t) = first-at (λ (r : Row). eqb r.scope s) tbl r q in h j r p)

  module _ (F : File) (d : Headed F.root) (v : Each P F.root) (e : All (λ (x : Entry). P x.name 65535) F.entries) where
    start_fit : Fits (start F)
    unfolding start module_vars entry_var
    start_fit = record {
      made = λ j b q. vars j b.var (subst (λ (l : List Var). get_elem? l j ≡ some b.var) (module_vars_lem [] F.entries (module_vars F)) (map_at (λ (x : Binding). x.var) (module_bindings [] F.entries (module_vars F)) j b q));
      slots = all_none _;
      named = all_map FitNamed (name_of (module_bindings [] F.entries (module_vars F))) (collect F.names unmarked F.root) (λ j t q. named_fit (module_bindings [] F.entries (module_vars F)) t (collected j t q));
    }
      where
        collected : All (FitTarget P) (collect F.names unmarked F.root)
        collected = collect_fit P F.names unmarked F.root d v

        vars : All (FitVar P) (module_vars F)
        vars = merge_fit P (map entry_var F.entries) (collect F.names unmarked F.root) (all_map (FitVar P) entry_var F.entries (λ j x q. e j x q)) collected

    pub resolved_fit : Fits (resolved F)
    unfolding resolved second outermost
    resolved_fit =
        let s = declare_fit F.names F.root ([], start F) d v (all_none FitRow) start_fit in
        walk_fit F.names (rows (second F).0) (outer_of F) (rows_fit (second F).0 s.0) F.root d v plain 0 [] (all_none (FitTarget P)) true outermost (second F).1 (all_none FitBinding) s.1
