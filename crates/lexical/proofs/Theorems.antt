-- The three theorems about every file F whose scope numbers are distinct and not 0 (`Scoped F`, which condition 10 gives: `scoped`). Statements first: each proof cites the file that has it.
-- T1: each Ident's answer or error is what its meaning says. T2: copies lead from the answer to the variable. T3: no scheme copies less.
use Rattle.std.proofs.Common.{subst, sym}
use Rattle.std.specs.Prelude.{◌≡◌, ◌↔◌, List, [], ◌++◌, map, true, false, ℕ, ◌≤◌, length}
use Rattle.std.proofs.Math.Option.{some}
use Rattle.std.proofs.Math.ListN.{get_elem?}
use Rattle.lexical.specs.Places.{up_from_distinct, Some, Distinct, In, All}
use Rattle.lexical.specs.Sums.{times}
use Rattle.lexical.specs.Tree.{Forest, plain, idents_in, nodes_in, names_in, scopes_in}
use Rattle.lexical.specs.Table.{param_names, kinds, allowed, Tabled}
use Rattle.lexical.specs.Binders.{Names}
use Rattle.lexical.specs.Module.{missing, global, module', outer_of, File}
use Rattle.lexical.specs.Meaning.{Around, Site}
use Rattle.lexical.specs.Order.{blocks, fn_blocks, all_names}
use Rattle.lexical.specs.State.{Event, Binding}
use Rattle.lexical.specs.Third.{resolved}
use Rattle.lexical.specs.Follow.{copied}
use Rattle.lexical.specs.Records.{captured, errors}
use Rattle.lexical.specs.Claims.{Preorder, Once, NameRow, Filled, Titled, ParamsFirst, Inside, Across, steps_of, Answers, sites_of, ancestors, NotGlobal, Homeward, OfLocal, ModuleBinding, told, told_errors, module_names, NotModule, view, name_view, Scoped}
use Rattle.lexical.specs.Schemes.{copies_into, Scheme, Serves, ours}
use Rattle.lexical.proofs.Laws.Below.{none-outermost}
use Rattle.lexical.proofs.Laws.Rows.{named-every}
use Rattle.lexical.proofs.Laws.Scopes.{filled_scoped, once_scoped}
use Rattle.lexical.proofs.Theory.Captured.{across_captured, inside_captured}
use Rattle.lexical.proofs.Theory.Last.{homeward, told_all, last}
use Rattle.lexical.proofs.Theory.Least.{ours-count, least, ours_serves}
use Rattle.lexical.proofs.Theory.Nodes.{at_node, errors-told, idents_all}
use Rattle.lexical.proofs.Theory.Outcome.{outcome, event_of}
use Rattle.lexical.proofs.Theory.Outer.{missing_name, global_name_lem, module_binding_lem}
use Rattle.lexical.proofs.Theory.Parameters.{lambda_params, def_params}
use Rattle.lexical.proofs.Theory.Tabled.{tabled_tidy}

module _ (F : File) (ok : Scoped F) where
  -- T1. What is looked up, in order: at each Ident its node, its name, the functions around it and its meaning; all Idents in the order of resolving, and nothing else.
  pub T1 : map view (resolved F).log ≡ map (told (outer_of F)) (sites_of F)
  T1 = (told_all F ok).looks

  -- Ident by Ident: the j-th one's row among the answers, its row among the errors, are what its meaning says.
  pub T1_outcome : (j : ℕ) (s : Site) → get_elem? (sites_of F) j ≡ some s → (e : Event) × (get_elem? (resolved F).log j ≡ some e) × Answers F s e
  T1_outcome j s q = let r = event_of F ok j s q in (r.0, r.1, record { told_so = sym r.2; so = outcome F ok s r.0 ((last F ok).led j r.0 r.1) (sym r.2) })

  -- Lookups are at the Idents of the tree, each as often as it stands there.
  pub T1_all : (i : ℕ) → times i (map (λ (e : Event). e.node) (resolved F).log) ≡ times i (idents_in F.root)
  T1_all = idents_all F ok

  -- The errors are those of the meanings, in the order of resolving.
  pub T1_errors : errors (resolved F).log ≡ told_errors (map (told (outer_of F)) (sites_of F))
  T1_errors = errors-told F ok

  -- By node number, where no two nodes have one: the nodes around the Ident decide what was found there.
  pub T1_at : Distinct (nodes_in F.root) → (j : ℕ) (e : Event) → get_elem? (resolved F).log j ≡ some e
      → (up : List Around) × (ancestors F.names e.node F.root plain 0 [] true [] ≡ some up) × (view e ≡ told (outer_of F) (record { node = e.node; name = e.name; above = up }))
  T1_at d = at_node F ok d

  -- What the outer meanings stand for: the binding that has the number, of that name, declared by an entry or else by the first Name; a global's place; neither.
  pub T1_module : (n i : ℕ) → outer_of F n ≡ module' i → ModuleBinding F n i
  T1_module = module_binding_lem F ok

  pub T1_global : (n g : ℕ) → outer_of F n ≡ global g → (get_elem? F.globals g ≡ some n) × NotModule F n
  T1_global = global_name_lem F

  pub T1_missing : (n : ℕ) → outer_of F n ≡ missing → NotModule F n × NotGlobal F n
  T1_missing = missing_name F

  -- Each Name has the binding of the first Name of its block that declares the same: the module's Names, the functions' in node order, the comprehensions' in order of resolving.
  pub T1_names : map name_view (resolved F).named ≡ (module_names F ++ all_names (fn_blocks F.names F.root)) ++ all_names (blocks (steps_of F))
  T1_names = (told_all F ok).titles

  -- That binding is among those made; and in a tree of document 01's table every Name has such a row.
  pub named_known : Titled (resolved F) (resolved F).named
  named_known = (last F ok).titled

  pub named-each : Tabled F.root → (x : ℕ) → In x (names_in F.root) → NameRow F x
  named-each t = named-every F ok (tabled_tidy F.root t)

  -- Captured: a local, exactly when some Ident means it from another scope than its own; a module name, when some Ident means it inside a function.
  pub captured_local : (i : ℕ) (b : Binding) → get_elem? (resolved F).made i ≡ some b → Distinct (nodes_in F.root) → b.local ≡ true
      → (captured i (resolved F).log ≡ true) ↔ Some (Across b.owner b.var.source) (sites_of F)
  captured_local = across_captured F ok

  pub captured_module : (i : ℕ) (b : Binding) → get_elem? (resolved F).made i ≡ some b → b.local ≡ false
      → (captured i (resolved F).log ≡ true) ↔ Some (Inside (outer_of F) i) (sites_of F)
  captured_module = inside_captured F ok

  -- T2. From the slot of every local that is looked up, refused in a type or not, the copies lead to its binding's own slot in its owner scope.
  pub T2 : All (λ (e : Event). OfLocal (Homeward (resolved F) e) e.found) (resolved F).log
  T2 = homeward F ok

  -- Nothing is copied into the module's own scope.
  pub T2_module : (i : ℕ) → In i (copied 0 (resolved F).copies) → ⊥
  T2_module = none-outermost F ok

  -- T3. Any scheme of copies that has every local at hand where it is looked up has in each scope at least as many copies.
  pub T3 : (S : Scheme) → All (λ (e : Event). Serves S e.scopes e.found) (resolved F).log → (t : ℕ) → copies_into t (resolved F).copies ≤ length (S.copies t)
  T3 = least F ok

  -- Ours is such a scheme, and has just these.
  pub T3_ours : All (λ (e : Event). Serves (ours (resolved F)) e.scopes e.found) (resolved F).log
  T3_ours = ours_serves F ok

  pub T3_count : (t : ℕ) → length ((ours (resolved F)).copies t) ≡ copies_into t (resolved F).copies
  T3_count t = ours-count F t

-- Parameters: where a Def's or Lambda's children are as the table says and no two of its Params have one name (condition 11), its block's first variables are the Params', as many as its scope's record says.
pub parameters_def : (N : Names) (kids : Forest) → allowed 6 (kinds kids) ≡ true → Tabled kids → Distinct (param_names kids) → ParamsFirst N 6 kids
parameters_def = def_params

pub parameters_lambda : (N : Names) (kids : Forest) → allowed 12 (kinds kids) ≡ true → Tabled kids → Distinct (param_names kids) → ParamsFirst N 12 kids
parameters_lambda = lambda_params

-- Condition 10 gives what is asked: no two scope numbers alike and each from 1 to their count; or, each number from 1 to their count there.
pub scoped : (F : File) → Once (scopes_in F.root) → Scoped F
scoped = once_scoped

pub scoped_filled : (F : File) → Filled (scopes_in F.root) → Scoped F
scoped_filled = filled_scoped

-- and nodes numbered in node order are distinct, which T1-at and captured-local ask.
pub preorder_distinct : (f : Forest) → Preorder f → Distinct (nodes_in f)
preorder_distinct f e = subst Distinct (sym e) (up_from_distinct 0 (length (nodes_in f)))
