-- How long the records can get, by the Names, Idents and nodes of the tree. For code with fixed buffers.
use Rattle.std.proofs.Common.{◌∙◌, ap, length-append}
use Rattle.std.specs.Prelude.{◌≡◌, refl, Bool, true, false, cond, ℕ, ◌+◌, ◌≤◌, eqb, length}
use mathlib.Core.List.{List, [], ◌∷◌, map}
use native.Mathlib.Omega.{arith}
use Rattle.std.proofs.lemmas.List.{length-map}
use Rattle.lexical.specs.Lists.{Tested, was, wasnt, tested, eqb-true}
use Rattle.lexical.specs.Sums.{total_zeros, total_append, total, total_ones}
use Rattle.lexical.specs.Tree.{is_look, is_name, when, listed, Forest, nil, node, way, pick, name, nodes_in, idents_in, names_in}
use Rattle.lexical.specs.Table.{Headed}
use Rattle.lexical.specs.Binders.{Target, Var, new_var, again, note, merge, collect, unmarked}
use Rattle.lexical.specs.Module.{module', global, missing, File, entry_var, module_vars}
use Rattle.lexical.specs.Order.{compr_blocks, fn_blocks}
use Rattle.lexical.specs.State.{Binding, Found, local, refused, outside, Event, Named, St}
use Rattle.lexical.specs.Block.{new, add, bind, name_of, naming, block, slot_for, fresh}
use Rattle.lexical.specs.First.{module_bindings, start}
use Rattle.lexical.specs.Third.{copy_in, logged, resolved}
use Rattle.lexical.specs.Records.{entry_row, outer_row, answer_row, outer_error, error_row, answers, errors, records}
use Rattle.lexical.proofs.Theory.Count.{weigh, weigh_all, counted, counted_nodes}
use Rattle.lexical.proofs.Theory.Every.{Kept, every}
use Rattle.lexical.proofs.Theory.Kinds.{look_kind, name_kind}
use Rattle.lexical.proofs.Theory.Listed.{listed-apart}
use Rattle.lexical.proofs.Theory.Modules.{module_length}
use Rattle.lexical.proofs.Theory.Same.{bind_log, bind-named}
use Rattle.lexical.proofs.Theory.Sized.{Sized, size}

-- a block's variables weigh no more than its Names
abbrev pub sources : (ℕ → ℕ) → List Var → ℕ
sources g vs = total (λ (v : Var). g v.source) vs

note_size : (g : ℕ → ℕ) (t : Target) (vs : List Var) → sources g (note t vs) ≤ sources g vs + g t.node
unfolding note new_var again total
note_size g t [] = omega arith
note_size g t (v ∷ vs) = go (eqb v.name t.name) (note_size g t vs)
  where
    go : (b : Bool) → sources g (note t vs) ≤ sources g vs + g t.node → sources g (cond b (again t v ∷ vs) (v ∷ note t vs)) ≤ g v.source + sources g vs + g t.node
    go true h = omega arith
    go false h = omega arith

pub merge_size : (g : ℕ → ℕ) (vs : List Var) (ts : List Target) → sources g (merge vs ts) ≤ sources g vs + weigh g ts
unfolding merge total
merge_size g vs [] = omega arith
merge_size g vs (t ∷ ts) = omega (arith, merge_size g (note t vs) ts, note_size g t vs)

-- bindings, weighed so that a fresh one weighs what its source does
module _ (g : ℕ → ℕ) (u : Binding → ℕ) (fresh-weight : (s : ℕ) (v : Var) (st : St) → u (new s v st) ≡ g v.source) where
  bind_made : (s : ℕ) (vs : List Var) (st : St) → total u (bind s vs st).1.made ≡ total u st.made + sources g vs
  unfolding bind add total
  bind_made s [] st = omega arith
  bind_made s (v ∷ vs) st = omega (arith, bind_made s vs (add s (new s v st) st), total_append u st.made (new s v st ∷ []), fresh-weight s v st)

  pub made_sized : Sized g (λ x. 0) (λ st. total u st.made)
  unfolding block naming copy_in logged
  made_sized = record {
    blocks = λ s ts st. let e = bind_made s (merge [] ts) st in let m = merge_size g [] ts in unfold total in omega arith;
    copies = λ s b r. omega arith;
    logs = λ at n ss f st. omega arith;
  }

  pub made_size : (F : File) → total u (resolved F).made ≤ total u (start F).made + (weigh_all g (fn_blocks F.names F.root) + weigh_all g (compr_blocks F.names F.root))
  made_size F = omega (arith, size g (λ x. 0) _ made_sized F, total_zeros (idents_in F.root))

-- the module's bindings
pub module_size : (F : File) → length (module_vars F) ≤ length F.entries + weigh (λ x. 1) (collect F.names unmarked F.root)
unfolding module_vars
module_size F = omega (
  arith,
  merge_size (λ x. 1) (map entry_var F.entries) (collect F.names unmarked F.root),
  total_ones (merge (map entry_var F.entries) (collect F.names unmarked F.root)),
  total_ones (map entry_var F.entries),
  length-map F.entries entry_var,
)

-- every Name more makes one binding at most
made_taken : (F : File) → length (resolved F).made
    ≤ length F.entries + (weigh (λ x. 1) (collect F.names unmarked F.root) + (weigh_all (λ x. 1) (fn_blocks F.names F.root) + weigh_all (λ x. 1) (compr_blocks F.names F.root)))
unfolding start
made_taken F = omega (
  arith,
  made_size (λ x. 1) (λ b. 1) (λ s v st. refl) F,
  total_ones (resolved F).made,
  total_ones (start F).made,
  module_length [] F.entries (module_vars F),
  module_size F,
)

pub module_capacity : (F : File) → Headed F.root → length (module_vars F) ≤ length F.entries + length (names_in F.root)
module_capacity F h = omega (arith, module_size F, counted (λ x. 1) F.names F.root unmarked h, total_ones (names_in F.root))

-- the module entries afterwards are the module's variables
pub entries_length : (F : File) → length (records F).entries ≡ length (module_vars F)
unfolding records start
entries_length F = length-map (module_bindings [] F.entries (module_vars F)) entry_row ∙ module_length [] F.entries (module_vars F)

pub made_capacity : (F : File) → Headed F.root → length (resolved F).made ≤ length F.entries + length (names_in F.root)
made_capacity F h = omega (arith, made_taken F, counted (λ x. 1) F.names F.root unmarked h, total_ones (names_in F.root))

-- without that shape it fails: a Def whose first child is an Ident makes a binding, and there is no Name
unfoldable pub unnamed : File
unnamed = record { names = record { hidden = λ n. false; reexport = false }; entries = []; globals = []; root = node 0 6 1 (node 1 11 0 nil (node 2 0 0 nil nil)) nil }

pub shape_needed : (length (resolved unnamed).made ≡ 1) × (length unnamed.entries + length (names_in unnamed.root) ≡ 0)
unfolding records unnamed names_in listed when is_name pick
shape_needed = (refl, refl)

-- by the nodes, of any tree
pub module_nodes : (F : File) → length (module_vars F) ≤ length F.entries + length (nodes_in F.root)
module_nodes F = omega (arith, module_size F, counted_nodes (λ x. 1) F.names F.root unmarked, total_ones (nodes_in F.root))

pub made_nodes : (F : File) → length (resolved F).made ≤ length F.entries + length (nodes_in F.root)
made_nodes F = omega (arith, made_taken F, counted_nodes (λ x. 1) F.names F.root unmarked, total_ones (nodes_in F.root))

-- the Names with their bindings
titles_size : (g : ℕ → ℕ) (bs : List Binding) (ts : List Target) → total (λ (x : Named). g x.node) (map (name_of bs) ts) ≡ weigh g ts
unfolding name_of total
titles_size g bs [] = refl
titles_size g bs (t ∷ ts) = ap (λ n. g t.node + n) (titles_size g bs ts)

pub named_sized : (g : ℕ → ℕ) → Sized g (λ x. 0) (λ st. total (λ (x : Named). g x.node) st.named)
unfolding block naming copy_in logged
named_sized g = record {
  blocks = λ s ts st. rw (bind-named s (merge [] ts) st) (omega (
    arith,
    total_append (λ (x : Named). g x.node) st.named (map (name_of (bind s (merge [] ts) st).0) ts),
    titles_size g (bind s (merge [] ts) st).0 ts,
  ));
  copies = λ s b r. omega arith;
  logs = λ at n ss f st. omega arith;
}

named_taken : (g : ℕ → ℕ) (F : File) → total (λ (x : Named). g x.node) (resolved F).named
    ≤ weigh g (collect F.names unmarked F.root) + (weigh_all g (fn_blocks F.names F.root) + weigh_all g (compr_blocks F.names F.root))
unfolding start
named_taken g F = omega (
  arith,
  size g (λ x. 0) _ (named_sized g) F,
  total_zeros (idents_in F.root),
  titles_size g (module_bindings [] F.entries (module_vars F)) (collect F.names unmarked F.root),
)

-- a node stands among the Names with bindings no more often than among the Names, than among the nodes
pub named_size : (g : ℕ → ℕ) (F : File) → Headed F.root → total (λ (x : Named). g x.node) (resolved F).named ≤ total g (names_in F.root)
named_size g F h = omega (arith, named_taken g F, counted g F.names F.root unmarked h)

pub named_capacity : (F : File) → Headed F.root → length (resolved F).named ≤ length (names_in F.root)
named_capacity F h = omega (arith, named_size (λ x. 1) F h, total_ones (resolved F).named, total_ones (names_in F.root))

pub named_nodes_size : (g : ℕ → ℕ) (F : File) → total (λ (x : Named). g x.node) (resolved F).named ≤ total g (nodes_in F.root)
named_nodes_size g F = omega (arith, named_taken g F, counted_nodes g F.names F.root unmarked)

pub named_nodes : (F : File) → length (resolved F).named ≤ length (nodes_in F.root)
named_nodes F = omega (arith, named_nodes_size (λ x. 1) F, total_ones (resolved F).named, total_ones (nodes_in F.root))

-- lookups, answers and errors
pub log_sized : Sized (λ x. 0) (λ x. 1) (λ st. length st.log)
unfolding block naming copy_in logged
log_sized = record {
  blocks = λ s ts st. omega (arith, ap length (bind_log s (merge [] ts) st));
  copies = λ s b r. omega arith;
  logs = λ at n ss f st. omega (arith, length-append st.log (record { node = at; name = n; scopes = ss; found = f } ∷ []));
}

no_weight : (tss : List (List Target)) → weigh_all (λ x. 0) tss ≡ 0
unfolding total
no_weight [] = refl
no_weight (ts ∷ tss) = omega (arith, total_zeros ts, no_weight tss)

pub log_capacity : (F : File) → length (resolved F).log ≤ length (idents_in F.root)
unfolding start
log_capacity F = omega (
  arith,
  size (λ x. 0) (λ x. 1) _ log_sized F,
  no_weight (fn_blocks F.names F.root),
  no_weight (compr_blocks F.names F.root),
  total_ones (idents_in F.root),
)

one_each : (bs : List Binding) (at : ℕ) (f : Found) → length (answer_row bs at f) + length (error_row at f) ≡ 1
unfolding answer_row error_row outer_row outer_error
one_each bs at (local b k) = refl
one_each bs at (refused b k) = refl
one_each bs at (outside (module' i)) = refl
one_each bs at (outside (global g)) = refl
one_each bs at (outside missing) = refl

-- each lookup is answered or an error, and not both
pub answers-errors : (bs : List Binding) (es : List Event) → length (answers bs es) + length (errors es) ≡ length es
unfolding answers errors
answers-errors bs [] = refl
answers-errors bs (e ∷ es) = omega (
  arith,
  answers-errors bs es,
  one_each bs e.node e.found,
  length-append (answer_row bs e.node e.found) (answers bs es),
  length-append (error_row e.node e.found) (errors es),
)

pub errors_capacity : (F : File) → length (errors (resolved F).log) ≤ length (idents_in F.root)
errors_capacity F = omega (arith, log_capacity F, answers-errors [] (resolved F).log)

-- slots: one for each local binding, one for each copy
pub counts : (n : ℕ) → Kept (λ st. length st.slots + n ≡ length st.made + length st.copies)
unfolding add naming copy_in logged
counts n = record {
  adds = λ s v st h. omega (arith, h, length-append st.made (new s v st ∷ []), length-append st.slots (slot_for s (new s v st).slot (new s v st) ∷ []));
  names = λ ts bs st h. h;
  copies = λ s b r h. omega (
    arith,
    h,
    length-append r.1.slots (slot_for s (fresh s r.1) b ∷ []),
    length-append r.1.copies (record { scope = s; parent = r.0; child = fresh s r.1; id = b.id } ∷ []),
  );
  logs = λ at n ss f st h. h;
}

pub slots_count : (F : File) → length (resolved F).slots + length (module_vars F) ≡ length (resolved F).made + length (resolved F).copies
slots_count F = every _ (counts (length (module_vars F))) F (unfold start in omega (arith, module_length [] F.entries (module_vars F)))

pub grows : (n : ℕ) → Kept (λ st. n ≤ length st.made)
unfolding add naming copy_in logged
grows n = record {
  adds = λ s v st h. omega (arith, h, length-append st.made (new s v st ∷ []));
  names = λ ts bs st h. h;
  copies = λ s b r h. h;
  logs = λ at n ss f st h. h;
}

pub copies_capacity : (F : File) → length (resolved F).copies ≤ length (resolved F).slots
copies_capacity F = omega (arith, slots_count F, every _ (grows (length (module_vars F))) F (unfold start in omega (arith, module_length [] F.entries (module_vars F))))

-- a Name is no Ident
pub names_idents : (g : ℕ → ℕ) (f : Forest) → total g (names_in f) + total g (idents_in f) ≤ total g (nodes_in f)
unfolding names_in idents_in
names_idents g f = listed-apart (λ k. is_name (pick k)) (λ k. is_look (way k)) (λ at k v kids. at) (λ at k v kids. at) g g g (λ at k v kids. apart at k) f
  where
    apart : (at k : ℕ) → total g (when (is_name (pick k)) at) + total g (when (is_look (way k)) at) ≤ g at
    apart at k = rw (name_kind k, look_kind k) (go (tested (eqb k 8)) (tested (eqb k 11)))
      where
        go : Tested (eqb k 8) → Tested (eqb k 11) → total g (when (eqb k 8) at) + total g (when (eqb k 11) at) ≤ g at
        go (was a) (was b) = absurd (omega (arith, eqb-true k 8 a, eqb-true k 11 b))
        go (was a) (wasnt b) = rw (a, b) (unfold when total in omega arith)
        go (wasnt a) (was b) = rw (a, b) (unfold when total in omega arith)
        go (wasnt a) (wasnt b) = rw (a, b) (unfold when total in omega arith)

pub names_idents_nodes : (f : Forest) → length (names_in f) + length (idents_in f) ≤ length (nodes_in f)
names_idents_nodes f = omega (arith, names_idents (λ x. 1) f, total_ones (names_in f), total_ones (idents_in f), total_ones (nodes_in f))

pub idents_nodes : (f : Forest) → length (idents_in f) ≤ length (nodes_in f)
idents_nodes f = omega (arith, names_idents_nodes f)

pub errors_nodes : (F : File) → length (errors (resolved F).log) ≤ length (nodes_in F.root)
errors_nodes F = omega (arith, errors_capacity F, idents_nodes F.root)
