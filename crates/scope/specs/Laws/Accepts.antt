-- A file that judging accepts is ready: node by node what the walks need, and its lists.
use Rattle.std.specs.Prelude.{ℕ, zero, suc, ◌*◌, ◌<◌, ◌≤◌, ◌≡◌, refl, true, false, cond, List, [], ◌∷◌, length}
use Rattle.std.proofs.Common.{sym, ap, ◌∙◌, subst, inl, inr, arith, length-drop}
use Rattle.std.proofs.Math.Option.{some}
use Rattle.std.proofs.Math.ListN.{get_elem?}
use Rattle.base.specs.UpTo.{up_to_at}
use Rattle.lexical.specs.Lists.{none-some}
use Rattle.lexical.specs.Places.{In, Distinct, in_left, in_right, at_in}
use Rattle.lexical.specs.Tree.{Forest, nil, node, is_fn, way, when, listed, nodes_in, scopes_in}
use Rattle.lexical.specs.Table.{one, opt, many, row, within, head_in, drop_one, drop_many, matches, allowed, kinds}
use Rattle.lexical.proofs.Theory.Slots.{both_true}
use Rattle.lexical.proofs.Theory.Tabled.{in_range, table_name, table_ident, at_kind}
use Rattle.nodefile.specs.Layout.{name_count, entry_count, global_count, nodes_of, entries_of, globals_of}
use Rattle.nodefile.specs.Lists.{entry_name, global_name}
use Rattle.nodefile.specs.Node.{size_of}
use Rattle.nodefile.specs.FileOf.{entry_names, global_names}
use Rattle.nodefile.specs.Reads.{Reads}
use Rattle.nodefile.proofs.Laws.Reads.{reads_one}
use Rattle.nodefile.proofs.Laws.FileLaws.{tree_below}
use Rattle.nodefile.specs.Valid as valid
use Rattle.nodefile.specs.Valid.{Valid, Some, NameFirst}
use Rattle.note.specs.Noted.{ListsOk}
use Rattle.judge.specs.Cond.{Judged}
use Rattle.judge.specs.Accepted.{NodeOk, Each, Accepted}
use Rattle.judge.specs.Theorems.{accepted, accepted_tabled}
use Rattle.scope.specs.Ready.{Ready}

-- ---- what the table says of children

false-true : {P : Type 0} → false ≡ true → P
false-true e = absurd (let z : ◌≡◌ {A = ℕ} 0 1 = cc in omega arith)

body : (f : Forest) → matches (many 17 17 ∷ opt 18 18 ∷ one 0 7 ∷ []) (kinds f) ≡ true → Some f
unfolding matches kinds head_in drop_one drop_many Some
body nil e = false-true e
body (node at k v kids rest) e = tt

table_def : (f : Forest) → allowed 6 (kinds f) ≡ true → NameFirst f
unfolding allowed row matches kinds head_in drop_one NameFirst
table_def nil e = false-true e
table_def (node at k v kids rest) e = let p = both_true (within 8 8 k) (matches (many 17 17 ∷ opt 18 18 ∷ one 0 7 ∷ []) (cond (within 8 8 k) (kinds rest) (k ∷ kinds rest))) e in (omega (arith, in_range 8 8 k p.0), body rest (rw p.0 at p.1))

table_lambda : (f : Forest) → allowed 12 (kinds f) ≡ true → Some f
unfolding allowed row matches kinds head_in drop_one drop_many Some
table_lambda nil e = false-true e
table_lambda (node at k v kids rest) e = tt

table_compr : (f : Forest) → allowed 13 (kinds f) ≡ true → Some f
unfolding allowed row matches kinds head_in drop_one drop_many Some
table_compr nil e = false-true e
table_compr (node at k v kids rest) e = tt

table_clause : (f : Forest) → allowed 15 (kinds f) ≡ true → Some f
unfolding allowed row matches kinds head_in drop_one drop_many Some
table_clause nil e = false-true e
table_clause (node at k v kids rest) e = tt

-- ---- node by node

node_ready : {names at k v : ℕ} {kids : Forest} → names ≤ 1024 → at < 2048 → (is_fn (way k) ≡ true → v < 256) → NodeOk names (record { number = at; kind = k; value = v; kids = kids }) → valid.NodeOk at k v kids
unfolding is_fn way
node_ready {names} {at} {k} {v} {kids} few low scope ok = record {
  number = low;
  kind = ok.kind;
  name = λ q. (omega (arith, ok.name (rw q refl)), table_name kids (at_kind k 8 kids ok.children q));
  ident = λ q. (omega (arith, ok.name (rw q refl)), table_ident kids (at_kind k 11 kids ok.children q));
  def = λ q. (scope (rw q refl), table_def kids (at_kind k 6 kids ok.children q));
  lambda = λ q. (scope (rw q refl), table_lambda kids (at_kind k 12 kids ok.children q));
  compr = λ q. table_compr kids (at_kind k 13 kids ok.children q);
  clause = λ q. table_clause kids (at_kind k 15 kids ok.children q);
}

valid_each : (names : ℕ) → names ≤ 1024 → (f : Forest) → Each (NodeOk names) f → ((x : ℕ) → In x (nodes_in f) → x < 2048) → ((s : ℕ) → In s (scopes_in f) → s < 256) → Valid f
unfolding Valid nodes_in scopes_in listed when
valid_each names h nil e a b = tt
valid_each names h (node at k v kids rest) e a b = (
  node_ready h (a at (inl refl)) (λ q. b v (in_left v (when (is_fn (way k)) v) _ (rw q (inl refl)))) e.0,
  valid_each names h kids e.1 (λ x m. a x (inr (in_left x (nodes_in kids) (nodes_in rest) m))) (λ s m. b s (in_right s (when (is_fn (way k)) v) _ (in_left s (scopes_in kids) (scopes_in rest) m))),
  valid_each names h rest e.2 (λ x m. a x (inr (in_right x (nodes_in kids) (nodes_in rest) m))) (λ s m. b s (in_right s (when (is_fn (way k)) v) _ (in_right s (scopes_in kids) (scopes_in rest) m))),
)

-- ---- its lists

distinct_at : (xs : List ℕ) → Distinct xs → (j k x : ℕ) → j < k → get_elem? xs j ≡ some x → get_elem? xs k ≡ some x → ⊥
distinct_at [] d j k x h a b = none-some refl a
distinct_at (y ∷ xs) d j zero x h a b = omega arith
distinct_at (y ∷ xs) d zero (suc k) x h a b = let z : y ≡ x = cc in d.0 (subst (λ (n : ℕ). In n xs) (sym z) (at_in xs k x b))
distinct_at (y ∷ xs) d (suc j) (suc k) x h a b = distinct_at xs d.1 j k x (omega arith) a b

lists_ready : {bs : List ℕ} → Accepted bs → ListsOk bs
lists_ready {bs} a = record {
  names = a.header.names;
  entries = a.header.entries;
  globals = a.header.globals;
  entry_name_lem = λ k h. omega (arith, a.header.names, a.entries.known (entry_name (entries_of bs) k) (at_in (entry_names bs) k (entry_name (entries_of bs) k) (up_to_at (entry_name (entries_of bs)) (entry_count bs) k h)));
  global_name_lem = λ k h. omega (arith, a.header.names, a.globals.known (global_name (globals_of bs) k) (at_in (global_names bs) k (global_name (globals_of bs) k) (up_to_at (global_name (globals_of bs)) (global_count bs) k h)));
  apart = λ j k l h e. distinct_at (entry_names bs) a.entries.once j k (entry_name (entries_of bs) k) l (up_to_at (entry_name (entries_of bs)) (entry_count bs) j (omega arith) ∙ ap some e) (up_to_at (entry_name (entries_of bs)) (entry_count bs) k h);
}

-- ---- all of it

alone : (t : List ℕ) (a k v : ℕ) (kids : Forest) → Reads t 0 (node a k v kids nil) → 8 * size_of t ≡ length t
alone t a k v kids r = omega (arith, r.inside, ap length r.after, length-drop (8 * size_of t) t)

accepted_ready : {bs : List ℕ} (a : Accepted bs) → Ready bs a.tree
accepted_ready {bs} a = record {
  exact = a.header.total;
  some = a.header.some;
  nodes = a.header.nodes;
  lists = lists_ready a;
  reads = a.reads;
  whole = alone (nodes_of bs) 0 a.root.kind a.root.value a.root.kids (subst (Reads (nodes_of bs) 0) a.root.is a.reads);
  valid = valid_each (name_count bs) a.header.names a.tree a.nodes (λ x m. omega (arith, tree_below bs a.tree a.header.total a.reads x m, a.header.nodes)) (λ s m. omega (arith, a.scopes.once.high s m, a.few));
  tabled = accepted_tabled a;
  shallow = a.shallow;
  once = a.scopes.once;
  few = a.few;
}

-- a tree that an accepted file's nodes hold; there is one
pub judged_ready : {bs : List ℕ} → Judged bs 0 → (root : Forest) → Reads (nodes_of bs) 0 root → Ready bs root
judged_ready {bs} j root r = let a = accepted bs j in subst (Ready bs) (reads_one a.tree root (nodes_of bs) 0 a.reads r) (accepted_ready a)

pub judged_tree : {bs : List ℕ} → Judged bs 0 → (root : Forest) × Reads (nodes_of bs) 0 root
judged_tree {bs} j = let a = accepted bs j in (a.tree, a.reads)
