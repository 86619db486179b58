-- Every number of every row of an accepted file's records fits its field.
--     bindings_narrow, entries_narrow, scopes_narrow, slots_narrow, copies_narrow, errors_narrow   list by list
use Prim.Native.Nat.{ℕ, suc, ◌+◌, ◌≤◌}
use Rattle.std.specs.Prelude.{◌≡◌, cond, not, ◌&&◌, length}
use Rattle.std.proofs.Math.Path.{refl}
use Rattle.std.proofs.Common.{sym, subst}
use mathlib.Core.List.{List, [], ◌∷◌}
use Rattle.std.proofs.Math.Option.{some}
use native.Mathlib.Omega.{arith}
use Rattle.std.proofs.Math.Dec.{eqb}
use Rattle.std.proofs.Math.ListN.{get_elem?}
use Rattle.bits.specs.Pack.{Narrow}
use Rattle.lexical.specs.Lists.{first, either, Opened, absent, present, opened}
use Rattle.lexical.specs.Places.{All, all_none, all_cons, all_append, all_map, at_append, first-at}
use Rattle.lexical.specs.Tree.{Forest, nil, node, is_fn, way, empty, when, listed, params, params_in}
use Rattle.lexical.specs.Module.{File}
use Rattle.lexical.specs.State.{Binding, Event, Slot}
use Rattle.lexical.specs.First.{start}
use Rattle.lexical.specs.Third.{resolved}
use Rattle.lexical.specs.Records as rec
use Rattle.lexical.proofs.Laws.Numbers.{made_start, fresh_all}
use Rattle.nodefile.specs.Reads.{count_of}
use Rattle.nodefile.specs.FileOf.{file_of}
use Rattle.nodefile.proofs.Laws.FileLaws.{tree_count}
use Rattle.answer.specs.Fields.{fields}
use Rattle.answer.specs.Records.{binding_widths, entry_widths, pair_widths, copy_widths}
use Rattle.scope.specs.Ready.{Ready}
use Rattle.scope.specs.Laws.Lists.{row_from}
use Rattle.store.proofs.Laws.Made.{bit_below}
use Rattle.scope.specs.Laws.Bounds.{made_bounds, slot_bounds, copy_bounds}
use Rattle.promise.proofs.Laws.Events.{node_small, error_one, error_fits}

abbrev pub Fit : List ℕ → List ℕ → Type 0
Fit ws row = Narrow (fields ws row)

-- ---- a function has no more parameters than there are nodes

params-count : (f : Forest) → params f ≤ count_of f
unfolding params
params-count nil = omega arith
params-count (node at k v kids rest) = either (eqb k 17 && not (empty kids)) (λ b. cond b 1 0 + params rest ≤ count_of (node at k v kids rest)) (omega (arith, params-count rest)) (omega (arith, params-count rest))

params_few : (f : Forest) (n : ℕ) → count_of f ≤ n → All (λ (p : ℕ × ℕ). p.1 ≤ n) (params_in f)
unfolding params_in listed
params_few nil n h = all_none _
params_few (node at k v kids rest) n h = all_append _ (when (is_fn (way k)) (v, params kids)) _ here (all_append _ (params_in kids) (params_in rest) (params_few kids n (omega arith)) (params_few rest n (omega arith)))
  where
    here : All (λ (p : ℕ × ℕ). p.1 ≤ n) (when (is_fn (way k)) (v, params kids))
    here = unfold when in either (is_fn (way k)) (λ b. All (λ (p : ℕ × ℕ). p.1 ≤ n) (when b (v, params kids))) (all_cons _ _ [] (omega (arith, params-count kids)) (all_none _)) (all_none _)

module _ (ps : List (ℕ × ℕ)) (few-params : All (λ (p : ℕ × ℕ). p.1 ≤ 2048) ps) (rs : List Slot) (few_slots : length rs ≤ 4096) where
  params_small : (s : ℕ) → rec.params_of (first (λ (p : ℕ × ℕ). eqb p.0 s) ps) ≤ 2048
  unfolding rec.params_of
  params_small s = go (opened (first (λ (p : ℕ × ℕ). eqb p.0 s) ps))
    where
      go : Opened (first (λ (p : ℕ × ℕ). eqb p.0 s) ps) → rec.params_of (first (λ (p : ℕ × ℕ). eqb p.0 s) ps) ≤ 2048
      go (absent e) = rw e (omega arith)
      go (present p e) = let (j, at, t) = first-at (λ (p : ℕ × ℕ). eqb p.0 s) ps p e in rw e (few-params j p at)

  rows_narrow : (s : ℕ) (xs : List (ℕ × ℕ)) → All (Fit pair_widths) (rec.scope_rows s xs ps rs)
  unfolding rec.scope_rows
  rows_narrow s [] = all_none _
  rows_narrow s (x ∷ xs) = all_cons (Fit pair_widths) _ (rec.scope_rows (suc s) xs ps rs) (omega (arith, params_small s), (omega (arith, fresh_all s rs), tt)) (rows_narrow (suc s) xs)

-- ---- the lists

module _ {bs : List ℕ} {root : Forest} (q : Ready bs root) (few : length (resolved (file_of bs root)).slots ≤ 4096) where
  abbrev F : File
  F = file_of bs root

  binding_narrow : (k : ℕ) (x : Binding) → get_elem? (resolved F).made k ≡ some x → Fit binding_widths (rec.binding_row (resolved F).log x)
  unfolding rec.binding_row
  binding_narrow k x e = let m = made_bounds q few k x e in
      (omega (arith, m.name), (m.source, (bit_below x.var.entry, (bit_below x.var.public, (bit_below x.var.any, (bit_below (rec.captured x.id (resolved F).log), (bit_below x.local, (m.slot, (omega arith, tt)))))))))

  pub bindings_narrow : All (Fit binding_widths) (rec.records F).bindings
  unfolding rec.records
  bindings_narrow = all_map _ (rec.binding_row (resolved F).log) (resolved F).made binding_narrow

  entry_narrow : (k : ℕ) (x : Binding) → get_elem? (start F).made k ≡ some x → Fit entry_widths (rec.entry_row x)
  unfolding rec.entry_row
  entry_narrow k x e =
      let m = made_bounds q few k x (subst (λ (l : List Binding). get_elem? l k ≡ some x) (sym (made_start F).1) (at_append (start F).made (made_start F).0 k x e)) in
      (omega (arith, m.name), (bit_below x.var.public, (m.slot, tt)))

  pub entries_narrow : All (Fit entry_widths) (rec.records F).entries
  unfolding rec.records
  entries_narrow = all_map _ rec.entry_row (start F).made entry_narrow

  pub scopes_narrow : All (Fit pair_widths) (rec.records F).scopes
  unfolding rec.records
  scopes_narrow = rows_narrow (params_in root) (params_few root 2048 (omega (arith, tree_count bs root q.exact q.reads, q.nodes))) (resolved F).slots few 0 ((0, 0) ∷ params_in root)

  pub slots_narrow : All (Fit pair_widths) (rec.records F).slots
  unfolding rec.records
  slots_narrow = all_map _ rec.slot_row (resolved F).slots (λ k r e. let b = slot_bounds q few k r e in (omega (arith, b.0), (omega (arith, b.1), tt)))

  pub copies_narrow : All (Fit copy_widths) (rec.records F).copies
  unfolding rec.records
  copies_narrow = all_map _ rec.copy_row (resolved F).copies (λ k c e. let b = copy_bounds q few k c e in (b.0, (b.1, (b.2, tt))))

  pub errors_narrow : All (Fit pair_widths) (rec.records F).errors
  unfolding rec.records rec.errors
  errors_narrow k row e =
      let (j, v, at, o) = row_from rec.errors (λ (v : Event). rec.error_row v.node v.found) refl (λ v vs. refl) (λ v. error_one v.node v.found) (resolved F).log k row e in
      let (code, is, small) = error_fits v.node v.found row o in
      rw is (omega (arith, node_small q few j v at, q.nodes), (omega arith, tt))
