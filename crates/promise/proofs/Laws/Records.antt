-- The buffers of an accepted file, read record by record.
--     back                             every record of every list
--     node_at, node_read               a node's
--     binding_read, bound_so           a binding's
--     copies_follow, copies_into_lem   the copies, followed and counted
use Rattle.std.specs.Prelude.{ℕ, ◌<◌, ◌≤◌, ◌≡◌, length, take}
use Rattle.std.proofs.Math.Path.{ap}
use Rattle.std.proofs.Common.{◌∙◌, arith}
use mathlib.Core.List.{List, [], ◌∷◌, map, reverse}
use Rattle.std.proofs.Math.Option.{some}
use Rattle.std.proofs.Math.ListN.{get_or, get_elem?, length-map}
use Rattle.bits.specs.Pack.{unpack}
use Rattle.base.specs.UpTo.{up_to, up_to_get}
use Rattle.lexical.specs.Places.{All, at-below, map_at}
use Rattle.lexical.specs.Tree.{Forest}
use Rattle.lexical.specs.Module.{File}
use Rattle.lexical.specs.State.{Binding}
use Rattle.lexical.specs.Third.{resolved}
use Rattle.lexical.specs.Follow.{follow}
use Rattle.lexical.specs.Schemes.{copies_into}
use Rattle.lexical.specs.Records as rec
use Rattle.nodefile.specs.Layout.{node_count}
use Rattle.nodefile.specs.FileOf.{file_of}
use Rattle.store.specs.Words.{row_node}
use Rattle.follow.specs.Place.{copies_of, followed, place_of}
use Rattle.answer.specs.declared.Answer.{Answer}
use Rattle.answer.specs.Buffers.{Buffers, Front}
use Rattle.answer.specs.Fields.{packed}
use Rattle.answer.specs.Records.{binding_widths, entry_widths, pair_widths, copy_widths, node_widths}
use Rattle.answer.specs.Laws.{unpack-packed}
use Rattle.scope.specs.Nodes.{answer_of, node_answer}
use Rattle.scope.specs.Answer.{Given}
use Rattle.scope.specs.Ready.{Ready}
use Rattle.promise.specs.Shown.{node_fields, copy_records, BindingShown, ReadsBack, lists, AllBack}
use Rattle.scope.specs.Laws.Front.{front_get}
use Rattle.scope.specs.Laws.Readies.{ready_scoped, ready_headed, ready_distinct}
use Rattle.scope.specs.Laws.Rows.{rows_of, answer_at}
use Rattle.scope.specs.Laws.Bounds.{copy_bounds}
use Rattle.promise.proofs.Laws.Events.{RowFits}
use Rattle.promise.proofs.Laws.Reading.{front_read}
use Rattle.promise.proofs.Laws.Narrow.{Fit, bindings_narrow, entries_narrow, scopes_narrow, slots_narrow, copies_narrow, errors_narrow}
use Rattle.promise.proofs.Laws.Copies.{follow_read, into_read}

-- a list of rows that fit, packed to the front of a buffer
list_back : (ws : List ℕ) (rows : List (List ℕ)) (l : List ℕ) (n : ℕ) → Front l n (map (packed ws) rows) → All (Fit ws) rows → ReadsBack ws rows l
list_back ws rows l n f h k row e = front_read ws rows l n f k row e (h k row e)

module _ {bs : List ℕ} {root : Forest} (q : Ready bs root) (few : length (resolved (file_of bs root)).slots ≤ 4096) {b b' : Buffers} {a : Answer} (g : Given (file_of bs root) (node_count bs) b a b') where
  abbrev F : File
  F = file_of bs root

  -- ---- the lists

  pub bindings_back : ReadsBack binding_widths (rec.records F).bindings b'.bindings
  bindings_back = list_back binding_widths (rec.records F).bindings b'.bindings (length b.bindings) g.bindings_hold (bindings_narrow q few)

  pub errors-back : ReadsBack pair_widths (rec.records F).errors b'.errors
  errors-back = list_back pair_widths (rec.records F).errors b'.errors (length b.errors) g.errors_hold (errors_narrow q few)

  pub back : AllBack (lists (rec.records F) b')
  back = (
    bindings_back,
    (
      list_back entry_widths (rec.records F).entries b'.entries (length b.entries) g.entries_hold (entries_narrow q few),
      (
        list_back pair_widths (rec.records F).scopes b'.scopes (length b.scopes) g.scopes_hold (scopes_narrow q few),
        (
          list_back pair_widths (rec.records F).slots b'.slots (length b.slots) g.slots_hold (slots_narrow q few),
          (
            list_back copy_widths (rec.records F).copies b'.copies (length b.copies) g.copies_hold (copies_narrow q few),
            (errors-back, tt),
          ),
        ),
      ),
    ),
  )

  -- ---- a node

  pub node_at : (x : ℕ) → x < node_count bs → get_or b'.nodes x 0 ≡ node_answer F x
  node_at x h = front_get b'.nodes (length b.nodes) (up_to (node_answer F) (node_count bs)) g.nodes_hold x ∙ up_to_get (node_answer F) (node_count bs) x 0 h

  pub node_read : (k : ℕ) (row : List ℕ) → get_elem? (rows_of F) k ≡ some row → row_node row < node_count bs → RowFits row → node_fields b' (row_node row) ≡ get_or row 1 0 ∷ get_or row 2 0 ∷ get_or row 3 0 ∷ []
  unfolding answer_of
  node_read k row e h f = ap (unpack node_widths) (node_at (row_node row) h ∙ answer_at F (ready_scoped q) (ready_headed q) (ready_distinct q) k row e)
      ∙ unpack-packed node_widths (get_or row 1 0 ∷ get_or row 2 0 ∷ get_or row 3 0 ∷ []) (f.0, (f.1, (f.2, tt)))

  -- ---- a binding

  pub binding_read : (k : ℕ) (x : Binding) → get_elem? (resolved F).made k ≡ some x → BindingShown a b' k x.var.name x.var.source (rec.bit x.local) x.slot
  unfolding rec.records rec.binding_row
  binding_read k x e =
      let fields = bindings_back k (rec.binding_row (resolved F).log x) (map_at (rec.binding_row (resolved F).log) (resolved F).made k x e) in
      record {
        known = omega (arith, g.bindings, length-map (resolved F).made (rec.binding_row (resolved F).log), at-below (resolved F).made k x e);
        name_is = ap (λ (l : List ℕ). get_or l 0 0) fields;
        source_is = ap (λ (l : List ℕ). get_or l 1 0) fields;
        local_is = ap (λ (l : List ℕ). get_or l 6 0) fields;
        slot_is = ap (λ (l : List ℕ). get_or l 7 0) fields;
      }

  pub bound_so : (k : ℕ) (y : Binding) {n d l : ℕ} → get_elem? (resolved F).made k ≡ some y → y.var.name ≡ n → y.var.source ≡ d → rec.bit y.local ≡ l → BindingShown a b' k n d l y.slot
  bound_so k y e p s t = rw (← p, ← s, ← t) (binding_read k y e)

  -- ---- the copies

  copies_count : a.copies ≡ length (resolved F).copies
  unfolding rec.records
  copies_count = g.copies ∙ length-map (resolved F).copies rec.copy_row

  pub copies_follow : (ss : List ℕ) (k : ℕ) → followed (copy_records a b') (reverse ss) k ≡ place_of (follow (resolved F).copies ss k)
  unfolding rec.records
  copies_follow ss k = ap (λ (n : ℕ). followed (take n b'.copies) (reverse ss) k) copies_count ∙ follow_read (resolved F).copies (copy_bounds q few) b'.copies (length b.copies) g.copies_hold ss k

  pub copies_into_lem : (t : ℕ) → copies_into t (copies_of (copy_records a b')) ≡ copies_into t (resolved F).copies
  unfolding rec.records
  copies_into_lem t = ap (λ (n : ℕ). copies_into t (copies_of (take n b'.copies))) copies_count ∙ into_read (resolved F).copies (copy_bounds q few) b'.copies (length b.copies) g.copies_hold t
