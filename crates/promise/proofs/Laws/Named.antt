-- Names on bytes: each Name's record is its binding's slot and number. Nodes that are neither Name nor Ident have none.
--     name_shown, other_empty
use Rattle.std.specs.Prelude.{ℕ, ◌+◌, ◌<◌, ◌≤◌, ◌≡◌, Bool, cond, length, get_or}
use Rattle.std.proofs.Math.Path.{refl, ap, subst}
use Rattle.std.proofs.Common.{sym, ◌∙◌}
use Rattle.std.proofs.Math.Bool.{true, false, true≢false}
use mathlib.Core.List.{List, [], ◌∷◌, map}
use Rattle.std.proofs.Math.Option.{some}
use native.Mathlib.Omega.{arith}
use Rattle.std.proofs.Math.ListN.{get_elem?}
use Rattle.lexical.specs.Places.{In, at_append, map_at}
use Rattle.lexical.specs.Tree.{Forest, is_name, pick, is_look, way, names_in, idents_in}
use Rattle.lexical.specs.Module.{File}
use Rattle.lexical.specs.Third.{resolved}
use Rattle.lexical.specs.Records as rec
use Rattle.lexical.specs.Claims.{NameRow}
use Rattle.lexical.proofs.Theorems as lexical
use Rattle.lexical.proofs.Theory.Kinds.{no_look, no_name}
use Rattle.nodefile.specs.Layout.{node_count, nodes_of}
use Rattle.nodefile.proofs.Laws.Order.{spot_at}
use Rattle.nodefile.specs.FileOf.{file_of}
use Rattle.nodefile.specs.Listed.{kind_at, value_at}
use Rattle.nodefile.proofs.Laws.Listed.{listed_in, in_listed}
use Rattle.answer.specs.declared.Answer.{Answer}
use Rattle.answer.specs.Buffers.{Buffers}
use Rattle.scope.specs.Answer.{Given}
use Rattle.scope.specs.Ready.{Ready}
use Rattle.promise.specs.Shown.{node_fields, BindingShown}
use Rattle.scope.specs.Laws.Readies.{ready_scoped, ready_headed, ready_distinct, ready_length}
use Rattle.scope.specs.Laws.Rows.{rows_of, answer_other}
use Rattle.scope.specs.Laws.Targets.{each_spots}
use Rattle.scope.specs.Laws.Fitting.{Fits, resolved_fit}
use Rattle.promise.proofs.Laws.Events.{name_bounds}
use Rattle.promise.proofs.Laws.Records.{node_at, node_read, bound_so}

-- a Name's record: the slot and the number of a binding of its name
pub record NameShown (a : Answer) (b : Buffers) (x n : ℕ) : Type 0 where
  pub declared-by : ℕ
  pub local : ℕ
  pub slot : ℕ
  pub binding : ℕ
  pub answered : node_fields b x ≡ (local + 1) ∷ slot ∷ binding ∷ []
  pub shown : BindingShown a b binding n declared-by local slot

module _ {bs : List ℕ} {root : Forest} (q : Ready bs root) (few : length (resolved (file_of bs root)).slots ≤ 4096) {b b' : Buffers} {a : Answer} (g : Given (file_of bs root) (node_count bs) b a b') where
  abbrev F : File
  F = file_of bs root

  -- ---- a Name

  -- a name and the node that has it
  abbrev Has : ℕ → ℕ → Type 0
  Has n x = x < 2048 → n ≡ value_at (nodes_of bs) x

  names_fit : Fits Has (resolved F)
  names_fit = resolved_fit Has F (ready_headed q)
      (each_spots Has root (λ i s e k l. let p = spot_at root (nodes_of bs) 0 i s q.reads e in let z : i ≡ s.number = omega (arith, p.number) in p.value ∙ ap (value_at (nodes_of bs)) z))
      (λ k e p l. absurd (omega arith))

  class : (l : Bool) → cond l 2 1 ≡ rec.bit l + 1
  unfolding rec.bit
  class true = refl
  class false = refl

  module _ (x : ℕ) (h : x < node_count bs) (r : NameRow F x) where
    bound : get_elem? (resolved F).made r.binding.id ≡ some r.binding
    bound = lexical.named_known F (ready_scoped q) r.place r.row r.stands r.binding r.bound

    title : rec.title_row r.row ≡ x ∷ (rec.bit r.binding.local + 1) ∷ r.binding.slot ∷ r.binding.id ∷ []
    unfolding rec.name_row
    title = rw (r.bound, r.of_node, class r.binding.local) refl

    answered : node_fields b' x ≡ (rec.bit r.binding.local + 1) ∷ r.binding.slot ∷ r.binding.id ∷ []
    unfolding rec.records
    answered =
        let row = x ∷ (rec.bit r.binding.local + 1) ∷ r.binding.slot ∷ r.binding.id ∷ [] in
        let e : get_elem? (rows_of F) r.place ≡ some row = at_append (map rec.title_row (resolved F).named) (rec.answers (resolved F).made (resolved F).log) r.place row (map_at rec.title_row (resolved F).named r.place r.row r.stands ∙ ap some title) in
        node_read q few g r.place row e h (rw title at (name_bounds q few r.place r.row r.stands))

    row_shown : NameShown a b' x (value_at (nodes_of bs) x)
    row_shown = record {
      declared-by = r.binding.var.source;
      local = rec.bit r.binding.local;
      slot = r.binding.slot;
      binding = r.binding.id;
      answered = answered;
      shown = bound_so q few g r.binding.id r.binding bound named refl refl;
    }
      where
        named : r.binding.var.name ≡ value_at (nodes_of bs) x
        named = names_fit.named r.place r.row r.stands r.binding r.bound (omega (arith, r.of_node, q.nodes)) ∙ ap (value_at (nodes_of bs)) r.of_node

  pub name_shown : (x : ℕ) → x < node_count bs → kind_at (nodes_of bs) x ≡ 8 → NameShown a b' x (value_at (nodes_of bs) x)
  unfolding names_in is_name pick
  name_shown x h k =
      let z : 0 + x ≡ x = omega arith in
      let m : In x (names_in root) = subst (λ (i : ℕ). In i (names_in root)) z (in_listed root (nodes_of bs) 0 q.reads (λ k. is_name (pick k)) (λ a k v. a) x (omega (arith, ready_length q)) (rw k refl)) in
      row_shown x h (lexical.named-each F (ready_scoped q) q.tabled x m)

  -- ---- any other node

  pub other_empty : (x : ℕ) → x < node_count bs → (kind_at (nodes_of bs) x ≡ 8 → ⊥) → (kind_at (nodes_of bs) x ≡ 11 → ⊥) → get_or b'.nodes x 0 ≡ 0
  unfolding names_in idents_in
  other_empty x h n l = node_at q few g x h ∙ answer_other F (ready_scoped q) (ready_headed q) (ready_distinct q) x
      (λ m. let d = listed_in root (nodes_of bs) 0 q.reads (λ k. is_name (pick k)) (λ a k v. a) x m in
      let z : d.index ≡ x = omega (arith, d.is) in
      true≢false (sym (subst (λ (i : ℕ). is_name (pick (kind_at (nodes_of bs) i)) ≡ true) z d.passes) ∙ no_name (kind_at (nodes_of bs) x) n))
      (λ m. let d = listed_in root (nodes_of bs) 0 q.reads (λ k. is_look (way k)) (λ a k v. a) x m in
      let z : d.index ≡ x = omega (arith, d.is) in
      true≢false (sym (subst (λ (i : ℕ). is_look (way (kind_at (nodes_of bs) i)) ≡ true) z d.passes) ∙ no_look (kind_at (nodes_of bs) x) l))
