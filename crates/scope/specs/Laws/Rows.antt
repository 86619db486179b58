-- A node's answer: no node has two rows among the Names' and the Idents' together, so that its place in the buffer holds the one it has.
--     answer_at, answer_none                the place of a node that has a row, of one that has none
--     error_none, answer_other              those that have none: a node with an error, a node that is neither a Name nor an Ident
use Rattle.std.specs.Prelude.{ℕ, ◌+◌, ◌≤◌, ◌≡◌, refl}
use Rattle.std.proofs.Math.Path.{ap}
use mathlib.Core.List.{List, [], ◌∷◌, ◌++◌, map, map-append}
use Rattle.std.proofs.Math.Option.{Option, none, some}
use native.Mathlib.Omega.{arith}
use Rattle.std.proofs.Math.Decide.{dec_lt}
use Rattle.std.proofs.Math.ListN.{get_elem?}
use Rattle.lexical.specs.Lists.{eqb-true}
use Rattle.lexical.specs.Places.{In, Distinct, first_no}
use Rattle.lexical.specs.Sums.{total, one, times, total_append, total-map}
use Rattle.lexical.specs.Tree.{nodes_in, names_in, idents_in}
use Rattle.lexical.specs.Table.{Headed}
use Rattle.lexical.specs.Module.{File, module', global, missing}
use Rattle.lexical.specs.State.{Binding, Named, Event, Found, local, refused, outside}
use Rattle.lexical.specs.Third.{resolved}
use Rattle.lexical.specs.Claims.{Scoped}
use Rattle.lexical.specs.Records as rec
use Rattle.lexical.proofs.Theorems.{T1_all}
use Rattle.lexical.proofs.Laws.Capacity.{named_size}
use Rattle.lexical.proofs.Laws.Rows.{node_once}
use Rattle.store.specs.Words.{row_node}
use Rattle.scope.specs.Laws.Lists.{times-at, in_times, first_once}
use Rattle.scope.specs.Nodes.{of_node, answer_of, node_answer}

name_node : (x : Named) → row_node (rec.title_row x) ≡ x.node
unfolding rec.name_row
name_node x = go x.node x.of
  where
    go : (at : ℕ) (o : Option Binding) → row_node (rec.name_row at o) ≡ at
    go at none = refl
    go at (some b) = refl

names_times : (i : ℕ) (xs : List Named) → times i (map row_node (map rec.title_row xs)) ≡ times i (map (λ (x : Named). x.node) xs)
unfolding total
names_times i [] = refl
names_times i (x ∷ xs) = rw (name_node x, names_times i xs)

-- each lookup gives a row or an error
event_times : (i : ℕ) (bs : List Binding) (at : ℕ) (f : Found) → times i (map row_node (rec.answer_row bs at f)) + times i (map row_node (rec.error_row at f)) ≡ one i at
unfolding total rec.answer_row rec.outer_row rec.error_row rec.outer_error
event_times i bs at (local b k) = omega arith
event_times i bs at (refused b k) = omega arith
event_times i bs at (outside (module' m)) = omega arith
event_times i bs at (outside (global g)) = omega arith
event_times i bs at (outside missing) = omega arith

events_times : (i : ℕ) (bs : List Binding) (es : List Event) → times i (map row_node (rec.answers bs es)) + times i (map row_node (rec.errors es)) ≡ times i (map (λ (e : Event). e.node) es)
unfolding total rec.answers rec.errors
events_times i bs [] = refl
events_times i bs (e ∷ es) = rw (map-append row_node (rec.answer_row bs e.node e.found) (rec.answers bs es), map-append row_node (rec.error_row e.node e.found) (rec.errors es))
    (omega (arith, total_append (one i) (map row_node (rec.answer_row bs e.node e.found)) (map row_node (rec.answers bs es)), total_append (one i) (map row_node (rec.error_row e.node e.found)) (map row_node (rec.errors es)), event_times i bs e.node e.found, events_times i bs es))

abbrev pub rows_of : File → List (List ℕ)
rows_of F = (rec.records F).names ++ (rec.records F).answers

pub answer_none : (F : File) (i : ℕ) → ((j : ℕ) (row : List ℕ) → get_elem? (rows_of F) j ≡ some row → row_node row ≡ i → ⊥) → node_answer F i ≡ 0
unfolding node_answer of_node answer_of
answer_none F i h = rw (first_no (of_node i) (rows_of F) (λ j row e t. h j row e (eqb-true (row_node row) i t))) refl

module _ (F : File) (ok : Scoped F) (h : Headed F.root) (d : Distinct (nodes_in F.root)) where
  rows-errors : (i : ℕ) → times i (map row_node (rows_of F)) + times i (map row_node (rec.records F).errors) ≤ 1
  unfolding rec.records
  rows-errors i =
      let names = map rec.title_row (resolved F).named in
      let answers = rec.answers (resolved F).made (resolved F).log in
      rw (map-append row_node names answers)
      (omega (arith, total_append (one i) (map row_node names) (map row_node answers), names_times i (resolved F).named, events_times i (resolved F).made (resolved F).log, node_once F ok h d i))

  pub answer_at : (j : ℕ) (row : List ℕ) → get_elem? (rows_of F) j ≡ some row → node_answer F (row_node row) ≡ answer_of (some row)
  unfolding node_answer of_node
  answer_at j row e = ap answer_of (first_once row_node (row_node row) (rows_of F) (omega (arith, rows-errors (row_node row))) j row e refl)

  -- a node with an error has no answer
  pub error_none : (j : ℕ) (row : List ℕ) → get_elem? (rec.records F).errors j ≡ some row → node_answer F (row_node row) ≡ 0
  error_none j row e = answer_none F (row_node row) (λ k r a n. omega (arith, rows-errors (row_node row), times-at row_node (row_node row) (rec.records F).errors j row e refl, times-at row_node (row_node row) (rows_of F) k r a n))

  -- and so has a node that is neither a Name nor an Ident
  pub answer_other : (i : ℕ) → (In i (names_in F.root) → ⊥) → (In i (idents_in F.root) → ⊥) → node_answer F i ≡ 0
  unfolding rec.records
  answer_other i n l = answer_none F i (λ j row e q.
      let names = map rec.title_row (resolved F).named in
      let answers = rec.answers (resolved F).made (resolved F).log in
      let some-row : 1 ≤ times i (map row_node (names ++ answers)) = times-at row_node i (names ++ answers) j row e q in
      let no_name : times i (names_in F.root) ≡ 0 = none_in i (names_in F.root) n in
      let no-ident : times i (idents_in F.root) ≡ 0 = none_in i (idents_in F.root) l in
      omega (
        arith,
        ap (times i) (map-append row_node names answers),
        total_append (one i) (map row_node names) (map row_node answers),
        names_times i (resolved F).named,
        total-map (one i) (λ (x : Named). x.node) (resolved F).named,
        named_size (one i) F h,
        events_times i (resolved F).made (resolved F).log,
        T1_all F ok i,
      ))
    where
      none_in : (i : ℕ) (xs : List ℕ) → (In i xs → ⊥) → times i xs ≡ 0
      none_in i xs m = elim (dec_lt 0 (times i xs)) [ yes h ↦ absurd (m (in_times i xs (omega arith))) | no h ↦ omega arith ]
