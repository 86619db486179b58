-- What a node's place in the working list holds is its answer: the walks answer by the module's bindings alone, which come first among all.
use Prim.Native.Nat.{ℕ, suc, ◌+◌, ◌-◌, ◌<◌}
use mathlib.Core.Path.{◌≡◌, refl, sym, ap, ap₂, ◌∙◌}
use mathlib.Core.List.{List, [], ◌∷◌, ◌++◌, map}
use mathlib.Core.Option.{Option, some}
use native.Mathlib.Omega.{arith}
use native.Mathlib.Decide.{dec_lt}
use lib.ListN.{length, get_elem?}
use Rattle.base.specs.UpTo.{at_right, at_behind}
use Rattle.lexical.specs.Places.{All, Distinct, at_append, at_left, map_at, map-from}
use Rattle.lexical.specs.Tree.{nodes_in}
use Rattle.lexical.specs.Table.{Headed}
use Rattle.lexical.specs.Module.{File, module', global, missing}
use Rattle.lexical.specs.State.{Binding, Event, Found, local, refused, outside}
use Rattle.lexical.specs.First.{start}
use Rattle.lexical.specs.Third.{resolved}
use Rattle.lexical.specs.Records as rec
use Rattle.lexical.specs.Claims.{Scoped}
use Rattle.lexical.proofs.Laws.Numbers.{made_start}
use Rattle.store.specs.Image.{RowOf, name_row_lem, ident_row, HeldAt, held, none-held}
use Rattle.scope.specs.Nodes.{node_answer}
use Rattle.scope.specs.Laws.Words.{answer_word_lem}
use Rattle.scope.specs.Laws.Early.{found_early}
use Rattle.scope.specs.Laws.Rows.{rows_of, answer_at, answer_none}

-- ---- what is found is one of walk one's

module _ (F : File) (ok : Scoped F) where
  -- so its slot may be read off walk one's bindings
  row_early : (at : ℕ) (f : Found) → ((i : ℕ) → f ≡ outside (module' i) → i < length (start F).made) → rec.answer_row (start F).made at f ≡ rec.answer_row (resolved F).made at f
  unfolding rec.answer_row rec.outer_row
  row_early at (local b k) h = refl
  row_early at (refused b k) h = refl
  row_early at (outside (module' i)) h = ap (λ (o : Option Binding). (at ∷ 1 ∷ rec.slot_of o ∷ i ∷ []) ∷ []) (sym (ap (λ (l : List Binding). get_elem? l i) (made_start F).1 ∙ at_left (start F).made (made_start F).0 i (h i refl)))
  row_early at (outside (global g)) h = refl
  row_early at (outside missing) h = refl

  answers_early : (es : List Event) → All (λ (e : Event). (i : ℕ) → e.found ≡ outside (module' i) → i < length (start F).made) es → rec.answers (start F).made es ≡ rec.answers (resolved F).made es
  unfolding rec.answers
  answers_early [] h = refl
  answers_early (e ∷ es) h = ap₂ ◌++◌ (row_early e.node e.found (h 0 e refl)) (answers_early es (λ j x q. h (suc j) x q))

  pub answers_same : rec.answers (start F).made (resolved F).log ≡ rec.answers (resolved F).made (resolved F).log
  answers_same = answers_early (resolved F).log (λ j e q i f. found_early F ok j e i q f)

-- ---- the rows that the walks kept are the records' rows

module _ (F : File) (ok : Scoped F) where
  abbrev Kept : List ℕ → Type 0
  Kept = RowOf (start F).made (resolved F).named (resolved F).log

  placed : (row : List ℕ) → Kept row → (j : ℕ) × (get_elem? (rows_of F) j ≡ some row)
  unfolding rec.records
  placed row (name_row_lem j x e p) = (j, at_append (map rec.title_row (resolved F).named) _ j row (map_at rec.title_row (resolved F).named j x e ∙ ap some (sym p)))
  placed row (ident_row j e) = (length (map rec.title_row (resolved F).named) + j, at_behind (map rec.title_row (resolved F).named) _ j ∙ ap (λ (l : List (List ℕ)). get_elem? l j) (sym (answers_same F ok)) ∙ e)

  kept : (j : ℕ) (row : List ℕ) → get_elem? (rows_of F) j ≡ some row → Kept row
  unfolding rec.records
  kept j row e = elim (dec_lt j (length names)) [ yes h ↦ name (sym (at_left names answers j h) ∙ e) | no h ↦ answer (j - length names) (sym (at_right names answers j (omega arith)) ∙ e) ]
    where
      names : List (List ℕ)
      names = map rec.title_row (resolved F).named

      answers : List (List ℕ)
      answers = rec.answers (resolved F).made (resolved F).log

      name : get_elem? names j ≡ some row → Kept row
      name q = let (x, at, p) = map-from rec.title_row (resolved F).named j row q in name_row_lem j x at (sym p)

      answer : (k : ℕ) → get_elem? answers k ≡ some row → Kept row
      answer k q = ident_row k (ap (λ (l : List (List ℕ)). get_elem? l k) (answers_same F ok) ∙ q)

  pub held_answer : Headed F.root → Distinct (nodes_in F.root) → (i x : ℕ) → HeldAt Kept i x → x ≡ node_answer F i
  held_answer h d i x (held row q e w) = let (j, at) = placed row q in w ∙ sym (answer_word_lem row) ∙ sym (answer_at F ok h d j row at) ∙ ap (node_answer F) e
  held_answer h d i x (none-held f w) = w ∙ sym (answer_none F i (λ j row at e. f row (kept j row at) e))
