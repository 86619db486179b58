-- The rows of Idents and Names, and the errors, fit their fields.
--     node_small                                          an Ident's number
--     answer_bounds, name_bounds, error_one, error_fits   row by row
use Rattle.std.specs.Prelude.{ℕ, ◌<◌, ◌≤◌, refl, Bool, get_or}
use Rattle.std.proofs.Math.Path.{◌≡◌, sym, ap, subst}
use Rattle.std.proofs.Common.{◌∙◌}
use Rattle.std.proofs.Math.Bool.{true, false, cond}
use mathlib.Core.List.{List, [], ◌∷◌}
use Rattle.std.proofs.Math.Option.{Option, none, some}
use native.Mathlib.Omega.{arith}
use Rattle.std.proofs.Math.ListN.{length, get_elem?, length-append}
use Rattle.base.specs.UpTo.{at_some}
use Rattle.lexical.specs.Places.{In, at-below}
use Rattle.lexical.specs.Tree.{Forest, is_look, way, idents_in, top}
use Rattle.lexical.specs.Module.{File, module', global, missing, outer_of}
use Rattle.lexical.specs.Meaning.{Meaning, meaning}
use Rattle.lexical.specs.State.{Binding, Event, Named, Found, local, refused, outside}
use Rattle.lexical.specs.First.{start}
use Rattle.lexical.specs.Third.{resolved}
use Rattle.lexical.specs.Records as rec
use Rattle.lexical.specs.Claims.{OfLocal, seen}
use Rattle.lexical.proofs.Theorems.{T1_all, T1_global, named_known}
use Rattle.lexical.proofs.Laws.Numbers.{made_start, fresh_all}
use Rattle.lexical.proofs.Theory.Outcome.{site_of, meaning_of, means_outside}
use Rattle.lexical.proofs.Theory.Chains.{Led}
use Rattle.lexical.proofs.Theory.Last.{last}
use Rattle.lexical.proofs.Laws.Below.{SlotFits, answer_below}
use Rattle.nodefile.specs.Layout.{node_count, nodes_of}
use Rattle.nodefile.specs.FileOf.{file_of}
use Rattle.nodefile.proofs.Laws.FileLaws.{globals_count}
use Rattle.nodefile.proofs.Laws.Listed.{listed_in}
use Rattle.scope.specs.Laws.Lists.{times-at, in_times}
use Rattle.scope.specs.Ready.{Ready}
use Rattle.scope.specs.Laws.Readies.{ready_scoped, ready_length, ready_made}
use Rattle.scope.specs.Laws.Early.{found_early}
use Rattle.scope.specs.Laws.Bounds.{made_bounds}

-- class 2, slot or global 15, binding 15
abbrev pub RowFits : List ℕ → Type 0
RowFits row = (get_or row 1 0 < 4) × (get_or row 2 0 < 32768) × (get_or row 3 0 < 32768)

module _ {bs : List ℕ} {root : Forest} (q : Ready bs root) (few : length (resolved (file_of bs root)).slots ≤ 4096) where
  abbrev F : File
  F = file_of bs root

  pub node_small : (j : ℕ) (e : Event) → get_elem? (resolved F).log j ≡ some e → e.node < node_count bs
  unfolding idents_in
  node_small j e p =
      let m : In e.node (idents_in root) = in_times e.node (idents_in root) (omega (arith, T1_all F (ready_scoped q) e.node, times-at (λ (x : Event). x.node) e.node (resolved F).log j e p refl)) in
      let d = listed_in root (nodes_of bs) 0 q.reads (λ k. is_look (way k)) (λ a k v. a) e.node m in
      omega (arith, d.inside, d.is, ready_length q)

  -- the number of a global that is found
  global_small : (j : ℕ) (e : Event) (g : ℕ) → get_elem? (resolved F).log j ≡ some e → e.found ≡ outside (global g) → g < 256
  unfolding seen meaning
  global_small j e g p f =
      let (s, at, v) = site_of F (ready_scoped q) j e p in
      let m : Meaning.outside (global g) ≡ meaning (outer_of F) s = sym (ap seen f) ∙ meaning_of F e s v in
      let (h, o) = T1_global F (ready_scoped q) s.name g (means_outside _ _ _ (global g) m).1 in
      omega (arith, at-below F.globals g s.name h, globals_count bs root, q.lists.globals)

  -- the slot of a module binding that is found
  module_small : (i : ℕ) → i < length (start F).made → rec.slot_of (get_elem? (resolved F).made i) < 32768
  unfolding rec.slot_of
  module_small i h = go (at_some (resolved F).made i (omega (arith, ap length (made_start F).1, length-append (start F).made (made_start F).0)))
    where
      go : (b : Binding) × (get_elem? (resolved F).made i ≡ some b) → rec.slot_of (get_elem? (resolved F).made i) < 32768
      go (b, e) = rw e (made_bounds q few i b e).slot

  found_bounds : (j : ℕ) (e : Event) → get_elem? (resolved F).log j ≡ some e → (f : Found) → e.found ≡ f → (row : List ℕ) → rec.answer_row (resolved F).made e.node f ≡ row ∷ [] → RowFits row
  unfolding rec.answer_row rec.outer_row
  found_bounds j e p (local b k) f row r =
      let z : e.node ∷ 2 ∷ k ∷ b.id ∷ [] ≡ row = cc in
      let l = subst (λ (x : Found). OfLocal (Led (resolved F) e.name e.scopes) x) f ((last F (ready_scoped q)).led j e p) in
      let s = subst (λ (x : Found). OfLocal (SlotFits (resolved F) e.scopes) x) f (answer_below F (ready_scoped q) j e p) in
      subst RowFits z (omega arith, omega (arith, s.below, fresh_all (top e.scopes) (resolved F).slots), omega (arith, (made_bounds q few b.id b l.known).number))
  found_bounds j e p (refused b k) f row r = absurd (let z : ◌≡◌ {A = ℕ} 0 1 = cc in omega arith)
  found_bounds j e p (outside (module' i)) f row r =
      let z : e.node ∷ 1 ∷ rec.slot_of (get_elem? (resolved F).made i) ∷ i ∷ [] ≡ row = cc in
      let h : i < length (start F).made = found_early F (ready_scoped q) j e i p f in
      subst RowFits z (omega arith, module_small i h, omega (arith, ready_made q, ap length (made_start F).1, length-append (start F).made (made_start F).0))
  found_bounds j e p (outside (global g)) f row r =
      let z : e.node ∷ 3 ∷ g ∷ 0 ∷ [] ≡ row = cc in
      subst RowFits z (omega arith, omega (arith, global_small j e g p f), omega arith)
  found_bounds j e p (outside missing) f row r = absurd (let z : ◌≡◌ {A = ℕ} 0 1 = cc in omega arith)

  pub answer_bounds : (j : ℕ) (e : Event) → get_elem? (resolved F).log j ≡ some e → (row : List ℕ) → rec.answer_row (resolved F).made e.node e.found ≡ row ∷ [] → RowFits row
  answer_bounds j e p row r = found_bounds j e p e.found refl row r

  pub name_bounds : (j : ℕ) (x : Named) → get_elem? (resolved F).named j ≡ some x → RowFits (rec.title_row x)
  unfolding rec.name_row
  name_bounds j x p = go x.node x.of (named_known F (ready_scoped q) j x p)
    where
      class : (l : Bool) → cond l 2 1 < 4
      class true = omega arith
      class false = omega arith

      go : (at : ℕ) (o : Option Binding) → ((b : Binding) → o ≡ some b → get_elem? (resolved F).made b.id ≡ some b) → RowFits (rec.name_row at o)
      go at none h = (omega arith, omega arith, omega arith)
      go at (some b) h = let m = made_bounds q few b.id b (h b refl) in (class b.local, m.slot, omega (arith, m.number))

-- an error's row, if there is one: its node, and 1 or 2
pub error_one : (at : ℕ) (f : Found) → length (rec.error_row at f) ≤ 1
unfolding rec.error_row rec.outer_error
error_one at (local b k) = omega arith
error_one at (refused b k) = omega arith
error_one at (outside (module' i)) = omega arith
error_one at (outside (global g)) = omega arith
error_one at (outside missing) = omega arith

pub error_fits : (at : ℕ) (f : Found) (row : List ℕ) → rec.error_row at f ≡ row ∷ [] → (code : ℕ) × (row ≡ at ∷ code ∷ []) × (code < 3)
unfolding rec.error_row rec.outer_error
error_fits at (local b k) row e = absurd (let z : ◌≡◌ {A = ℕ} 0 1 = cc in omega arith)
error_fits at (refused b k) row e = (2, cc, omega arith)
error_fits at (outside (module' i)) row e = absurd (let z : ◌≡◌ {A = ℕ} 0 1 = cc in omega arith)
error_fits at (outside (global g)) row e = absurd (let z : ◌≡◌ {A = ℕ} 0 1 = cc in omega arith)
error_fits at (outside missing) row e = (1, cc, omega arith)
