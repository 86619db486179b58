-- The seven buffers of a file that is resolved, from the working lists at the end of the walks.
use Prim.Native.Nat.{ℕ, suc, ◌+◌, ◌<◌, ◌≤◌}
use mathlib.Core.Path.{◌≡◌, sym, ap, ◌∙◌, subst}
use mathlib.Core.Logic.{inl, inr}
use mathlib.Core.List.{List, [], ◌∷◌, map}
use mathlib.Core.Option.{some}
use native.Mathlib.Omega.{arith}
use native.Mathlib.Nat.{zero-add}
use native.Mathlib.Decide.{dec_lt}
use lib.ListN.{length, get_or, get_elem?, length-map, length-append}
use Rattle.base.specs.UpTo.{up_to, up_to_length, up_to_get, at_some}
use Rattle.lexical.specs.Lists.{eqb-true}
use Rattle.lexical.specs.Places.{In, at-below, at_append, map_at, first_no, at_in}
use Rattle.lexical.specs.Tree.{Forest, scopes_in, params_in}
use Rattle.lexical.specs.Module.{File}
use Rattle.lexical.specs.State.{Binding}
use Rattle.lexical.specs.Block.{fresh_in}
use Rattle.lexical.specs.First.{start}
use Rattle.lexical.specs.Third.{resolved}
use Rattle.lexical.specs.Records as rec
use Rattle.lexical.proofs.Laws.Adds.{scope_rows-at, scope_rows-length}
use Rattle.lexical.proofs.Laws.Params.{params-keys, scopes_length}
use Rattle.lexical.proofs.Laws.Numbers.{made_start}
use Rattle.nodefile.specs.Layout.{node_count}
use Rattle.nodefile.specs.FileOf.{file_of}
use Rattle.store.specs.declared.ids.State.{State}
use Rattle.store.specs.Sections.{Mem, word_at}
use Rattle.store.specs.Words.{bind_word, slot_word, copy_word, error_word, pair_word}
use Rattle.store.specs.Image.{Image}
use Rattle.store.specs.Rel.{caps}
use Rattle.store.proofs.Laws.Points.{Zeros, word_at_lem}
use Rattle.target.specs.Alike.{map_like}
use Rattle.collect.specs.Declare.{counted}
use Rattle.answer.specs.Buffers.{Front}
use Rattle.answer.specs.Records.{binding_of, entry_of, entry_from, pair_of, copy_of}
use Rattle.scope.specs.Nodes.{node_answer}
use Rattle.scope.specs.Filled.{Filled}
use Rattle.scope.specs.Ready.{Ready}
use Rattle.scope.specs.Walks.{params_at}
use Rattle.scope.specs.Laws.Front.{get_past, front-is, word_get}
use Rattle.scope.specs.Laws.Words.{binding_word_lem, slot_word_lem, copy_word_lem, error_word_lem, entry_word_lem}
use Rattle.scope.specs.Laws.Readies.{ready_scoped, ready_headed, ready_distinct}
use Rattle.scope.specs.Laws.Within.{no_scope}
use Rattle.scope.proofs.Held.{held_answer}
use Rattle.scope.proofs.Fronts.{filled_front, section_front, map_words}

-- a scope that no function has has no parameters
no_params_lem : (root : Forest) (s : ℕ) → (In s (scopes_in root) → ⊥) → params_at root s ≡ 0
unfolding rec.params_of counted
no_params_lem root s h = ap rec.params_of (first_no (counted s) (params_in root) (λ k a e t.
    h (subst (λ (x : ℕ). In x (scopes_in root)) (eqb-true a.0 s t) (at_in (scopes_in root) k a.0 (subst (λ (l : List ℕ). get_elem? l k ≡ some a.0) (params-keys root) (map_at (λ (p : ℕ × ℕ). p.0) (params_in root) k a e))))))

module _ {bs : List ℕ} {root : Forest} (q : Ready bs root) {s : State} {m : Mem} (i : Image (start (file_of bs root)).made (params_at root) (caps (resolved (file_of bs root))) (resolved (file_of bs root)) s m) where
  abbrev F : File
  F = file_of bs root

  pub nodes_front : {old new : List ℕ} → Filled (λ j. get_or m.w (0 + j) 0) (node_count bs) old new → Zeros old → 2048 ≤ length old → Front new (length old) (up_to (node_answer F) (node_count bs))
  nodes_front f z l =
      let n : length (up_to (node_answer F) (node_count bs)) ≡ node_count bs = up_to_length (node_answer F) (node_count bs) in
      filled_front f z (up_to (node_answer F) (node_count bs)) (omega arith) (omega (arith, q.nodes)) (λ j h.
      ap (λ (k : ℕ). get_or m.w k 0) (zero-add j)
      ∙ held_answer F (ready_scoped q) (ready_headed q) (ready_distinct q) j (get_or m.w j 0) (i.nodes j (omega (arith, q.nodes)))
      ∙ sym (up_to_get (node_answer F) (node_count bs) j 0 h))

  pub slots_front : {old new : List ℕ} → Filled (λ j. get_or m.w (2048 + j) 0) s.slots old new → Zeros old → 4096 ≤ length old → Front new (length old) (map pair_of (rec.records F).slots)
  unfolding rec.records
  slots_front {old} {new} f z l = subst (λ (xs : List ℕ). Front new (length old) xs) (map_words slot_word rec.slot_row pair_of slot_word_lem (resolved F).slots)
      (section_front slot_word m.w 2048 4096 (resolved F).slots i.slots.rows i.slots.few s.slots i.slots_are f z (omega (arith, i.slots.few)))

  pub copies_front : {old new : List ℕ} → Filled (λ j. get_or m.w (6144 + j) 0) s.copies old new → Zeros old → 4096 ≤ length old → Front new (length old) (map copy_of (rec.records F).copies)
  unfolding rec.records
  copies_front {old} {new} f z l = subst (λ (xs : List ℕ). Front new (length old) xs) (map_words copy_word rec.copy_row copy_of copy_word_lem (resolved F).copies)
      (section_front copy_word m.w 6144 4096 (resolved F).copies i.copies.rows i.copies.few s.copies i.copies_are f z (omega (arith, i.copies.few)))

  pub errors-front : {old new : List ℕ} → Filled (λ j. get_or m.w (10240 + j) 0) s.errors old new → Zeros old → 2048 ≤ length old → Front new (length old) (map pair_of (rec.records F).errors)
  unfolding rec.records
  errors-front {old} {new} f z l = subst (λ (xs : List ℕ). Front new (length old) xs) (map_like error_word pair_of (rec.errors (resolved F).log) (λ j row _. error_word_lem row))
      (section_front error_word m.w 10240 2048 (rec.errors (resolved F).log) i.errors.rows i.errors.few s.errors i.errors_are f z (omega (arith, i.errors.few)))

  -- scopes 0 to S, and zeros for those that are not there
  pub scopes_front : {old new : List ℕ} → Filled (λ j. get_or m.w (12288 + j) 0) 256 old new → Zeros old → 256 ≤ length old → Front new (length old) (map pair_of (rec.records F).scopes)
  unfolding rec.records counted
  scopes_front f z l = filled_front f z (map pair_of rows) (omega (arith, long, q.few)) (omega (arith, long, q.few)) (λ j h. i.slots.scopes j h ∙ at j (dec_lt j (length rows)))
    where
      rows : List (List ℕ)
      rows = rec.scope_rows 0 ((0, 0) ∷ params_in root) (params_in root) (resolved F).slots

      long : length (map pair_of rows) ≡ suc (length (scopes_in root))
      long = length-map rows pair_of ∙ scopes_length F (resolved F).slots

      other : (j : ℕ) → length (scopes_in root) < j → In j (0 ∷ scopes_in root) → ⊥
      other j h (inl e) = omega arith
      other j h (inr n) = omega (arith, q.once.high j n)

      at : (j : ℕ) → Dec (j < length rows) → pair_word (params_at root j) (fresh_in j (resolved F).slots) ≡ get_or (map pair_of rows) j 0
      at j (yes h) =
          let e : 0 + j ≡ j = zero-add j in
          let row : get_elem? rows j ≡ some (params_at root j ∷ fresh_in j (resolved F).slots ∷ []) = rw e at (scope_rows-at 0 ((0, 0) ∷ params_in root) (params_in root) (resolved F).slots j (omega (arith, scope_rows-length 0 ((0, 0) ∷ params_in root) (params_in root) (resolved F).slots))) in
          sym (word_at_lem pair_of rows j _ row) ∙ word_get pair_of rows j
      at j (no h) =
          let a : length (scopes_in root) < j = omega (arith, scopes_length F (resolved F).slots) in
          let b : params_at root j ≡ 0 = no_params_lem root j (λ n. other j a (inr n)) in
          let c : fresh_in j (resolved F).slots ≡ 0 = no_scope F j (other j a) in
          omega (arith, get_past (map pair_of rows) j (omega (arith, long)))

  -- the bindings' buffer is one of the working lists, and more
  module _ (new : List ℕ) (same : (j : ℕ) → j < 2304 → get_or new j 0 ≡ get_or m.binds j 0) where
    word : (j : ℕ) → j < 2304 → get_or new j 0 ≡ word_at (bind_word (caps (resolved F))) (resolved F).made j
    word j h = let z : 0 + j ≡ j = zero-add j in same j h ∙ (rw z at (i.made.words j h))

    pub bindings_front : (n : ℕ) → length new ≡ n → 2304 ≤ n → ((j : ℕ) → 2304 ≤ j → get_or new j 0 ≡ 0) → Front new n (map binding_of (rec.records F).bindings)
    unfolding rec.records
    bindings_front n e l behind = subst (λ (xs : List ℕ). Front new n xs) (map_words (bind_word (caps (resolved F))) (rec.binding_row (resolved F).log) binding_of (binding_word_lem (resolved F)) (resolved F).made)
        (front-is new n xs e (omega (arith, long, i.made.few)) (λ j _. elim (dec_lt j 2304) [ yes h ↦ word j h ∙ word_get (bind_word (caps (resolved F))) (resolved F).made j | no h ↦ behind j (omega arith) ∙ sym (get_past xs j (omega (arith, long, i.made.few))) ]))
      where
        xs : List ℕ
        xs = map (bind_word (caps (resolved F))) (resolved F).made

        long : length xs ≡ length (resolved F).made
        long = length-map (resolved F).made (bind_word (caps (resolved F)))

    -- and the module's entries are read off it
    pub entries_front : {old fresh : List ℕ} (n : ℕ) → n ≡ length (start F).made → Filled (λ j. entry_from (get_or new j 0)) n old fresh → Zeros old → 2304 ≤ length old → Front fresh (length old) (map entry_of (rec.records F).entries)
    unfolding rec.records
    entries_front n e f z l = filled_front f z (map entry_of rows) (omega (arith, long)) (omega (arith, long, few)) (λ j h. at j (at_some (start F).made j (omega arith)))
      where
        rows : List (List ℕ)
        rows = map rec.entry_row (start F).made

        long : length (map entry_of rows) ≡ length (start F).made
        long = length-map rows entry_of ∙ length-map (start F).made rec.entry_row

        few : length (start F).made ≤ 2304
        few = omega (arith, i.made.few, ap length (made_start F).1, length-append (start F).made (made_start F).0)

        at : (j : ℕ) → (b : Binding) × (get_elem? (start F).made j ≡ some b) → entry_from (get_or new j 0) ≡ get_or (map entry_of rows) j 0
        at j (b, p) =
            let h : j < 2304 = omega (arith, at-below (start F).made j b p, few) in
            let r : get_elem? (resolved F).made j ≡ some b = ap (λ (l : List Binding). get_elem? l j) (made_start F).1 ∙ at_append (start F).made (made_start F).0 j b p in
            ap entry_from (word j h ∙ word_at_lem (bind_word (caps (resolved F))) (resolved F).made j b r ∙ binding_word_lem (resolved F) b)
            ∙ entry_word_lem (resolved F) (i.made.sound j b r)
            ∙ sym (word_at_lem entry_of rows j (rec.entry_row b) (map_at rec.entry_row (start F).made j b p)) ∙ word_get entry_of rows j
