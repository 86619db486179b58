-- The buffers of an accepted file, read field by field: a binding's fields, a scope's slots, the copies.
--     made_shown               a binding is what its block makes of its name
--     copy_shown, pairs_shown  each copy's record
--     slot_shown               a slot is below its scope's count
use Prim.Native.Nat.{ℕ, suc, ◌+◌, ◌<◌, ◌≤◌}
use Rattle.std.specs.Prelude.{◌≡◌, refl, cond, length, take}
use Rattle.std.proofs.Common.{sym, ◌∙◌, subst, inl, inr}
use Rattle.std.proofs.Math.Path.{ap}
use mathlib.Core.List.{List, [], ◌∷◌, map}
use Rattle.std.proofs.Math.Option.{Option, some}
use native.Mathlib.Omega.{arith}
use Rattle.std.proofs.Math.Decide.{dec_lt}
use Rattle.std.proofs.Math.Dec.{eqb}
use Rattle.std.proofs.Math.ListN.{get_or, get_elem?, length-map}
use Rattle.bits.specs.Pack.{unpack}
use Rattle.lexical.specs.Lists.{first, picked}
use Rattle.lexical.specs.Places.{In, at_in, at-below, map_at, map-from}
use Rattle.lexical.specs.Tree.{Forest, scopes_in, params_in}
use Rattle.lexical.specs.Binders.{Target}
use Rattle.lexical.specs.Module.{Entry, File}
use Rattle.lexical.specs.State.{Binding, Copy}
use Rattle.lexical.specs.Block.{fresh_in}
use Rattle.lexical.specs.Third.{resolved}
use Rattle.lexical.specs.Records as rec
use Rattle.lexical.specs.Schemes.{pairs}
use Rattle.lexical.specs.Blocks.{Makes}
use Rattle.lexical.proofs.Laws.Adds.{scope_rows-at, scope_rows-length}
use Rattle.lexical.proofs.Laws.Params.{params-keys, params-found, scopes_length}
use Rattle.nodefile.specs.Layout.{node_count}
use Rattle.nodefile.specs.FileOf.{file_of}
use Rattle.follow.specs.Place.{copies_of}
use Rattle.answer.specs.declared.Answer.{Answer}
use Rattle.answer.specs.Buffers.{Buffers}
use Rattle.answer.specs.Records.{pair_widths}
use Rattle.scope.specs.Answer.{Given}
use Rattle.scope.specs.Ready.{Ready}
use Rattle.scope.specs.Laws.Bounds.{copy_bounds}
use Rattle.promise.proofs.Laws.Copies.{bare, copies_read}
use Rattle.scope.specs.Laws.Readies.{ready_scoped}
use Rattle.promise.proofs.Laws.Records.{back, bindings_back}
use Rattle.scope.specs.Laws.Within.{no_scope}
use Rattle.promise.specs.Said.{public_of, copies_shown, params_of, slots_of, MadeShown}

pairs-bare : (s : ℕ) (cs : List Copy) → pairs s (map bare cs) ≡ pairs s cs
unfolding pairs picked
pairs-bare s [] = refl
pairs-bare s (c ∷ cs) = ap (λ (l : List (ℕ × ℕ)). cond (eqb c.scope s) ((c.parent, c.child) ∷ l) l) (pairs-bare s cs)

module _ {bs : List ℕ} {root : Forest} (q : Ready bs root) (few : length (resolved (file_of bs root)).slots ≤ 4096) {b b' : Buffers} {a : Answer} (g : Given (file_of bs root) (node_count bs) b a b') where
  abbrev F : File
  F = file_of bs root

  -- ---- a binding

  pub made_shown : (k : ℕ) (x : Binding) → get_elem? (resolved F).made k ≡ some x → (e : Option Entry) (ts : List Target) (n : ℕ) → Makes e ts n x.var → MadeShown a b' k e ts n (rec.bit x.local) x.slot
  unfolding rec.records rec.binding_row
  made_shown k x at e ts n m =
      let fields = bindings_back q few g k (rec.binding_row (resolved F).log x) (map_at (rec.binding_row (resolved F).log) (resolved F).made k x at) in
      record {
        known = omega (arith, g.bindings, length-map (resolved F).made (rec.binding_row (resolved F).log), at-below (resolved F).made k x at);
        name_is = ap (λ (l : List ℕ). get_or l 0 0) fields ∙ m.name_is;
        source_is = m.source_is ∙ ap some (sym (ap (λ (l : List ℕ). get_or l 1 0) fields));
        entry_is = ap (λ (l : List ℕ). get_or l 2 0) fields ∙ ap rec.bit m.entry_is;
        public_is = ap (λ (l : List ℕ). get_or l 3 0) fields ∙ ap rec.bit m.public_is;
        any_is = ap (λ (l : List ℕ). get_or l 4 0) fields ∙ ap rec.bit m.any_is;
        local_is = ap (λ (l : List ℕ). get_or l 6 0) fields;
        slot_is = ap (λ (l : List ℕ). get_or l 7 0) fields;
      }

  pub public_read : (k : ℕ) (x : Binding) → get_elem? (resolved F).made k ≡ some x → public_of b' k ≡ rec.bit x.var.public
  unfolding rec.records rec.binding_row
  public_read k x at = ap (λ (l : List ℕ). get_or l 3 0) (bindings_back q few g k (rec.binding_row (resolved F).log x) (map_at (rec.binding_row (resolved F).log) (resolved F).made k x at))

  -- ---- the copies

  pub copies_shown_lem : copies_shown a b' ≡ map bare (resolved F).copies
  unfolding rec.records
  copies_shown_lem = ap (λ (n : ℕ). copies_of (take n b'.copies)) (g.copies ∙ length-map (resolved F).copies rec.copy_row) ∙ copies_read (resolved F).copies (copy_bounds q few) b'.copies (length b.copies) g.copies_hold

  pub copy_shown : (j : ℕ) (c : Copy) → get_elem? (copies_shown a b') j ≡ some c → (d : Copy) × (get_elem? (resolved F).copies j ≡ some d) × (bare d ≡ c)
  copy_shown j c e = map-from bare (resolved F).copies j c (subst (λ (l : List Copy). get_elem? l j ≡ some c) copies_shown_lem e)

  pub pairs_shown : (s : ℕ) → pairs s (copies_shown a b') ≡ pairs s (resolved F).copies
  pairs_shown s = ap (pairs s) copies_shown_lem ∙ pairs-bare s (resolved F).copies

  -- ---- a scope

  scope_low : (s k : ℕ) → k < fresh_in s (resolved F).slots → s ≤ length (scopes_in root)
  scope_low s k h = elim (dec_lt s (suc (length (scopes_in root)))) [ yes l ↦ omega arith | no l ↦ absurd (omega (arith, no_scope F s (λ m. far m l))) ]
    where
      far : In s (0 ∷ scopes_in root) → (s < suc (length (scopes_in root)) → ⊥) → ⊥
      far (inl e) l = l (omega arith)
      far (inr m) l = l (omega (arith, q.once.high s m))

  pub scope_read : (s : ℕ) → s ≤ length (scopes_in root) → unpack pair_widths (get_or b'.scopes s 0) ≡ rec.params_of (first (λ (p : ℕ × ℕ). eqb p.0 s) (params_in root)) ∷ fresh_in s (resolved F).slots ∷ []
  unfolding rec.records
  scope_read s h =
      let (x, (y, (z, w))) = back q few g in
      let n : 0 + s ≡ s = omega arith in
      let row = rec.params_of (first (λ (p : ℕ × ℕ). eqb p.0 s) (params_in root)) ∷ fresh_in s (resolved F).slots ∷ [] in
      let at : get_elem? (rec.scope_rows 0 ((0, 0) ∷ params_in root) (params_in root) (resolved F).slots) s ≡ some row = rw n at (scope_rows-at 0 ((0, 0) ∷ params_in root) (params_in root) (resolved F).slots s (omega (arith, scopes_length F (resolved F).slots, scope_rows-length 0 ((0, 0) ∷ params_in root) (params_in root) (resolved F).slots))) in
      z s row at

  pub slot_shown : (s k : ℕ) → k < fresh_in s (resolved F).slots → k < slots_of b' s
  slot_shown s k h = omega (arith, ap (λ (l : List ℕ). get_or l 1 0) (scope_read s (scope_low s k h)))

  pub params_shown : (j : ℕ) (p : ℕ × ℕ) → get_elem? (params_in root) j ≡ some p → params_of b' p.0 ≡ p.1
  unfolding rec.params_of
  params_shown j p e = ap (λ (l : List ℕ). get_or l 0 0) (scope_read p.0 (q.once.high p.0 (subst (In p.0) (params-keys root) (at_in (map (λ (p : ℕ × ℕ). p.0) (params_in root)) j p.0 (map_at (λ (p : ℕ × ℕ). p.0) (params_in root) j p e))))) ∙ (rw (params-found F (ready_scoped q) j p e) refl)
