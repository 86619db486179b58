-- Every number of an accepted file's records fits its field.
--     entry_slots                                      the module entries, as the file has them
--     made_bounds, slot_bounds, copy_bounds            the bindings, the slots, the copies
use Rattle.std.specs.Prelude.{ℕ, ◌+◌, ◌*◌, ◌<◌, ◌≤◌, ◌≡◌, length}
use Rattle.std.proofs.Math.Path.{refl}
use Rattle.std.proofs.Common.{sym, ap, ◌∙◌, subst, inl, inr, true≢false, arith}
use mathlib.Core.List.{List, [], ◌∷◌, ◌++◌}
use Rattle.std.proofs.Math.Option.{some}
use Rattle.std.proofs.Math.Decide.{dec_lt}
use Rattle.std.proofs.Math.ListN.{get_elem?}
use Rattle.bits.proofs.FieldLaws.{field_lt}
use Rattle.base.specs.UpTo.{at_right}
use Rattle.lexical.specs.Lists.{Tested, was, wasnt, tested}
use Rattle.lexical.specs.Places.{In, at-below, at_left, map_o_some}
use Rattle.lexical.specs.Tree.{Forest, nil, node, scopes_in}
use Rattle.lexical.specs.Binders.{collect, unmarked}
use Rattle.lexical.specs.Module.{Entry, File}
use Rattle.lexical.specs.State.{Binding, Slot, Copy}
use Rattle.lexical.specs.First.{start}
use Rattle.lexical.specs.Third.{resolved}
use Rattle.lexical.proofs.Laws.Numbers.{made_start, local_capacity}
use Rattle.lexical.proofs.Laws.Below as low
use Rattle.nodefile.specs.Layout.{entry_count, entries_of}
use Rattle.nodefile.specs.FileOf.{file_of, entry_of}
use Rattle.nodefile.proofs.Laws.FileLaws.{entries_count, entries_at}
use Rattle.nodefile.specs.Valid.{Valid}
use Rattle.store.specs.Blocks.{module_block, nothing, placed, vars_of, bindings_of, block_st}
use Rattle.target.specs.Placed.{placed_at}
use Rattle.target.specs.Entries.{unsettled, facts_module, start_is}
use Rattle.note.specs.Noted.{ListsOk}
use Rattle.scope.specs.Ready.{Ready}
use Rattle.scope.specs.Laws.Readies.{ready_scoped, ready_headed, ready_made}
use Rattle.scope.specs.Laws.Within.{slots_within, no_scope}
use Rattle.scope.specs.Laws.Targets.{Each}
use Rattle.scope.specs.Laws.Fitting.{Fits, resolved_fit}

module _ (bs : List ℕ) (root : Forest) (i : ℕ) (e : Entry) (q : get_elem? (file_of bs root).entries i ≡ some e) where
  entry_is : (i < entry_count bs) × (entry_of (entries_of bs) i ≡ e)
  entry_is =
      let h : i < entry_count bs = omega (arith, at-below (file_of bs root).entries i e q, entries_count bs root) in
      (h, let y : some (entry_of (entries_of bs) i) ≡ some e = sym (entries_at bs root i h) ∙ q in cc)

  pub entry_slots : e.slot < 32768
  entry_slots = subst (λ (x : Entry). x.slot < 32768) entry_is.1 (field_lt (entries_of bs) (32 * i + 17) 15)

  pub entry_names_lem : ListsOk bs → e.name < 1024
  entry_names_lem o = subst (λ (x : Entry). x.name < 1024) entry_is.1 (o.entry_name_lem i entry_is.0)

-- a module binding's slot: its entry's, or a number below that of the bindings
module_slot_lem : (F : File) → ((i : ℕ) (e : Entry) → get_elem? F.entries i ≡ some e → e.slot < 32768) → (k : ℕ) (b : Binding) → get_elem? (start F).made k ≡ some b → k < 4096 → b.slot < 32768
unfolding block_st module_block nothing
module_slot_lem F h k b e l =
    let E = module_block F in
    let ts = collect F.names unmarked F.root in
    let q : get_elem? (bindings_of E ts) k ≡ some b = subst (λ (l : List Binding). get_elem? l k ≡ some b) (ap (λ (s : _). s.made) (start_is F)) e in
    let (v, a, p) = map_o_some (placed E k) (get_elem? (vars_of E ts) k) b (sym (placed_at E (vars_of E ts) k) ∙ q) in
    subst (λ (x : Binding). x.slot < 32768) p (unfold placed in (facts_module (unsettled F [] (λ _. []) (λ _. 0)) F h).slot_small refl k l)

-- a name and its source
abbrev FieldsFit : ℕ → ℕ → Type 0
FieldsFit n x = (n < 1024) × (x < 65536)

each_valid : (f : Forest) → Valid f → Each FieldsFit f
unfolding Each Valid
each_valid nil v = tt
each_valid (node at k n kids rest) v = ((λ e. ((v.0.name e).0, omega (arith, v.0.number))), each_valid kids v.1, each_valid rest v.2)

pub record MadeBounds (k : ℕ) (b : Binding) : Type 0 where
  pub number : k < 2304
  pub name : b.var.name < 1024
  pub source : b.var.source < 65536
  pub slot : b.slot < 32768

module _ {bs : List ℕ} {root : Forest} (q : Ready bs root) (few : length (resolved (file_of bs root)).slots ≤ 4096) where
  abbrev F : File
  F = file_of bs root

  fit : Fits FieldsFit (resolved F)
  fit = resolved_fit FieldsFit F (ready_headed q) (each_valid root q.valid) (λ k e p. (entry_names_lem bs root k e p q.lists, omega arith))

  pub made_bounds : (k : ℕ) (b : Binding) → get_elem? (resolved F).made k ≡ some b → MadeBounds k b
  made_bounds k b e = record { number = small; name = (fit.made k b e).0; source = (fit.made k b e).1; slot = slot (tested b.local) }
    where
      small : k < 2304
      small = omega (arith, at-below (resolved F).made k b e, ready_made q)

      -- one that is no local is of walk one
      slot : Tested b.local → b.slot < 32768
      slot (was l) = omega (arith, local_capacity F k b e l)
      slot (wasnt l) =
          let p : get_elem? ((start F).made ++ (made_start F).0) k ≡ some b = subst (λ (l : List Binding). get_elem? l k ≡ some b) (made_start F).1 e in
          elim (dec_lt k (length (start F).made)) [
            | yes h ↦ module_slot_lem F (entry_slots bs root) k b (sym (at_left (start F).made (made_start F).0 k h) ∙ p) (omega (arith, small))
            | no h ↦ absurd (true≢false (sym ((made_start F).2 _ b (sym (at_right (start F).made (made_start F).0 k (omega arith)) ∙ p)) ∙ l))
          ]

  -- a scope with a slot
  scope_small : (s : ℕ) → In s (0 ∷ scopes_in root) → s < 256
  scope_small s (inl e) = omega arith
  scope_small s (inr m) = omega (arith, q.once.high s m, q.few)

  pub slot_bounds : (k : ℕ) (r : Slot) → get_elem? (resolved F).slots k ≡ some r → (r.scope < 256) × (r.name < 1024)
  slot_bounds k r e = (scope_small r.scope (slots_within F k r e), (fit.slots k r e).1.0)

  pub copy_bounds : (k : ℕ) (c : Copy) → get_elem? (resolved F).copies k ≡ some c → (c.scope < 256) × (c.parent < 4096) × (c.child < 4096)
  copy_bounds k c e =
      let h = low.copy_capacity F (ready_scoped q) k c e in
      (elim (dec_lt c.scope 256) [ yes l ↦ l | no l ↦ absurd (omega (arith, (low.placed F).child k c e, no_scope F c.scope (λ m. l (scope_small c.scope m)))) ], omega arith, omega arith)
