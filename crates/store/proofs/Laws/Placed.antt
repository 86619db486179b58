-- The bindings of a block's variables: one variable more, and those of the module's entries, each of which has the entry's own slot.
use Prim.Native.Nat.{ℕ, zero, suc, ◌+◌}
use Rattle.std.specs.Prelude.{◌≡◌}
use Rattle.std.proofs.Math.Path.{refl, ap}
use mathlib.Core.List.{List, [], ◌∷◌, ◌++◌}
use Rattle.std.proofs.Math.Option.{some}
use native.Mathlib.Omega.{arith}
use Rattle.std.proofs.Common.{zero-add}
use Rattle.std.proofs.Math.ListN.{length, get_elem?}
use Rattle.lexical.specs.Lists.{none-some}
use Rattle.lexical.specs.Binders.{Var}
use Rattle.lexical.specs.Module.{Entry, File}
use Rattle.lexical.specs.State.{Binding}
use Rattle.lexical.specs.First.{entry_slot, module_binding}
use Rattle.store.specs.Blocks.{BlockEnv, module_slot, module_block, placed, placed_from}

module _ (E : BlockEnv) where
  pub placed_length : (k : ℕ) (vs : List Var) → length (placed_from E k vs) ≡ length vs
  unfolding placed_from
  placed_length k [] = refl
  placed_length k (v ∷ vs) = ap suc (placed_length (suc k) vs)

  snoc_from : (k : ℕ) (vs : List Var) (v : Var) → placed_from E k (vs ++ (v ∷ [])) ≡ placed_from E k vs ++ (placed E (k + length vs) v ∷ [])
  unfolding placed_from
  snoc_from k [] v = let e : k + 0 ≡ k = omega arith in rw e refl
  snoc_from k (x ∷ vs) v = let e : suc k + length vs ≡ k + suc (length vs) = omega arith in rw (← e) (ap (λ (l : List Binding). placed E k x ∷ l) (snoc_from (suc k) vs v))

  -- one variable more
  pub placed_snoc : (vs : List Var) (v : Var) → placed_from E 0 (vs ++ (v ∷ [])) ≡ placed_from E 0 vs ++ (placed E (length vs) v ∷ [])
  placed_snoc vs v = rw zero-add at (snoc_from 0 vs v)

-- ---- the module's entries

pub slot_entry : (taken : List ℕ) (es : List Entry) (k : ℕ) (e : Entry) → get_elem? es k ≡ some e → module_slot taken es k ≡ e.slot
unfolding module_slot entry_slot
slot_entry taken [] k e q = absurd (none-some refl q)
slot_entry taken (x ∷ es) zero e q = let z : x ≡ e = cc in ap (λ (y : Entry). y.slot) z
slot_entry taken (x ∷ es) (suc k) e q = slot_entry (x.slot ∷ taken) es k e q

pub placed_entry : (F : File) (k : ℕ) (e : Entry) (v : Var) → get_elem? F.entries k ≡ some e → placed (module_block F) k v ≡ module_binding k v e.slot
unfolding placed module_block module_binding
placed_entry F k e v q = rw (zero-add k, slot_entry [] F.entries k e q) refl
