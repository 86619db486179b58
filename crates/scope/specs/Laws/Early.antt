-- A module binding that a lookup finds is one of walk one's.
use Prim.Native.Nat.{ℕ, ◌<◌, ◌≤◌}
use Rattle.std.specs.Prelude.{◌≡◌, true, length}
use Rattle.std.proofs.Math.Path.{sym, ap}
use Rattle.std.proofs.Common.{◌∙◌, subst, true≢false, arith}
use mathlib.Core.List.{List, ◌++◌}
use Rattle.std.proofs.Math.Option.{some}
use Rattle.std.proofs.Math.Decide.{dec_lt}
use Rattle.std.proofs.Math.ListN.{get_elem?}
use Rattle.base.specs.UpTo.{at_right}
use Rattle.lexical.specs.Places.{paired}
use Rattle.lexical.specs.Module.{File, module', outer_of}
use Rattle.lexical.specs.Meaning.{Meaning, meaning}
use Rattle.lexical.specs.State.{Binding, Event, outside}
use Rattle.lexical.specs.First.{start}
use Rattle.lexical.specs.Third.{resolved}
use Rattle.lexical.specs.Records as rec
use Rattle.lexical.specs.Claims.{Scoped, ModuleBinding, Outcome, sites_of, view, told, seen}
use Rattle.lexical.proofs.Theorems.{T1, T1_outcome}
use Rattle.lexical.proofs.Laws.Numbers.{made_start}

module _ (F : File) (ok : Scoped F) where
  early : (n i : ℕ) → ModuleBinding F n i → i < length (start F).made
  early n i m = elim (dec_lt i (length (start F).made)) [ yes h ↦ h | no h ↦ absurd (later (omega arith)) ]
    where
      more : List Binding
      more = (made_start F).0

      later : length (start F).made ≤ i → ⊥
      later h =
          let e : get_elem? ((start F).made ++ more) i ≡ some m.binding = subst (λ (l : List Binding). get_elem? l i ≡ some m.binding) (made_start F).1 m.stands in
          let l : m.binding.local ≡ true = (made_start F).2 _ m.binding (sym (at_right (start F).made more i h) ∙ e) in
          true≢false (sym l ∙ m.of_module_lem)

  pub found_early : (j : ℕ) (e : Event) (i : ℕ) → get_elem? (resolved F).log j ≡ some e → e.found ≡ outside (module' i) → i < length (start F).made
  unfolding view told seen Outcome
  found_early j e i q f =
      let (s, at, v) = paired view (told (outer_of F)) (resolved F).log (sites_of F) (T1 F ok) j e q in
      let (x, stands, a) = T1_outcome F ok j s at in
      let m : meaning (outer_of F) s ≡ Meaning.outside (module' i) = sym (ap (λ (t : ℕ × ℕ × List ℕ × Meaning). t.3) v) ∙ ap seen f in
      early s.name i (subst (λ (k : Meaning). Outcome F s k (rec.answer_row (resolved F).made x.node x.found) (rec.error_row x.node x.found)) m a.so).0
