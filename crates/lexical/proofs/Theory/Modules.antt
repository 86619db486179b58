-- The module's bindings: one for each variable, in order, each at its number.
use Rattle.std.specs.Prelude.{◌≡◌, refl, List, [], ◌∷◌, map, false, ℕ, zero, suc, ◌+◌, length, drop}
use Rattle.std.proofs.Common.{sym, ◌∙◌, ap, subst, arith}
use Rattle.std.proofs.Math.Option.{some}
use Rattle.std.proofs.Math.ListN.{get_elem?}
use Rattle.std.proofs.lemmas.List.{length-map}
use Rattle.lexical.specs.Lists.{first, none-some}
use Rattle.lexical.specs.Places.{map-from, first-at}
use Rattle.lexical.specs.Binders.{Var}
use Rattle.lexical.specs.Module.{Entry}
use Rattle.lexical.specs.State.{Binding}
use Rattle.lexical.specs.Block.{called}
use Rattle.lexical.specs.First.{entry_slot, module_binding, module_bindings}

pub module_vars_lem : (taken : List ℕ) (es : List Entry) (vs : List Var) → map (λ (b : Binding). b.var) (module_bindings taken es vs) ≡ vs
unfolding module_bindings module_binding
module_vars_lem taken es [] = refl
module_vars_lem taken es (v ∷ vs) = ap (λ l. v ∷ l) (module_vars_lem (entry_slot es taken ∷ taken) (drop 1 es) vs)

pub module_length : (taken : List ℕ) (es : List Entry) (vs : List Var) → length (module_bindings taken es vs) ≡ length vs
module_length taken es vs = sym (length-map (module_bindings taken es vs) (λ (b : Binding). b.var)) ∙ ap length (module_vars_lem taken es vs)

pub module_numbers : (taken : List ℕ) (es : List Entry) (vs : List Var) (i : ℕ) (b : Binding) → get_elem? (module_bindings taken es vs) i ≡ some b → (b.id ≡ length taken + i) × (b.local ≡ false)
unfolding module_bindings module_binding
module_numbers taken es [] i b e = absurd (none-some refl e)
module_numbers taken es (v ∷ vs) zero b e = let z : module_binding (length taken) v (entry_slot es taken) ≡ b = cc in (omega (arith, ap (λ (x : Binding). x.id) z), sym (ap (λ (x : Binding). x.local) z))
module_numbers taken es (v ∷ vs) (suc i) b e = let h = module_numbers (entry_slot es taken ∷ taken) _ vs i b e in (omega (arith, h.0), h.1)

-- by a variable's place, by a name
pub module_at : (taken : List ℕ) (es : List Entry) (vs : List Var) (i : ℕ) (v : Var) → get_elem? vs i ≡ some v
    → (b : Binding) × (get_elem? (module_bindings taken es vs) i ≡ some b) × (b.var ≡ v) × (b.id ≡ length taken + i) × (b.local ≡ false)
module_at taken es vs i v e = let r = map-from (λ (b : Binding). b.var) (module_bindings taken es vs) i v (subst (λ l. get_elem? l i ≡ some v) (sym (module_vars_lem taken es vs)) e) in
    let n = module_numbers taken es vs i r.0 r.1 in (r.0, r.1, r.2, n.0, n.1)

pub module_place : (n : ℕ) (taken : List ℕ) (es : List Entry) (vs : List Var) (b : Binding) → first (called n) (module_bindings taken es vs) ≡ some b
    → (i : ℕ) × (get_elem? (module_bindings taken es vs) i ≡ some b) × (b.id ≡ length taken + i)
module_place n taken es vs b e = let r = first-at (called n) (module_bindings taken es vs) b e in (r.0, r.1, (module_numbers taken es vs r.0 b r.1).0)
