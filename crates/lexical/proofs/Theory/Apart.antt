-- A block's variables have different names.
use Rattle.std.proofs.Common.{◌∙◌, sym, ap, inl, inr}
use Rattle.std.specs.Prelude.{◌≡◌, refl, ◌⊎◌, List, [], ◌∷◌, ◌++◌, map, cond, ℕ, eqb}
use Rattle.std.proofs.lemmas.Simd.{map-map}
use Rattle.lexical.specs.Lists.{eqb-false, Tested, was, wasnt, tested}
use Rattle.lexical.specs.Places.{In, Distinct, distinct_snoc}
use Rattle.lexical.specs.Binders.{Target, Var, titles, new_var, again, note, merge}
use Rattle.lexical.specs.Module.{Entry, File, entry_var, module_vars}
use Rattle.lexical.specs.State.{Binding, St}
use Rattle.lexical.specs.Block.{new, add, bind, block}
use Rattle.lexical.specs.First.{module_bindings, start}
use Rattle.lexical.proofs.Theory.Modules.{module_vars_lem}

abbrev pub called_as : List Binding → List ℕ
called_as bs = map (λ (b : Binding). b.var.name) bs

-- a Name more: the names stay, or a new one stands at the end
pub noted : (t : Target) (vs : List Var) → (titles (note t vs) ≡ titles vs) ⊎ ((In t.name (titles vs) → ⊥) × (titles (note t vs) ≡ titles vs ++ (t.name ∷ [])))
unfolding note new_var again
noted t [] = inr ((λ m. m), refl)
noted t (v ∷ vs) = go (tested (eqb v.name t.name)) (noted t vs)
  where
    go : Tested (eqb v.name t.name) → (titles (note t vs) ≡ titles vs) ⊎ ((In t.name (titles vs) → ⊥) × (titles (note t vs) ≡ titles vs ++ (t.name ∷ [])))
        → (titles (cond (eqb v.name t.name) (again t v ∷ vs) (v ∷ note t vs)) ≡ titles (v ∷ vs))
        ⊎ ((In t.name (titles (v ∷ vs)) → ⊥) × (titles (cond (eqb v.name t.name) (again t v ∷ vs) (v ∷ note t vs)) ≡ titles (v ∷ vs) ++ (t.name ∷ [])))
    go (was e) h = inl (rw e refl)
    go (wasnt e) (inl h) = inl (rw e (ap (λ l. v.name ∷ l) h))
    go (wasnt e) (inr h) = inr (other, rw e (ap (λ l. v.name ∷ l) h.1))
      where
        other : (t.name ≡ v.name) ⊎ In t.name (titles vs) → ⊥
        other (inl q) = eqb-false v.name t.name e (sym q)
        other (inr m) = h.0 m

pub merge_distinct : (vs : List Var) (ts : List Target) → Distinct (titles vs) → Distinct (titles (merge vs ts))
unfolding merge
merge_distinct vs [] d = d
merge_distinct vs (t ∷ ts) d = merge_distinct (note t vs) ts (go (noted t vs))
  where
    go : (titles (note t vs) ≡ titles vs) ⊎ ((In t.name (titles vs) → ⊥) × (titles (note t vs) ≡ titles vs ++ (t.name ∷ []))) → Distinct (titles (note t vs))
    go (inl e) = rw e d
    go (inr h) = rw h.1 (distinct_snoc t.name (titles vs) d h.0)

-- the module's, if its entries have different names
pub module_distinct : (F : File) → Distinct (map (λ (e : Entry). e.name) F.entries) → Distinct (titles (module_vars F))
unfolding module_vars
module_distinct F d = merge_distinct (map entry_var F.entries) _ (rw (map-map (λ (v : Var). v.name) entry_var F.entries) (unfold entry_var in d))

pub bind-called : (s : ℕ) (vs : List Var) (st : St) → called_as (bind s vs st).0 ≡ titles vs
unfolding bind new
bind-called s [] st = refl
bind-called s (v ∷ vs) st = ap (λ l. v.name ∷ l) (bind-called s vs (add s (new s v st) st))

-- a function's or a comprehension's: no name is bound twice
pub block_distinct : (s : ℕ) (ts : List Target) (st : St) → Distinct (called_as (block s ts st).0)
unfolding block
block_distinct s ts st = rw (bind-called s (merge [] ts) st) (merge_distinct [] ts tt)

module_called : (taken : List ℕ) (es : List Entry) (vs : List Var) → called_as (module_bindings taken es vs) ≡ titles vs
module_called taken es vs = sym (map-map (λ (v : Var). v.name) (λ (b : Binding). b.var) (module_bindings taken es vs)) ∙ ap titles (module_vars_lem taken es vs)

pub start_distinct : (F : File) → Distinct (map (λ (e : Entry). e.name) F.entries) → Distinct (called_as (start F).made)
unfolding start
start_distinct F d = rw (module_called [] F.entries (module_vars F)) (module_distinct F d)
