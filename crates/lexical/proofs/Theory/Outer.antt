-- What stands outside all functions and comprehensions: a module variable's number is its binding's, a global's its place, and what is missing is neither.
use Rattle.std.specs.Prelude.{◌≡◌, refl, ◌⊎◌, List, [], ◌∷◌, map, false, cond, ℕ, suc, ◌+◌, eqb}
use Rattle.std.proofs.Math.Path.{sym, ap}
use Rattle.std.proofs.Common.{◌∙◌, subst, inl, inr, arith}
use Rattle.std.proofs.Math.Option.{Option, none, some}
use Rattle.std.proofs.Math.ListN.{get_elem?}
use Rattle.lexical.specs.Lists.{first, map_o, or_else, place, eqb-true, eqb-false, none-some, Tested, was, wasnt, tested, Opened, absent, present, opened}
use Rattle.lexical.specs.Places.{map-from, In}
use Rattle.lexical.specs.Binders.{Var, collect, unmarked}
use Rattle.lexical.specs.Module.{module', global, missing, beyond, globally, outer, File, entry_var, module_vars, outer_of}
use Rattle.lexical.specs.Meaning.{declares}
use Rattle.lexical.specs.State.{Binding}
use Rattle.lexical.specs.First.{module_bindings, start}
use Rattle.lexical.specs.Third.{resolved}
use Rattle.lexical.specs.Claims.{source, Scoped, ModuleBinding}
use Rattle.lexical.proofs.Theory.Last.{seconded, last}
use Rattle.lexical.proofs.Theory.Lead.{Ext, Ext_trans}
use Rattle.lexical.proofs.Theory.Means.{source-merge}
use Rattle.lexical.proofs.Theory.Modules.{module_at}

place_at : (n : ℕ) (l : List ℕ) (i : ℕ) → place n l ≡ some i → get_elem? l i ≡ some n
unfolding place map_o
place_at n [] i e = absurd (none-some refl e)
place_at n (x ∷ l) i e = go (tested (eqb x n)) (opened (place n l)) e (λ j z. place_at n l j z)
  where
    go : Tested (eqb x n) → Opened (place n l) → cond (eqb x n) (some 0) (map_o suc (place n l)) ≡ some i → ((j : ℕ) → place n l ≡ some j → get_elem? l j ≡ some n) → get_elem? (x ∷ l) i ≡ some n
    go (was t) o z rec = let y : some 0 ≡ some i = rw t at z in let w : ◌≡◌ {A = ℕ} 0 i = cc in rw (← w) (ap some (eqb-true x n t))
    go (wasnt t) (absent q) z rec = absurd (none-some {o = cond (eqb x n) (some 0) (map_o suc (place n l))} (rw (t, q) refl) z)
    go (wasnt t) (present j q) z rec = let y : some (suc j) ≡ some i = rw (t, q) at z in let w : suc j ≡ i = cc in rw (← w) (rec j q)

beyond_module : (x y : Option ℕ) (i : ℕ) → beyond x y ≡ module' i → x ≡ some i
unfolding beyond globally
beyond_module (some j) y i e = let z : j ≡ i = cc in ap some z
beyond_module none none i e = absurd (let z : ◌≡◌ {A = ℕ} 0 1 = cc in omega arith)
beyond_module none (some g) i e = absurd (let z : ◌≡◌ {A = ℕ} 0 1 = cc in omega arith)

place-source : (n : ℕ) (vs : List Var) (i : ℕ) (v : Var) → place n (map (λ (v : Var). v.name) vs) ≡ some i → get_elem? vs i ≡ some v → source n vs ≡ some v.source
unfolding place source first map_o
place-source n [] i v e q = absurd (none-some refl e)
place-source n (x ∷ vs) i v e q = go (tested (eqb x.name n)) (opened (place n (map (λ (v : Var). v.name) vs))) e (λ j z y. place-source n vs j v z y)
  where
    go : Tested (eqb x.name n) → Opened (place n (map (λ (v : Var). v.name) vs)) → cond (eqb x.name n) (some 0) (map_o suc (place n (map (λ (v : Var). v.name) vs))) ≡ some i
        → ((j : ℕ) → place n (map (λ (v : Var). v.name) vs) ≡ some j → get_elem? vs j ≡ some v → source n vs ≡ some v.source)
        → map_o (λ (v : Var). v.source) (cond (eqb x.name n) (some x) (first (λ v. eqb v.name n) vs)) ≡ some v.source
    go (was t) o z rec = let y : some 0 ≡ some i = rw t at z in let w : ◌≡◌ {A = ℕ} 0 i = cc in
        let u : some x ≡ some v = subst (λ j. get_elem? (x ∷ vs) j ≡ some v) (sym w) q in let r : x ≡ v = cc in rw t (ap (λ (v : Var). some v.source) r)
    go (wasnt t) (absent p) z rec = absurd (none-some {o = cond (eqb x.name n) (some 0) (map_o suc (place n (map (λ (v : Var). v.name) vs)))} (rw (t, p) refl) z)
    go (wasnt t) (present j p) z rec = let y : some (suc j) ≡ some i = rw (t, p) at z in let w : suc j ≡ i = cc in
        rw t (rec j p (subst (λ k. get_elem? (x ∷ vs) k ≡ some v) (sym w) q))

-- a module name's number is that of its binding, whose source is an entry of that name or else the first Name that declares it
pub module_binding_lem : (F : File) → Scoped F → (n i : ℕ) → outer_of F n ≡ module' i → ModuleBinding F n i
unfolding outer_of outer
module_binding_lem F ok n i e = go (map-from (λ (v : Var). v.name) (module_vars F) i n (place_at n _ i at))
  where
    at : place n (map (λ (v : Var). v.name) (module_vars F)) ≡ some i
    at = beyond_module _ _ i e

    all : source n (module_vars F) ≡ or_else (source n (map entry_var F.entries)) (declares n (collect F.names unmarked F.root))
    all = unfold module_vars in source-merge n (map entry_var F.entries) (collect F.names unmarked F.root)

    ext : Ext (start F) (resolved F)
    ext = Ext_trans (seconded F ok).0.ext (last F ok).since

    with_binding : (v : Var) → get_elem? (module_vars F) i ≡ some v → v.name ≡ n
        → (b : Binding) × (get_elem? (module_bindings [] F.entries (module_vars F)) i ≡ some b) × (b.var ≡ v) × (b.id ≡ 0 + i) × (b.local ≡ false) → ModuleBinding F n i
    with_binding v a q r = record {
      binding = r.0;
      stands = ext.known i r.0 (unfold start in r.1);
      called_so = ap (λ (x : Var). x.name) r.2 ∙ q;
      numbered = omega (arith, r.3);
      of_module_lem = r.4;
      sourced = sym all ∙ place-source n (module_vars F) i v at a ∙ ap (λ (x : Var). some x.source) (sym r.2);
    }

    go : (v : Var) × (get_elem? (module_vars F) i ≡ some v) × (v.name ≡ n) → ModuleBinding F n i
    go (v, a, q) = with_binding v a q (module_at [] F.entries (module_vars F) i v a)

place_none : (n : ℕ) (l : List ℕ) → place n l ≡ none → In n l → ⊥
unfolding place map_o
place_none n (x ∷ l) e m = go (tested (eqb x n)) (opened (place n l)) e m (λ z. place_none n l z)
  where
    go : Tested (eqb x n) → Opened (place n l) → cond (eqb x n) (some 0) (map_o suc (place n l)) ≡ none → (n ≡ x) ⊎ In n l → (place n l ≡ none → In n l → ⊥) → ⊥
    go (was t) o z m rec = none-some {a = 0} {o = cond (eqb x n) (some 0) (map_o suc (place n l))} z (rw t refl)
    go (wasnt t) (present j p) z m rec = none-some {a = suc j} {o = cond (eqb x n) (some 0) (map_o suc (place n l))} z (rw (t, p) refl)
    go (wasnt t) (absent p) z (inl q) rec = eqb-false x n t (sym q)
    go (wasnt t) (absent p) z (inr m) rec = rec p m
place_none n [] e m = elim m [ ]

beyond_global : (x y : Option ℕ) (g : ℕ) → beyond x y ≡ global g → (x ≡ none) × (y ≡ some g)
unfolding beyond globally
beyond_global (some j) y g e = absurd (let z : ◌≡◌ {A = ℕ} 0 1 = cc in omega arith)
beyond_global none none g e = absurd (let z : ◌≡◌ {A = ℕ} 0 1 = cc in omega arith)
beyond_global none (some h) g e = (refl, (let z : h ≡ g = cc in ap some z))

beyond_missing : (x y : Option ℕ) → beyond x y ≡ missing → (x ≡ none) × (y ≡ none)
unfolding beyond globally
beyond_missing (some j) y e = absurd (let z : ◌≡◌ {A = ℕ} 0 1 = cc in omega arith)
beyond_missing none none e = (refl, refl)
beyond_missing none (some h) e = absurd (let z : ◌≡◌ {A = ℕ} 0 1 = cc in omega arith)

-- a global is no name of the module, and its number is its place; what is missing is neither
pub global_name_lem : (F : File) (n g : ℕ) → outer_of F n ≡ global g → (get_elem? F.globals g ≡ some n) × (In n (map (λ (v : Var). v.name) (module_vars F)) → ⊥)
unfolding outer_of outer
global_name_lem F n g e = let p = beyond_global _ _ g e in (place_at n F.globals g p.1, place_none n _ p.0)

pub missing_name : (F : File) (n : ℕ) → outer_of F n ≡ missing → (In n (map (λ (v : Var). v.name) (module_vars F)) → ⊥) × (In n F.globals → ⊥)
unfolding outer_of outer
missing_name F n e = let p = beyond_missing _ _ e in (place_none n _ p.0, place_none n F.globals p.1)
