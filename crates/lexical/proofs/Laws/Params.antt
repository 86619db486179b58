-- Each function's parameter variables are found under its scope number, where those are distinct.
use Rattle.std.specs.Prelude.{◌≡◌, refl, List, [], ◌∷◌, map, true, ℕ, zero, suc, ◌+◌, ◌≤◌, eqb, length}
use Rattle.std.proofs.Common.{sym, ◌∙◌, ap, subst, inl, inr, arith}
use Rattle.std.proofs.Math.Option.{none, some}
use Rattle.std.proofs.Math.ListN.{get_elem?}
use Rattle.std.proofs.lemmas.List.{length-map}
use Rattle.lexical.specs.Lists.{first, none-some, eqb_self, eqb-not}
use Rattle.lexical.specs.Places.{In, Distinct}
use Rattle.lexical.specs.Tree.{params, is_fn, Forest, way, scopes_in, params_in}
use Rattle.lexical.specs.Module.{File}
use Rattle.lexical.specs.State.{Slot}
use Rattle.lexical.specs.Block.{fresh_in, fresh}
use Rattle.lexical.specs.Third.{resolved}
use Rattle.lexical.specs.Records.{records, params_of, scope_rows}
use Rattle.lexical.specs.Claims.{Once, Scoped}
use Rattle.lexical.proofs.Laws.Adds.{scope_rows-at, scope_rows-length}
use Rattle.lexical.proofs.Laws.Scopes.{once_scoped}
use Rattle.lexical.proofs.Theory.Listed.{listed-map}

-- they are listed in the order of the scope numbers
pub params-keys : (f : Forest) → map (λ (p : ℕ × ℕ). p.0) (params_in f) ≡ scopes_in f
unfolding params_in scopes_in
params-keys f = listed-map (λ k. is_fn (way k)) (λ at k v kids. (v, params kids)) (λ (p : ℕ × ℕ). p.0) f

in_keys : (ps : List (ℕ × ℕ)) (j : ℕ) (p : ℕ × ℕ) → get_elem? ps j ≡ some p → In p.0 (map (λ (p : ℕ × ℕ). p.0) ps)
in_keys [] j p e = absurd (none-some refl e)
in_keys (x ∷ ps) zero p e = let z : x ≡ p = cc in inl (sym (ap (λ (q : ℕ × ℕ). q.0) z))
in_keys (x ∷ ps) (suc j) p e = inr (in_keys ps j p e)

first_key : (ps : List (ℕ × ℕ)) → Distinct (map (λ (p : ℕ × ℕ). p.0) ps) → (j : ℕ) (p : ℕ × ℕ) → get_elem? ps j ≡ some p → first (λ (q : ℕ × ℕ). eqb q.0 p.0) ps ≡ some p
unfolding first
first_key [] d j p e = absurd (none-some refl e)
first_key (x ∷ ps) d zero p e = let z : x ≡ p = cc in
    let t : eqb x.0 p.0 ≡ true = subst (λ (q : ℕ × ℕ). eqb x.0 q.0 ≡ true) z (eqb_self x.0) in rw t e
first_key (x ∷ ps) d (suc j) p e = rw (eqb-not x.0 p.0 (λ q. d.0 (subst (λ n. In n (map (λ (p : ℕ × ℕ). p.0) ps)) (sym q) (in_keys ps j p e)))) (first_key ps d.1 j p e)

pub params-found : (F : File) → Scoped F → (j : ℕ) (p : ℕ × ℕ) → get_elem? (params_in F.root) j ≡ some p → first (λ (q : ℕ × ℕ). eqb q.0 p.0) (params_in F.root) ≡ some p
params-found F ok j p e = first_key (params_in F.root) (subst Distinct (sym (params-keys F.root)) ok.distinct) j p e

-- a number that no function has gives no parameters: the module's own scope
first-not : (ps : List (ℕ × ℕ)) (s : ℕ) → (In s (map (λ (p : ℕ × ℕ). p.0) ps) → ⊥) → first (λ (q : ℕ × ℕ). eqb q.0 s) ps ≡ none
unfolding first
first-not [] s n = refl
first-not (x ∷ ps) s n = rw (eqb-not x.0 s (λ e. n (inl (sym e)))) (first-not ps s (λ m. n (inr m)))

pub params_module : (F : File) → Scoped F → first (λ (q : ℕ × ℕ). eqb q.0 0) (params_in F.root) ≡ none
params_module F ok = first-not (params_in F.root) 0 (λ m. ok.positive (subst (In 0) (params-keys F.root) m))

-- the scopes' records: one for the module and one for each function, at its number
pub scopes_length : (F : File) (rs : List Slot) → length (scope_rows 0 ((0, 0) ∷ params_in F.root) (params_in F.root) rs) ≡ suc (length (scopes_in F.root))
scopes_length F rs = scope_rows-length 0 ((0, 0) ∷ params_in F.root) (params_in F.root) rs
    ∙ ap suc (sym (length-map (params_in F.root) (λ (p : ℕ × ℕ). p.0)) ∙ ap length (params-keys F.root))

pub scope_row : (F : File) → Scoped F → (rs : List Slot) (j : ℕ) (p : ℕ × ℕ) → get_elem? (params_in F.root) j ≡ some p → p.0 ≤ length (scopes_in F.root)
    → get_elem? (scope_rows 0 ((0, 0) ∷ params_in F.root) (params_in F.root) rs) p.0 ≡ some (p.1 ∷ fresh_in p.0 rs ∷ [])
unfolding params_of
scope_row F ok rs j p e h = scope_rows-at 0 ((0, 0) ∷ params_in F.root) (params_in F.root) rs p.0 (omega (arith, scopes_length F rs, scope_rows-length 0 ((0, 0) ∷ params_in F.root) (params_in F.root) rs))
    ∙ (let z : 0 + p.0 ≡ p.0 = omega arith in rw (z, params-found F ok j p e) refl)

-- the records themselves: each function's at its number, the module's at 0
pub scope_told : (F : File) → Once (scopes_in F.root) → (j : ℕ) (p : ℕ × ℕ) → get_elem? (params_in F.root) j ≡ some p → get_elem? (records F).scopes p.0 ≡ some (p.1 ∷ fresh p.0 (resolved F) ∷ [])
unfolding records
scope_told F o j p e = scope_row F (once_scoped F o) (resolved F).slots j p e (o.high p.0 (subst (In p.0) (params-keys F.root) (in_keys (params_in F.root) j p e)))

pub module_scope : (F : File) → Scoped F → get_elem? (records F).scopes 0 ≡ some (0 ∷ fresh 0 (resolved F) ∷ [])
unfolding records scope_rows params_of
module_scope F ok = rw (params_module F ok) refl
