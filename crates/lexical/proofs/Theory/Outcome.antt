-- Lookups and Idents, one by one: what the records say of an Ident is what its meaning says.
use Rattle.std.specs.Prelude.{◌≡◌, Bool, true, false}
use Rattle.std.proofs.Math.Path.{refl, ap}
use Rattle.std.proofs.Common.{sym, ◌∙◌, subst, arith}
use mathlib.Core.List.{List, [], ◌∷◌}
use Rattle.std.proofs.Math.Option.{Option, none, some}
use Prim.Native.Nat.{ℕ}
use Rattle.std.proofs.Math.ListN.{get_elem?}
use Rattle.lexical.specs.Places.{paired}
use Rattle.lexical.specs.Module.{Outer, module', global, missing, File, outer_of}
use Rattle.lexical.specs.Meaning.{scopes_of, Meaning, local, refused, outside, means_in, Site, meaning}
use Rattle.lexical.specs.State.{Found, Event}
use Rattle.lexical.specs.Third.{resolved}
use Rattle.lexical.specs.Records.{outer_row, answer_row, outer_error, error_row, slot_of}
use Rattle.lexical.specs.Claims.{seen, view, told, Scoped, sites_of, Outcome}
use Rattle.lexical.proofs.Theory.Chains.{LedFound}
use Rattle.lexical.proofs.Theory.Last.{told_all}
use Rattle.lexical.proofs.Theory.Lead.{follow_lead}
use Rattle.lexical.proofs.Theory.Outer.{module_binding_lem, global_name_lem, missing_name}

-- what is told of an Ident
pub means_local : (x : Option (ℕ × ℕ)) (t : Bool) (o : Outer) (d : ℕ × ℕ) → local d ≡ means_in x t o → x ≡ some d
unfolding means_in
means_local none t o d e = absurd (let z : ◌≡◌ {A = ℕ} 0 1 = cc in omega arith)
means_local (some c) true o d e = absurd (let z : ◌≡◌ {A = ℕ} 0 1 = cc in omega arith)
means_local (some c) false o d e = let z : c ≡ d = cc in ap some z

pub means_refused : (x : Option (ℕ × ℕ)) (t : Bool) (o : Outer) (d : ℕ × ℕ) → refused d ≡ means_in x t o → x ≡ some d
unfolding means_in
means_refused none t o d e = absurd (let z : ◌≡◌ {A = ℕ} 0 1 = cc in omega arith)
means_refused (some c) true o d e = let z : c ≡ d = cc in ap some z
means_refused (some c) false o d e = absurd (let z : ◌≡◌ {A = ℕ} 0 1 = cc in omega arith)

pub means_outside : (x : Option (ℕ × ℕ)) (t : Bool) (o u : Outer) → outside u ≡ means_in x t o → (x ≡ none) × (o ≡ u)
unfolding means_in
means_outside none t o u e = (refl, (let z : o ≡ u = cc in z))
means_outside (some c) true o u e = absurd (let z : ◌≡◌ {A = ℕ} 0 1 = cc in omega arith)
means_outside (some c) false o u e = absurd (let z : ◌≡◌ {A = ℕ} 0 1 = cc in omega arith)

module _ (F : File) (ok : Scoped F) where
  pub site_of : (j : ℕ) (e : Event) → get_elem? (resolved F).log j ≡ some e → (s : Site) × (get_elem? (sites_of F) j ≡ some s) × (view e ≡ told (outer_of F) s)
  site_of j e q = paired view (told (outer_of F)) (resolved F).log (sites_of F) (told_all F ok).looks j e q

  pub event_of : (j : ℕ) (s : Site) → get_elem? (sites_of F) j ≡ some s → (e : Event) × (get_elem? (resolved F).log j ≡ some e) × (told (outer_of F) s ≡ view e)
  event_of j s q = paired (told (outer_of F)) view (sites_of F) (resolved F).log (sym (told_all F ok).looks) j s q

-- what the lookups say of their nodes, names, scopes and meaning, what the Idents do
module _ (F : File) (e : Event) (s : Site) (q : view e ≡ told (outer_of F) s) where
  pub node_of : e.node ≡ s.node
  unfolding view told
  node_of = ap (λ (t : ℕ × ℕ × List ℕ × Meaning). t.0) q

  pub name_of : e.name ≡ s.name
  unfolding view told
  name_of = ap (λ (t : ℕ × ℕ × List ℕ × Meaning). t.1) q

  pub scopes_of_lem : e.scopes ≡ scopes_of s.above
  unfolding view told
  scopes_of_lem = ap (λ (t : ℕ × ℕ × List ℕ × Meaning). t.2) q

  pub meaning_of : seen e.found ≡ meaning (outer_of F) s
  unfolding view told
  meaning_of = ap (λ (t : ℕ × ℕ × List ℕ × Meaning). t.3) q

module _ (F : File) (ok : Scoped F) (s : Site) where
  of_outer : (o : Outer) → outer_of F s.name ≡ o → Outcome F s (outside o) (outer_row (resolved F).made s.node o) (outer_error s.node o)
  unfolding Outcome outer_row outer_error
  of_outer (module' i) e = let r = module_binding_lem F ok s.name i e in (r, ap (λ x. (s.node ∷ 1 ∷ slot_of x ∷ i ∷ []) ∷ []) r.stands ∙ (unfold slot_of in refl), refl)
  of_outer (global g) e = (global_name_lem F s.name g e, refl, refl)
  of_outer missing e = (missing_name F s.name e, refl, refl)

  of_found : (f : Found) → LedFound (resolved F) s.name (scopes_of s.above) f → seen f ≡ meaning (outer_of F) s → Outcome F s (seen f) (answer_row (resolved F).made s.node f) (error_row s.node f)
  unfolding seen meaning Outcome answer_row error_row
  of_found (Found.local b k) h m = (record { binding = b; slot = k; known = h.known; owner = refl; source = refl; named = h.named; is_local = h.is_local; home = follow_lead (resolved F) (scopes_of s.above) k b h.leads; answered = refl }, refl)
  of_found (Found.refused b k) h m = (refl, refl)
  of_found (Found.outside o) h m = of_outer o (means_outside _ _ _ o m).1

  pub outcome : (e : Event) → LedFound (resolved F) e.name e.scopes e.found → view e ≡ told (outer_of F) s → Outcome F s (meaning (outer_of F) s) (answer_row (resolved F).made e.node e.found) (error_row e.node e.found)
  outcome e l q = rw (node_of F e s q, ← meaning_of F e s q) (of_found e.found (subst (λ n. LedFound (resolved F) n (scopes_of s.above) e.found) (name_of F e s q) (subst (λ ss. LedFound (resolved F) e.name ss e.found) (scopes_of_lem F e s q) l)) (meaning_of F e s q))
