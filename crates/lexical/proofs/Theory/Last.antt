-- The theorems about a whole file: T1 (meaning) and T2 (chain). T3 is in Least.
use Rattle.std.specs.Prelude.{◌≡◌, false, true, cond, ℕ, eqb, drop}
use Rattle.std.proofs.Math.Path.{refl, ap}
use Rattle.std.proofs.Common.{sym, ◌∙◌, subst, arith}
use mathlib.Core.List.{List, [], ◌∷◌, ◌++◌, map}
use Rattle.std.proofs.Math.Option.{Option, some}
use Rattle.std.proofs.Math.ListN.{get_elem?}
use Rattle.lexical.specs.Lists.{picked, first, map_o, map_o_cond, or_else, none-some}
use Rattle.lexical.specs.Places.{All, In, Distinct}
use Rattle.lexical.specs.Tree.{is_fn, plain, scopes_in}
use Rattle.lexical.specs.Binders.{Target, Var, collect, unmarked}
use Rattle.lexical.specs.Module.{Entry, File, entry_var, module_vars, outer_of}
use Rattle.lexical.specs.Meaning.{owned, declares}
use Rattle.lexical.specs.Order.{steps, fn_blocks, all_names}
use Rattle.lexical.specs.State.{Event}
use Rattle.lexical.specs.Block.{called}
use Rattle.lexical.specs.First.{entry_slot, module_binding, module_bindings, start}
use Rattle.lexical.specs.Second.{rows, row_names, second}
use Rattle.lexical.specs.Third.{hand_in, outermost, resolved}
use Rattle.lexical.specs.Follow.{from_in, value_in, copied}
use Rattle.lexical.specs.Claims.{Titled, Homeward, OfLocal, name_view, source, Scoped, module_names}
use Rattle.lexical.proofs.Theory.Brought.{titled_all}
use Rattle.lexical.proofs.Theory.Chains.{Led, of_local, J2, Rowed, chains}
use Rattle.lexical.proofs.Theory.Declared.{RowOk, Passed, ChainOk, declared_ok}
use Rattle.lexical.proofs.Theory.Fine.{Fine}
use Rattle.lexical.proofs.Theory.Induct.{AllFn, Good, all_fn_map, all_fn_both}
use Rattle.lexical.proofs.Theory.Lead.{follow_lead}
use Rattle.lexical.proofs.Theory.Links.{Link, links, chain_in, chain_at, chain_head, link_heads, keys-links, covers_self, no_link, linked}
use Rattle.lexical.proofs.Theory.Means.{J1, Named1, means, source_in, home_in, source-merge, names_of}
use Rattle.lexical.proofs.Theory.Modules.{module_numbers, module_place}

start_fine : (chain : ℕ → List ℕ) (F : File) → Fine chain (start F)
unfolding start from_in value_in hand_in first map_o copied picked
start_fine chain F = record { clean = λ s k h. refl; unset = λ s k h. refl; newid = λ s i h. refl; handy = λ s i k b e. absurd (none-some refl e); once = λ s. tt; had = λ s i m e. m; shared = λ s i b e l. absurd (let h = module_numbers [] F.entries (module_vars F) i b e in let z : true ≡ false = sym l ∙ h.1 in let y : ◌≡◌ {A = ℕ} 0 1 = cc in omega arith) }

-- the Names of the module and of the functions, before walk three
abbrev pub before : File → List (ℕ × Option ℕ)
before F = module_names F ++ all_names (fn_blocks F.names F.root)

source_module : (n : ℕ) (taken : List ℕ) (es : List Entry) (vs : List Var) → source_in n (module_bindings taken es vs) ≡ source n vs
unfolding source_in source module_bindings module_binding first called map_o
source_module n taken es [] = refl
source_module n taken es (v ∷ vs) = map_o_cond _ (eqb v.name n) _ _ ∙ ap (cond (eqb v.name n) (some v.source)) (source_module n (entry_slot es taken ∷ taken) (drop 1 es) vs) ∙ sym (map_o_cond _ (eqb v.name n) _ _)

module_titles : (F : File) → map name_view (start F).named ≡ module_names F
unfolding start module_names module_vars
module_titles F = names_of (module_bindings [] F.entries (module_vars F)) (λ n. or_else (source n (map entry_var F.entries)) (declares n (collect F.names unmarked F.root))) (collect F.names unmarked F.root)
    (λ n. source_module n [] F.entries (module_vars F) ∙ source-merge n (map entry_var F.entries) (collect F.names unmarked F.root))

module_titled : (F : File) → Titled (start F) (start F).named
unfolding start
module_titled F = titled_all (start F) (module_bindings [] F.entries (module_vars F)) (collect F.names unmarked F.root)
    (λ n b e. let r = module_place n [] F.entries (module_vars F) b e in subst (λ i. get_elem? (module_bindings [] F.entries (module_vars F)) i ≡ some b) (omega (arith, r.2)) r.1)

module _ (F : File) (ok : Scoped F) where
  T : List Link
  T = links F.root plain 0 (0 ∷ [])

  pub around : ℕ → List ℕ
  around = chain_in T

  pub around_0 : around 0 ≡ 0 ∷ []
  unfolding around T chain_in chain_at
  around_0 = ap (chain_at 0) (no_link 0 T (λ m. ok.positive (subst (In 0) (keys-links F.root plain 0 (0 ∷ [])) m)))

  pub around_head : (t : ℕ) → (ss : List ℕ) × (around t ≡ t ∷ ss)
  unfolding around T
  around_head t = chain_head T (link_heads F.root plain 0 (0 ∷ [])) t

  chained : AllFn F.names (ChainOk around) F.root plain 0 0
  unfolding around T
  chained = linked F.names T F.root plain 0 0 (0 ∷ []) [] (sym around_0) (unfold Good is_fn in tt)
      (covers_self T (subst Distinct (sym (keys-links F.root plain 0 (0 ∷ []))) ok.distinct))

  pub seconded : Passed around (scopes_in F.root) (fn_blocks F.names F.root) ([], start F) (second F) × AllFn F.names (RowOk (second F).0 (second F).1) F.root plain 0 0
  unfolding second
  seconded = declared_ok around F.names F.root plain 0 0 ([], start F) chained ok.distinct (λ t m. unfold first in refl) (start_fine around F)

  row_at : (o s : ℕ) (ts : List Target) (r : RowOk (second F).0 (second F).1 o s ts) → rows (second F).0 s ≡ r.row.names
  unfolding rows row_names
  row_at o s ts r = ap row_names r.stands

  named : AllFn F.names (Named1 F.names (rows (second F).0) (outer_of F) (before F)) F.root plain 0 0
  named = all_fn_map F.names (RowOk (second F).0 (second F).1) (Named1 F.names (rows (second F).0) (outer_of F) (before F)) go F.root plain 0 0 seconded.1
    where
      go : (o s : ℕ) (ts : List Target) → RowOk (second F).0 (second F).1 o s ts → (n : ℕ) → home_in n (rows (second F).0 s) ≡ owned s (declares n ts)
      go o s ts r n = ap (home_in n) (row_at o s ts r) ∙ r.sources n

  pub told_all : J1 F.names (rows (second F).0) (outer_of F) (before F) (resolved F) (steps F.names F.root plain 0 [] true [])
  unfolding resolved outermost
  told_all = means F.names (rows (second F).0) (outer_of F) (before F) F.root outermost (second F).1 named refl refl refl (seconded.0.log ∙ (unfold start in refl))
      (seconded.0.titles ∙ ap (λ l. l ++ all_names (fn_blocks F.names F.root)) (module_titles F))

  rowed : AllFn F.names (Rowed F.names (rows (second F).0) (outer_of F) around (second F).1) F.root plain 0 0
  rowed = all_fn_map F.names _ (Rowed F.names (rows (second F).0) (outer_of F) around (second F).1) go F.root plain 0 0
      (all_fn_both F.names (ChainOk around) (RowOk (second F).0 (second F).1) F.root plain 0 0 chained seconded.1)
    where
      go : (o s : ℕ) (ts : List Target) → (around s ≡ s ∷ around o) × RowOk (second F).0 (second F).1 o s ts → Rowed F.names (rows (second F).0) (outer_of F) around (second F).1 o s ts
      go o s ts p = record { inner_of = p.0; at_homes = λ n b e. p.1.homes n b (subst (λ l. first (called n) l ≡ some b) (row_at o s ts p.1) e) }

  pub last : J2 F.names (rows (second F).0) (outer_of F) around (second F).1 (resolved F) (steps F.names F.root plain 0 [] true [])
  unfolding resolved outermost
  last = chains F.names (rows (second F).0) (outer_of F) around (second F).1 F.root outermost rowed refl refl around_0 seconded.0.fine
      (seconded.0.log ∙ (unfold start in refl)) (seconded.0.copies ∙ (unfold start in refl)) (seconded.0.titled (module_titled F))

  -- from the slot of a lookup's local the copies lead home
  pub homeward : All (λ (e : Event). OfLocal (Homeward (resolved F) e) e.found) (resolved F).log
  homeward j e q = of_local (Led (resolved F) e.name e.scopes) (Homeward (resolved F) e)
      (λ b k l. record { home = follow_lead (resolved F) e.scopes k b l.leads; known = l.known; named = l.named; is_local = l.is_local }) e.found (last.led j e q)
