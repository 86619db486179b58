-- The module's block from its beginning to its end: its entries, and then what `lexical` makes of all its targets.
use Prim.Native.Nat.{ℕ, zero, suc, ◌+◌, ◌<◌, ◌≤◌}
use Rattle.std.specs.Prelude.{◌≡◌, false, length, get_or, drop, Result}
use Rattle.std.proofs.lemmas.Result.{MatchResult-weaker}
use Rattle.std.proofs.Math.Path.{refl, ap, ap₂}
use Rattle.std.proofs.Common.{sym, ◌∙◌, true≢false}
use mathlib.Core.List.{List, [], ◌∷◌, ◌++◌, map}
use Rattle.std.proofs.Math.Option.{some}
use native.Mathlib.Omega.{arith}
use Rattle.std.proofs.Math.Nat.{zero-add}
use Rattle.std.proofs.Math.ListN.{get_elem?}
use Rattle.std.proofs.lemmas.List.{length-map}
use Rattle.lexical.specs.Lists.{none-some}
use Rattle.lexical.specs.Binders.{Var, collect, unmarked, merge}
use Rattle.lexical.specs.Module.{Entry, File, entry_var, module_vars}
use Rattle.lexical.specs.State.{Binding, Named, St}
use Rattle.lexical.specs.Block.{name_of}
use Rattle.lexical.specs.Records.{answers}
use Rattle.lexical.specs.First.{next_slot, entry_slot, module_binding, module_bindings, start}
use Rattle.store.specs.declared.ids.State.{State}
use Rattle.store.specs.declared.ids.Full.{Full}
use Rattle.store.specs.Sections.{Mem}
use Rattle.store.specs.Image.{RowOf, name_row_lem, ident_row, HeldAt, held, none-held, NodesIn}
use Rattle.store.specs.Meanings.{EnvIn, RangesIn}
use Rattle.store.specs.Rel.{World, Rel, R, caps}
use Rattle.store.specs.Blocks.{titles, module_slot, nothing, module_block, placed, placed_from, slots_of, block_st, block_world, BlockFacts, InBlock, RB}

module _ (F : File) where
  bindings_placed : (k : ℕ) (taken : List ℕ) (es : List Entry) (vs : List Var) → length taken ≡ k → ((i : ℕ) → module_slot [] F.entries (k + i) ≡ module_slot taken es i)
      → module_bindings taken es vs ≡ placed_from (module_block F) k vs
  unfolding module_bindings placed_from
  bindings_placed k taken es [] e f = refl
  bindings_placed k taken es (v ∷ vs) e f = ap₂ (λ (b : Binding) (l : List Binding). b ∷ l) here (bindings_placed (suc k) (entry_slot es taken ∷ taken) (drop 1 es) vs (ap suc e) next)
    where
      slot : module_slot [] F.entries k ≡ entry_slot es taken
      slot = let z : k + 0 ≡ k = omega arith in (rw z at (f 0)) ∙ (unfold module_slot in refl)

      here : module_binding (length taken) v (entry_slot es taken) ≡ placed (module_block F) k v
      here = unfold module_binding placed module_block in ap₂ (λ (m n : ℕ). record { id = m; var = v; local = false; owner = 0; slot = n }) (omega arith) (sym slot)

      next : (i : ℕ) → module_slot [] F.entries (suc k + i) ≡ module_slot (entry_slot es taken ∷ taken) (drop 1 es) i
      next i = let z : suc k + i ≡ k + suc i = omega arith in rw z (unfold module_slot in f (suc i))

  -- all its targets
  pub start_is : start F ≡ block_st (module_block F) (collect F.names unmarked F.root)
  unfolding start block_st slots_of module_block nothing module_vars
  start_is = ap (λ (bs : List Binding). record { made = bs; named = map (name_of bs) (collect F.names unmarked F.root); slots = []; copies = []; log = [] }) (bindings_placed 0 [] F.entries (module_vars F) refl (λ i. rw zero-add refl))

  -- no target: the entries
  pub module_none : block_st (module_block F) [] ≡ record { made = module_bindings [] F.entries (map entry_var F.entries); named = []; slots = []; copies = []; log = [] }
  unfolding block_st slots_of module_block nothing merge
  module_none = ap (λ (bs : List Binding). record { made = bs; named = []; slots = []; copies = []; log = [] }) (sym (bindings_placed 0 [] F.entries (map entry_var F.entries) refl (λ i. rw zero-add refl)))

-- one entry more
pub entries_snoc : (taken : List ℕ) (es : List Entry) (e : Entry)
    → module_bindings taken (es ++ (e ∷ [])) (map entry_var (es ++ (e ∷ []))) ≡ module_bindings taken es (map entry_var es) ++ (module_binding (length taken + length es) (entry_var e) e.slot ∷ [])
unfolding module_bindings entry_slot
entries_snoc taken [] e = let z : length taken + 0 ≡ length taken = omega arith in rw z refl
entries_snoc taken (x ∷ es) e = let z : suc (length taken) + length es ≡ length taken + suc (length es) = omega arith in
    rw (← z) (ap (λ (l : List Binding). module_binding (length taken) (entry_var x) x.slot ∷ l) (entries_snoc (x.slot ∷ taken) es e))

slot_past : (taken : List ℕ) (es : List Entry) (k : ℕ) → length es ≤ k → module_slot taken es k ≡ length taken + k
unfolding module_slot entry_slot next_slot
slot_past taken [] zero h = omega arith
slot_past taken [] (suc k) h = slot_past (length taken ∷ taken) [] k (omega arith) ∙ omega arith
slot_past taken (e ∷ es) zero h = absurd (omega arith)
slot_past taken (e ∷ es) (suc k) h = slot_past (e.slot ∷ taken) es k (omega arith) ∙ omega arith

slot_few : (taken : List ℕ) (es : List Entry) (k : ℕ) → ((i : ℕ) (e : Entry) → get_elem? es i ≡ some e → e.slot < 32768) → length taken + k < 32768 → module_slot taken es k < 32768
unfolding module_slot entry_slot next_slot
slot_few taken [] zero f h = omega arith
slot_few taken [] (suc k) f h = slot_few (length taken ∷ taken) [] k f (omega arith)
slot_few taken (e ∷ es) zero f h = f 0 e refl
slot_few taken (e ∷ es) (suc k) f h = slot_few (e.slot ∷ taken) es k (λ i x q. f (suc i) x q) (omega arith)

pub facts_module : (W : World) (F : File) → ((i : ℕ) (e : Entry) → get_elem? F.entries i ≡ some e → e.slot < 32768) → BlockFacts W (module_block F)
unfolding module_block nothing
facts_module W F f = record {
  first-is = refl;
  scope_small = omega arith;
  scope_module = λ _. refl;
  first_module = λ _. refl;
  slot_local = λ l. absurd (true≢false (sym l));
  slot_module = λ _ k h. slot_past [] F.entries k (omega (arith, length-map F.entries entry_var)) ∙ zero-add k;
  slot_small = λ _ k h. slot_few [] F.entries k f (omega arith);
}

-- ---- it begins and ends

-- while it is collected the module's bindings are not settled; then they are
abbrev pub unsettled : File → List ℕ → (ℕ → List Binding) → (ℕ → ℕ) → World
unsettled F mods D P = record { F = F; M = []; mods = mods; D = D; P = P }

abbrev pub settled : File → (ℕ → List Binding) → (ℕ → ℕ) → World
settled F D P = record { F = F; M = (start F).made; mods = titles (module_vars F); D = D; P = P }

-- nothing is looked up yet: the nodes' rows are the Names' alone
nodes_early : (M M' : List Binding) (named : List Named) (w : List ℕ) → NodesIn M named [] w → NodesIn M' named [] w
unfolding answers
nodes_early M M' named w n i b = go (n i b)
  where
    old : (N N' : List Binding) (row : List ℕ) → RowOf N named [] row → RowOf N' named [] row
    old N N' row (name_row_lem j x e p) = name_row_lem j x e p
    old N N' row (ident_row j e) = ident_row j e

    go : HeldAt (RowOf M named []) i (get_or w i 0) → HeldAt (RowOf M' named []) i (get_or w i 0)
    go (held row q e x) = held row (old M M' row q) e x
    go (none-held f x) = none-held (λ row q. f row (old M' M row q)) x

module _ (F : File) (mods : List ℕ) (D : ℕ → List Binding) (P : ℕ → ℕ) {env : List Binding} {ss : List ℕ} {m : Mem} where
  -- after the entries
  pub module_opens : {s : State} → ((i : ℕ) (e : Entry) → get_elem? F.entries i ≡ some e → e.slot < 32768) → EnvIn env ss [] s.level m.t → RangesIn D [] m.t
      → Rel (block_world (unsettled F mods D P) (module_block F) []) env ss (caps nothing) (block_st (module_block F) []) s m → InBlock (unsettled F mods D P) env ss (module_block F) [] s m
  unfolding module_block
  module_opens f a g q = record {
    facts = facts_module (unsettled F mods D P) F f;
    around = unfold nothing in a;
    ranges = unfold nothing in g;
    settled = λ i b e. absurd (none-some refl e);
    rel = q;
    known = λ l. absurd (true≢false (sym l));
  }

  -- after all its targets
  pub module_closes : {s : Result State Full} → RB (unsettled F mods D P) env ss (module_block F) (collect F.names unmarked F.root) s m → R (settled F D P) env ss (start F) s m
  unfolding block_st block_world module_block module_vars nothing
  module_closes {s} r = rw (start_is F) (record { over = r.over; rel = MatchResult-weaker s r.rel (λ v q. go v q.rel) (λ _ _. tt) })
    where
      st : St
      st = block_st (module_block F) (collect F.names unmarked F.root)

      go : (v : State) → Rel (block_world (unsettled F mods D P) (module_block F) (collect F.names unmarked F.root)) env ss (caps nothing) st v m → Rel (record { F = F; M = st.made; mods = titles (module_vars F); D = D; P = P }) env ss (caps st) st v m
      go v q =
          let i = q.image in
          record {
            image = record {
              made = i.made;
              slots = i.slots;
              copies = i.copies;
              errors = i.errors;
              nodes = nodes_early [] st.made st.named m.w i.nodes;
              bindings_are = i.bindings_are;
              slots_are = i.slots_are;
              copies_are = i.copies_are;
              errors_are = i.errors_are;
              copies_fit = i.copies_fit;
              log_below = i.log_below;
            };
            around = q.around;
            names = q.names;
            ranges = q.ranges;
            scratch = q.scratch;
            settled = λ i b e. e;
          }
