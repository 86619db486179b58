-- A block from its beginning to its end: with no target it is the state before it; with all its targets it is what `lexical` makes of them.
use Rattle.std.specs.Prelude.{ℕ, suc, ◌+◌, ◌<◌, ◌≡◌, true, length, Result}
use Rattle.std.proofs.lemmas.Result.{MatchResult-weaker}
use Rattle.std.proofs.Math.Path.{refl, sym, ap, ap₂}
use Rattle.std.proofs.Common.{◌∙◌, true≢false, arith}
use mathlib.Core.List.{List, [], ◌∷◌, ◌++◌, map, append_assoc, append-nil}
use Rattle.std.proofs.Math.Option.{some}
use Rattle.std.proofs.Math.ListN.{get_elem?, length-append}
use Rattle.base.specs.UpTo.{at_behind}
use Rattle.lexical.specs.Lists.{place}
use Rattle.lexical.specs.Places.{map_o_some}
use Rattle.lexical.specs.Binders.{Target, Var, merge}
use Rattle.lexical.specs.State.{Binding, St}
use Rattle.lexical.specs.Block.{fresh, slot_for, new, add, bind, naming, block}
use Rattle.lexical.proofs.Theory.Slots.{fresh_at}
use Rattle.store.specs.declared.ids.State.{State}
use Rattle.store.specs.declared.ids.Full.{Full}
use Rattle.store.specs.Sections.{Mem}
use Rattle.store.specs.Meanings.{Range}
use Rattle.store.specs.Rel.{World, Rel, R, caps}
use Rattle.store.specs.Blocks.{BlockEnv, local_block, placed, placed_from, vars_of, bindings_of, slots_of, block_st, block_world, KnownAs, BlockFacts, InBlock, RB}
use Rattle.store.proofs.Laws.Placed.{placed_length}
use Rattle.target.specs.Placed.{placed_at}
use Rattle.target.specs.Blocks.{made_count}

-- ---- its bindings among all that are made

module _ (E : BlockEnv) (ts : List Target) (k : ℕ) (b : Binding) (e : get_elem? (bindings_of E ts) k ≡ some b) where
  pub block_stands : get_elem? (block_st E ts).made (length E.st.made + k) ≡ some b
  unfolding block_st
  block_stands = at_behind E.st.made (bindings_of E ts) k ∙ e

  is_placed : (v : Var) × (placed E k v ≡ b)
  is_placed = let r = map_o_some (placed E k) (get_elem? (vars_of E ts) k) b (sym (placed_at E (vars_of E ts) k) ∙ e) in (r.0, r.2)

  pub block-numbered : b.id ≡ E.first + k
  unfolding placed
  block-numbered = sym (ap (λ (x : Binding). x.id) is_placed.1)

  pub block_local : b.local ≡ E.local
  unfolding placed
  block_local = sym (ap (λ (x : Binding). x.local) is_placed.1)

  pub block_owner : b.owner ≡ E.scope
  unfolding placed
  block_owner = sym (ap (λ (x : Binding). x.owner) is_placed.1)

-- they are a stretch of them
pub block-range : (E : BlockEnv) (ts : List Target) → E.local ≡ true → Range (block_st E ts).made (bindings_of E ts) (length E.st.made) (length (block_st E ts).made)
block-range E ts l = record {
  end = made_count E ts ∙ ap (λ (n : ℕ). length E.st.made + n) (sym (placed_length E 0 (vars_of E ts)));
  within = omega arith;
  are = λ k b e. block_stands E ts k b e;
  locals = λ k b e. block_local E ts k b e ∙ l;
}

-- ---- a function's or a comprehension's block

-- a state with the bindings bs and their slots
abbrev grown : List Binding → St → St
grown bs st = record { made = st.made ++ bs; named = st.named; slots = st.slots ++ map (λ (b : Binding). slot_for b.owner b.slot b) bs; copies = st.copies; log = st.log }

more_slots : (s : ℕ) (b : Binding) (st : St) → fresh s (add s b st) ≡ suc (fresh s st)
unfolding add slot_for
more_slots s b st = fresh_at st.slots (slot_for s b.slot b)

grown-add : (b : Binding) (bs : List Binding) (st : St) → grown bs (add b.owner b st) ≡ grown (b ∷ bs) st
unfolding add
grown-add b bs st = rw (append_assoc st.made (b ∷ []) bs, append_assoc st.slots (slot_for b.owner b.slot b ∷ [])) refl

module _ (s : ℕ) (st₀ : St) where
  bind_placed : (k : ℕ) (vs : List Var) (st : St) → length st.made ≡ length st₀.made + k → fresh s st ≡ fresh s st₀ + k → bind s vs st ≡ (placed_from (local_block s st₀) k vs, grown (placed_from (local_block s st₀) k vs) st)
  unfolding bind placed_from placed local_block
  bind_placed k [] st e f = rw (append-nil st.made, append-nil st.slots) refl
  bind_placed k (v ∷ vs) st e f =
      let b = placed (local_block s st₀) k v in
      ap (λ (b : Binding). (b ∷ (bind s vs (add s b st)).0, (bind s vs (add s b st)).1)) here
      ∙ ap (λ (r : List Binding × St). (b ∷ r.0, r.1)) (bind_placed (suc k) vs (add s b st) (unfold add in omega (arith, length-append st.made (b ∷ []))) (omega (arith, more_slots s b st)))
      ∙ ap (λ (x : St). (b ∷ placed_from (local_block s st₀) (suc k) vs, x)) (grown-add b (placed_from (local_block s st₀) (suc k) vs) st)
    where
      here : new s v st ≡ placed (local_block s st₀) k v
      here = unfold new in ap₂ (λ m n. record { id = m; var = v; local = true; owner = s; slot = n }) e f

-- all its targets
pub block-is : (s : ℕ) (ts : List Target) (st : St) → block s ts st ≡ (bindings_of (local_block s st) ts, block_st (local_block s st) ts)
unfolding block naming block_st slots_of local_block
block-is s ts st = ap (λ (r : List Binding × St). (r.0, naming ts r.0 r.1)) (bind_placed s st 0 (merge [] ts) st (omega arith) (omega arith))

-- no target
pub block_none : (s : ℕ) (st : St) → block_st (local_block s st) [] ≡ st
unfolding block_st slots_of local_block placed_from merge
block_none s st = rw (append-nil st.made, append-nil st.named, append-nil st.slots) refl

pub facts_local : (W : World) (s : ℕ) (st : St) → s < 256 → BlockFacts W (local_block s st)
unfolding local_block
facts_local W s st h = record {
  first-is = refl;
  scope_small = h;
  scope_module = λ l. absurd (true≢false l);
  first_module = λ l. absurd (true≢false l);
  slot_local = λ _ k. refl;
  slot_module = λ l. absurd (true≢false l);
  slot_small = λ l. absurd (true≢false l);
}

module _ {W : World} {env : List Binding} {ss : List ℕ} {s : Result State Full} {m : Mem} (k : ℕ) (st : St) where
  -- it begins
  pub opens : k < 256 → R W env ss st s m → RB W env ss (local_block k st) [] s m
  opens h r = record { over = MatchResult-weaker s r.over (λ _ _. tt) (λ _ o. rw block_none o); rel = MatchResult-weaker s r.rel go (λ _ _. tt) }
    where
      go : (v : State) → Rel W env ss (caps st) st v m → InBlock W env ss (local_block k st) [] v m
      go v q = record {
        facts = facts_local W k st h;
        around = unfold local_block in q.around;
        ranges = unfold local_block in q.ranges;
        settled = unfold local_block in q.settled;
        rel = rw block_none (unfold local_block block_world in q);
        known = λ _ n b. unfold local_block KnownAs place merge in q.scratch n b;
      }

  -- it ends
  pub closes : (ts : List Target) → RB W env ss (local_block k st) ts s m → R W env ss (block k ts st).1 s m
  closes ts r = rw (block-is k ts st) (record { over = r.over; rel = MatchResult-weaker s r.rel (λ _ q. unfold local_block block_world block_st in q.rel) (λ _ _. tt) })
