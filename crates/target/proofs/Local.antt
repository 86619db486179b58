-- A new local: a binding, a fresh slot of its scope, and the Name's record.
use Prim.Native.Nat.{ℕ, ◌+◌, ◌<◌, ◌≤◌}
use mathlib.Core.Path.{◌≡◌, refl, sym, ◌∙◌}
use mathlib.Core.Bool.{Bool, true, false, cond}
use mathlib.Core.List.{List, [], ◌∷◌, ◌++◌}
use mathlib.Core.Option.{none}
use native.Mathlib.Omega.{arith}
use lib.ListN.{length, get_or, set, length-set}
use Rattle.lexical.specs.Lists.{place}
use Rattle.lexical.specs.Binders.{Target, new_var}
use Rattle.lexical.specs.State.{Binding}
use Rattle.lexical.specs.Block.{slot_for}
use Rattle.lexical.specs.Records.{bit}
use Rattle.answer.specs.Records.{scope_slots}
use Rattle.std.specs.Prelude.{Ok}
use Rattle.store.proofs.Laws.Lengths.{Lent, lent_kept}
use Rattle.store.specs.declared.ids.State.{State}
use Rattle.store.specs.Sections.{mem}
use Rattle.store.specs.Words.{binding_word, answer_word, pair_word, more_word}
use Rattle.store.specs.Image.{MadeIn, SlotsIn}
use Rattle.store.specs.Rel.{World, caps}
use Rattle.store.specs.Blocks.{BlockEnv, titles, placed, vars_of, block_st, KnownAs, InBlock, RB}
use Rattle.store.proofs.Laws.Made.{made_skip, made_push}
use Rattle.store.proofs.Laws.Slots.{slots_skip_w, slots_skip_t, slots_push, fresh_read, fresh_few}
use Rattle.store.proofs.Laws.Copied.{copies_skip, errors_skip}
use Rattle.store.proofs.Laws.Nodes.{nodes_skip}
use Rattle.target.specs.Target.{a_target, Fresh, FreshDone}
use Rattle.target.specs.Blocks.{fresh-count, slots_count, made_new, slots_new}
use Rattle.target.proofs.Kept.{Outside, outside_skip, Table, table_skip, table_set, Listed, parts, whole, nodes_target}
use Rattle.target.proofs.New.{id_after, slot_after, one_local, new-number, new_here, new_vars, new-place, new_many, new_free, new_sound, listed_other}

-- the lists after it: `put_answer` and `put_slot`; `put_known`, `put_owner` and `link_slot`
abbrev pub local_w : ℕ → ℕ → ℕ → ℕ → ℕ → ℕ → ℕ → List ℕ → List ℕ
local_w name at scope k class num id w =
    let w₁ = set w at (answer_word class num id) in
    set (set w₁ (2048 + k) (pair_word scope name)) (12288 + scope) (more_word (get_or w₁ (12288 + scope) 0))

abbrev pub local_t : ℕ → ℕ → ℕ → ℕ → ℕ → List ℕ → List ℕ
local_t name scope k num id t =
    let t₂ = set (set t (4096 + name) (id + 1)) (7424 + id) scope in
    set (set (set t₂ (16640 + k) num) (12544 + k) (get_or t₂ (9728 + id) 0)) (9728 + id) (k + 1)

module _ {W : World} {env : List Binding} {ss : List ℕ} {E : BlockEnv} {ts : List Target} {s : State} {binds w t : List ℕ} (r : InBlock W env ss E ts s (mem binds w t))
    (x : Target) (new : place x.name (titles (vars_of E ts)) ≡ none) (l : E.local ≡ true) where
  -- the next slot of its scope: `fresh_slot`
  pub local_slot : scope_slots (get_or w (12288 + E.scope) 0) ≡ slot_after E ts
  local_slot = fresh_read (parts r).slots E.scope r.facts.scope_small ∙ fresh-count E l ts ∙ sym (r.facts.slot_local l (length (vars_of E ts)))

  pub local_few : s.slots < 4096 → slot_after E ts < 4096
  local_few h = omega (arith, r.facts.slot_local l (length (vars_of E ts)), fresh-count E l ts, fresh_few E.scope (block_st E ts).slots, (parts r).slots_are)

  module _ (long : Lent (mem binds w t)) (name : x.name < 1024) (node : x.node < 2048) (id-few : id_after E ts < 2304) (k-few : s.slots < 4096) where
    -- the lists on the way
    abbrev w₁ : List ℕ
    w₁ = set w x.node (answer_word (cond E.local 2 1) (slot_after E ts) (id_after E ts))

    abbrev w₂ : List ℕ
    w₂ = set w₁ (2048 + s.slots) (pair_word E.scope x.name)

    abbrev t₁ : List ℕ
    t₁ = set t (4096 + x.name) (id_after E ts + 1)

    long₁ : Lent (mem binds w₁ t₁)
    long₁ = lent_kept long (record { binds = refl; w = length-set w _ _; t = length-set t _ _ })

    made : MadeIn (block_st E (ts ++ (x ∷ []))).made (caps E.st) (set binds (id_after E ts) (binding_word x.name x.node (bit false) (bit x.public) (bit x.any) 0 (bit E.local) (slot_after E ts))) (local_t x.name E.scope s.slots (slot_after E ts) (id_after E ts) t)
    unfolding placed new_var
    made = rw (made_new E ts x new)
        (made_skip (made_skip (made_skip
        (made_push (made_skip (parts r).made _ _ (omega arith)) long₁.binds long₁.t (id_after E ts) _ (new_here r x new) id-few
        (new_sound r x new name node (omega (arith, local_few k-few)) (λ _. local_few k-few)) (new_free r x new))
        _ _ (omega arith)) _ _ (omega arith)) _ _ (omega arith))

    slots : SlotsIn (block_st E (ts ++ (x ∷ []))).slots W.P (local_w x.name x.node E.scope s.slots (cond E.local 2 1) (slot_after E ts) (id_after E ts) w) (local_t x.name E.scope s.slots (slot_after E ts) (id_after E ts) t)
    unfolding slot_for placed new_var
    slots = rw (slots_new E ts x new l)
        (slots_push (slots_skip_t (slots_skip_t (slots_skip_w (parts r).slots _ _ (omega arith) (omega arith)) _ _ (omega arith) (omega arith)) _ _ (omega arith) (omega arith))
        long₁.w
        (length-set t₁ (7424 + id_after E ts) E.scope ∙ long₁.t)
        (slot_for E.scope (slot_after E ts) (placed E (length (vars_of E ts)) (new_var x))) s.slots (parts r).slots_are k-few
        (r.facts.slot_local l (length (vars_of E ts)) ∙ sym (fresh-count E l ts)) r.facts.scope_small (omega arith) id-few)

    here : Listed E (ts ++ (x ∷ [])) x.name (id_after E ts + 1)
    here = (omega (arith, new_here r x new, new_many r x new), λ _. rw (new-place r x new) (unfold KnownAs in refl))

    table : Table (Listed E (ts ++ (x ∷ []))) (local_t x.name E.scope s.slots (slot_after E ts) (id_after E ts) t)
    table = table_skip _ _ (omega arith) (table_skip _ _ (omega arith) (table_skip _ _ (omega arith) (table_skip _ _ (omega arith)
        (table_set x.name (id_after E ts + 1) name long.t here (listed_other r x new) (parts r).table))))

    outside : Outside W.F W.mods W.D env ss E.st.made s.level (local_t x.name E.scope s.slots (slot_after E ts) (id_after E ts) t)
    outside = outside_skip _ _ few (omega arith) (omega arith) (omega arith) (omega arith) (outside_skip _ _ few (omega arith) (omega arith) (omega arith) (omega arith)
        (outside_skip _ _ few (omega arith) (omega arith) (omega arith) (omega arith) (outside_skip _ _ few (omega arith) (omega arith) (omega arith) (omega arith)
        (outside_skip _ _ few (omega arith) (omega arith) (omega arith) (omega arith) (rw l at (parts r).outside)))))
      where
        few : length E.st.made ≤ 2304
        few = omega (arith, r.facts.first-is)

    pub local_made : InBlock W env ss E (ts ++ (x ∷ [])) (one_local s)
        (mem (set binds (id_after E ts) (binding_word x.name x.node (bit false) (bit x.public) (bit x.any) 0 (bit E.local) (slot_after E ts)))
        (local_w x.name x.node E.scope s.slots (cond E.local 2 1) (slot_after E ts) (id_after E ts) w) (local_t x.name E.scope s.slots (slot_after E ts) (id_after E ts) t))
    local_made =
        let p = parts r in
        let scope = r.facts.scope_small in
        whole r x refl refl
        (record {
          outside = rw l outside;
          made = made;
          slots = slots;
          copies = copies_skip (copies_skip (copies_skip p.copies _ _ (omega arith)) _ _ (omega arith)) _ _ (omega arith);
          errors = errors_skip (errors_skip (errors_skip p.errors _ _ (omega arith)) _ _ (omega arith)) _ _ (omega arith);
          nodes = nodes_skip W.M _ E.st.log w₂ (nodes_skip W.M _ E.st.log w₁ (nodes_target W.M E ts x (length (vars_of E ts)) w long.w node (new-place r x new) p.nodes) _ _ (omega arith)) _ _ (omega arith);
          bindings_are = omega (arith, p.bindings_are, new_many r x new);
          slots_are = omega (arith, p.slots_are, slots_count E l ts, slots_count E l (ts ++ (x ∷ [])), new_vars r x new);
          table = table;
        })

-- ---- `new_local`

module _ {name at scope : ℕ} {s : State} {binds w t : List ℕ} (g : Fresh name at scope true s (mem binds w t)) where
  pub slot_is : (num : ℕ) → num ≡ scope_slots (get_or w (12288 + scope) 0) → num ≡ slot_after g.E g.ts
  slot_is num e = e ∙ (rw (← g.scope_is) (local_slot g.rel (a_target at name true true) g.unknown g.local_is))

  pub slot_few : (num : ℕ) → s.slots < 4096 → num ≡ scope_slots (get_or w (12288 + scope) 0) → num < 4096
  slot_few num h e = rw (slot_is num e) (local_few g.rel (a_target at name true true) g.unknown g.local_is h)

pub local_done : {name at scope : ℕ} {any public : Bool} {s : State} {binds w t binds' w₁ w' t₁ t₂ t' : List ℕ} (num : ℕ) → Lent (mem binds w t) → s.bindings < 2304 → s.slots < 4096
    → num ≡ scope_slots (get_or w (12288 + scope) 0)
    → binds' ≡ set binds s.bindings (binding_word name at (bit false) (bit public) (bit any) 0 (bit true) num)
    → w₁ ≡ set w at (answer_word 2 num s.bindings)
    → w' ≡ set (set w₁ (2048 + s.slots) (pair_word scope name)) (12288 + scope) (more_word (get_or w₁ (12288 + scope) 0))
    → t₁ ≡ set t (4096 + name) (s.bindings + 1)
    → t₂ ≡ set t₁ (7424 + s.bindings) scope
    → t' ≡ set (set (set t₂ (16640 + s.slots) num) (12544 + s.slots) (get_or t₂ (9728 + s.bindings) 0)) (9728 + s.bindings) (s.slots + 1)
    → FreshDone name at scope true any public s (mem binds w t) (Ok (one_local s)) (mem binds' w' t')
local_done {name} {at} {scope} {any} {public} {s} {binds} {w} {t} {binds'} {w₁} {w'} {t₁} {t₂} {t'} num long id-few k-few n b a p k o q = record { right = λ g. go g }
  where
    go : (g : Fresh name at scope true s (mem binds w t))
        → RB g.W g.env g.ss g.E (g.ts ++ (a_target at name any public ∷ [])) (Ok (one_local s)) (mem binds' w' t')
    go g =
        record {
          over = tt;
          rel = rw (binds_are, w_are, t_are) (local_made g.rel x g.unknown g.local_is long g.small g.node (omega (arith, id_is)) k-few);
        }
      where
        x : Target
        x = a_target at name any public

        id_is : s.bindings ≡ id_after g.E g.ts
        id_is = new-number g.rel x g.unknown

        num_is : num ≡ slot_after g.E g.ts
        num_is = slot_is g num n

        binds_are : binds' ≡ set binds (id_after g.E g.ts) (binding_word name at (bit false) (bit public) (bit any) 0 (bit g.E.local) (slot_after g.E g.ts))
        binds_are = b ∙ (rw (id_is, num_is, g.local_is) refl)

        w_are : w' ≡ local_w name at g.E.scope s.slots (cond g.E.local 2 1) (slot_after g.E g.ts) (id_after g.E g.ts) w
        w_are = p ∙ (rw (a, id_is, num_is, g.local_is, g.scope_is) refl)

        t_are : t' ≡ local_t name g.E.scope s.slots (slot_after g.E g.ts) (id_after g.E g.ts) t
        t_are = q ∙ (rw (o, k, id_is, num_is, g.scope_is) refl)
