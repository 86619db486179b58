-- A name that the block has: its binding is bound again, and the Name gets its record.
use Prim.Native.Nat.{ℕ, ◌+◌, ◌<◌, ◌≤◌}
use mathlib.Core.Path.{◌≡◌, refl, ap, ◌∙◌}
use mathlib.Core.Bool.{Bool, true, cond}
use mathlib.Core.List.{List, [], ◌∷◌, ◌++◌}
use mathlib.Core.Option.{some}
use native.Mathlib.Omega.{arith}
use lib.ListN.{length, get_or, set, get_elem?, length-set}
use Rattle.lexical.specs.Lists.{place}
use Rattle.lexical.specs.Binders.{Target, Var, again}
use Rattle.lexical.specs.State.{Binding}
use Rattle.answer.specs.Records.{binding_slot}
use Rattle.std.specs.Prelude.{Ok}
use Rattle.store.specs.declared.ids.State.{State}
use Rattle.store.specs.Sections.{mem}
use Rattle.store.specs.Words.{answer_word, again_word}
use Rattle.store.specs.Image.{MadeIn}
use Rattle.store.specs.Rel.{World, caps}
use Rattle.store.specs.Blocks.{BlockEnv, titles, placed, vars_of, block_st, InBlock, RB}
use Rattle.store.proofs.Laws.Made.{bound_again, made_few, made_slot, made_again}
use Rattle.store.proofs.Laws.Slots.{slots_skip_w}
use Rattle.store.proofs.Laws.Copied.{copies_skip, errors_skip}
use Rattle.target.specs.Target.{a_target, Again, AgainDone}
use Rattle.target.specs.Noted.{place_var, titles_known}
use Rattle.target.specs.Blocks.{made_count, vars_known, made_known, made_replaced, slots_known}
use Rattle.target.proofs.Kept.{parts, whole, nodes_target}

module _ {W : World} {env : List Binding} {ss : List ℕ} {E : BlockEnv} {ts : List Target} {s : State} {binds w t : List ℕ} (r : InBlock W env ss E ts s (mem binds w t))
    (x : Target) (k : ℕ) (known : place x.name (titles (vars_of E ts)) ≡ some k) where
  -- the variable, and its binding
  v : Var
  v = (place_var x.name (vars_of E ts) k known).0

  at : get_elem? (vars_of E ts) k ≡ some v
  unfolding v
  at = (place_var x.name (vars_of E ts) k known).1

  stands : get_elem? (block_st E ts).made (E.first + k) ≡ some (placed E k v)
  stands = made_known E ts x k v known at r.facts.first-is

  pub renewed_few : E.first + k < 2304
  renewed_few = made_few r.rel.image.made (E.first + k) _ stands

  same_titles : titles (vars_of E (ts ++ (x ∷ []))) ≡ titles (vars_of E ts)
  same_titles = ap titles (vars_known E ts x k v known at) ∙ titles_known x (vars_of E ts) k v at

  same_many : length (block_st E (ts ++ (x ∷ []))).made ≡ length (block_st E ts).made
  same_many = let e : length (vars_of E (ts ++ (x ∷ []))) ≡ length (vars_of E ts) = ap length (vars_known E ts x k v known at) ∙ length-set (vars_of E ts) k (again x v) in
      omega (arith, made_count E ts, made_count E (ts ++ (x ∷ [])))

  module _ (long : 2304 ≤ length binds) (long_w : length w ≡ 12544) (node : x.node < 2048) where
    made : MadeIn (block_st E (ts ++ (x ∷ []))).made (caps E.st) (set binds (E.first + k) (again_word x.public (get_or binds (E.first + k) 0))) t
    made = made_again r.rel.image.made long (E.first + k) (placed E k v) x.public _ stands (made_replaced E ts x k v known at r.facts.first-is)

    -- its slot, as it is read again
    pub renewed_slot : binding_slot (get_or (set binds (E.first + k) (again_word x.public (get_or binds (E.first + k) 0))) (E.first + k) 0) ≡ E.slot_at k
    unfolding placed
    renewed_slot = made_slot made (E.first + k) (bound_again x.public (placed E k v)) (made_replaced E ts x k v known at r.facts.first-is).here

    pub renewed : InBlock W env ss E (ts ++ (x ∷ [])) s (mem (set binds (E.first + k) (again_word x.public (get_or binds (E.first + k) 0))) (set w x.node (answer_word (cond E.local 2 1) (E.slot_at k) (E.first + k))) t)
    renewed =
        let p = parts r in
        whole r x refl refl
        (record {
          outside = rw same_titles p.outside;
          made = made;
          slots = rw (slots_known E ts x k v known at) (slots_skip_w p.slots _ _ (omega arith) (omega arith));
          copies = copies_skip p.copies _ _ (omega arith);
          errors = errors_skip p.errors _ _ (omega arith);
          nodes = nodes_target W.M E ts x k w long_w node (rw same_titles known) p.nodes;
          bindings_are = omega (arith, p.bindings_are, same_many);
          slots_are = rw (slots_known E ts x k v known at) p.slots_are;
          table = record { of = λ n b. rw (same_many, same_titles) (p.table.of n b) };
        })

-- ---- `bind_again`

pub again_few : {id at : ℕ} {local : Bool} {s : State} {binds w : List ℕ} → Again id at local s binds w → id < 2304
again_few {at = at} g = let n = g.number in omega (arith, renewed_few g.rel (a_target at g.name true true) g.k g.known)

pub again-done : {id at : ℕ} {local public : Bool} {s : State} {binds w binds' w' : List ℕ} (class slot : ℕ) → 2304 ≤ length binds → length w ≡ 12544
    → binds' ≡ set binds id (again_word public (get_or binds id 0)) → class ≡ cond local 2 1 → slot ≡ binding_slot (get_or binds' id 0) → w' ≡ set w at (answer_word class slot id)
    → AgainDone id at local public s binds w binds' w'
again-done {id} {at} {local} {public} {s} {binds} {w} {binds'} {w'} class slot long long_w b c l a = record { right = λ g any. go g any }
  where
    go : (g : Again id at local s binds w) (any : Bool) → RB g.W g.env g.ss g.E (g.ts ++ (a_target at g.name any public ∷ [])) (Ok s) (mem binds' w' g.t)
    go g any =
        record {
          over = tt;
          rel = rw (b', a') (renewed g.rel x g.k g.known long long_w g.node);
        }
      where
        x : Target
        x = a_target at g.name any public

        b' : binds' ≡ set binds (g.E.first + g.k) (again_word public (get_or binds (g.E.first + g.k) 0))
        b' = b ∙ ap (λ (i : ℕ). set binds i (again_word public (get_or binds i 0))) g.number

        l' : slot ≡ g.E.slot_at g.k
        l' = l ∙ ap (λ (i : ℕ). binding_slot (get_or binds' i 0)) g.number ∙ (rw b' (renewed_slot g.rel x g.k g.known long long_w g.node))

        a' : w' ≡ set w at (answer_word (cond g.E.local 2 1) (g.E.slot_at g.k) (g.E.first + g.k))
        a' = a ∙ (rw (c, g.local_is, l', g.number) refl)
