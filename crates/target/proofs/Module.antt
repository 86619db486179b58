-- A new name of the module: a binding, the next slot of the module, and the Name's record.
use Prim.Native.Nat.{ℕ, ◌+◌, ◌<◌, ◌≤◌}
use mathlib.Core.Path.{◌≡◌, refl, sym, ap, ◌∙◌}
use mathlib.Core.Bool.{Bool, false, cond, true≢false}
use mathlib.Core.List.{List, [], ◌∷◌, ◌++◌}
use mathlib.Core.Option.{none}
use native.Mathlib.Omega.{arith}
use lib.ListN.{length, set, length-set, length-map}
use lib.Seq.{set-get_or}
use Rattle.lexical.specs.Lists.{place}
use Rattle.lexical.specs.Binders.{Target, Var, new_var}
use Rattle.lexical.specs.State.{Binding}
use Rattle.lexical.specs.Records.{bit}
use Rattle.std.specs.Prelude.{Ok}
use Rattle.store.proofs.Laws.Lengths.{Lent}
use Rattle.store.specs.declared.ids.State.{State}
use Rattle.store.specs.Sections.{mem, or_zero}
use Rattle.store.specs.Words.{binding_word, answer_word}
use Rattle.store.specs.Image.{Sound, MadeIn}
use Rattle.store.specs.Rel.{World, caps}
use Rattle.store.specs.Blocks.{BlockEnv, titles, placed, vars_of, block_st, InBlock, RB}
use Rattle.store.proofs.Laws.Points.{past}
use Rattle.store.proofs.Laws.Made.{made_skip, made_push}
use Rattle.store.proofs.Laws.Slots.{slots_skip_w, slots_skip_t}
use Rattle.store.proofs.Laws.Copied.{copies_skip, errors_skip}
use Rattle.store.proofs.Laws.Around.{env_skip}
use Rattle.store.proofs.Laws.Names.{names_push, ranges_skip}
use Rattle.target.specs.Target.{a_target, Fresh, FreshDone}
use Rattle.target.specs.Noted.{merge-length}
use Rattle.target.specs.Blocks.{made_new, slots_module}
use Rattle.target.proofs.Kept.{Outside, Table, table_skip, Listed, parts, whole, nodes_target}
use Rattle.target.proofs.New.{id_after, slot_after, one_module, new-number, new_here, new-titles, new-place, new_many, new_free, new_sound}

-- a binding more whose owner is the module: its place among the owners is 0 already
made_plain : {bs : List Binding} {cap : ℕ → Bool} {binds t : List ℕ} (m : MadeIn bs cap binds t) → 2304 ≤ length binds → length t ≡ 20864 → (i : ℕ) (b : Binding) → i ≡ length bs → i < 2304 → Sound i b → cap i ≡ false → b.owner ≡ 0
    → MadeIn (bs ++ (b ∷ [])) cap (set binds i (binding_word b.var.name b.var.source (bit b.var.entry) (bit b.var.public) (bit b.var.any) 0 (bit b.local) b.slot)) t
unfolding or_zero
made_plain {bs} {cap} {binds} {t} m long long-t i b e h s c o = rw same at (made_push m long long-t i b e h s c)
  where
    same : set t (7424 + i) b.owner ≡ t
    same = ap (set t (7424 + i)) (o ∙ sym (m.owners i h ∙ (rw (past bs i (omega arith)) refl))) ∙ set-get_or t (7424 + i) 0

module _ {W : World} {env : List Binding} {ss : List ℕ} {E : BlockEnv} {ts : List Target} {s : State} {binds w t : List ℕ} (r : InBlock W env ss E ts s (mem binds w t))
    (x : Target) (new : place x.name (titles (vars_of E ts)) ≡ none) (l : E.local ≡ false) where
  -- its slot is its number
  pub module_slot_lem : slot_after E ts ≡ id_after E ts
  module_slot_lem = omega (arith, r.facts.slot_module l (length (vars_of E ts)) (merge-length E.vars ts), r.facts.first_module l)

  module _ (long : Lent (mem binds w t)) (name : x.name < 1024) (node : x.node < 2048) (id-few : id_after E ts < 2304) where
    made : MadeIn (block_st E (ts ++ (x ∷ []))).made (caps E.st) (set binds (id_after E ts) (binding_word x.name x.node (bit false) (bit x.public) (bit x.any) 0 (bit E.local) (slot_after E ts))) (set t (1024 + x.name) (id_after E ts + 1))
    unfolding placed new_var
    made = rw (made_new E ts x new)
        (made_plain (made_skip (parts r).made _ _ (omega arith)) long.binds (length-set t (1024 + x.name) (id_after E ts + 1) ∙ long.t) (id_after E ts) (placed E (length (vars_of E ts)) (new_var x)) (new_here r x new) id-few
        (new_sound r x new name node (omega (arith, module_slot_lem)) (λ q. absurd (true≢false (sym q ∙ l)))) (new_free r x new) (r.facts.scope_module l))

    outside : Outside W.F (titles (vars_of E (ts ++ (x ∷ [])))) W.D env ss E.st.made s.level (set t (1024 + x.name) (id_after E ts + 1))
    outside = rw (new-titles r x new) (go (rw l at (parts r).outside))
      where
        go : Outside W.F (titles (vars_of E ts)) W.D env ss E.st.made s.level t → Outside W.F (titles (vars_of E ts) ++ (x.name ∷ [])) W.D env ss E.st.made s.level (set t (1024 + x.name) (id_after E ts + 1))
        go o =
            record {
              around = env_skip o.around _ _ (omega (arith, r.facts.first-is)) (omega arith) (omega arith) (omega arith);
              names = names_push x.name (id_after E ts) long.t name new (omega (arith, r.facts.first_module l, length-map (vars_of E ts) (λ (v : Var). v.name))) o.names;
              ranges = ranges_skip W.D E.st.made t o.ranges _ _ (omega arith);
            }

    table : Table (Listed E (ts ++ (x ∷ []))) t
    table = record { of = λ n b. (omega (arith, ((parts r).table.of n b).0, new_many r x new), λ q. absurd (true≢false (sym q ∙ l))) }

    pub module_made : InBlock W env ss E (ts ++ (x ∷ [])) (one_module s)
        (mem (set binds (id_after E ts) (binding_word x.name x.node (bit false) (bit x.public) (bit x.any) 0 (bit E.local) (slot_after E ts))) (set w x.node (answer_word (cond E.local 2 1) (slot_after E ts) (id_after E ts))) (set t (1024 + x.name) (id_after E ts + 1)))
    module_made =
        let p = parts r in
        let same : (block_st E (ts ++ (x ∷ []))).slots ≡ (block_st E ts).slots = slots_module E l (ts ++ (x ∷ [])) ∙ sym (slots_module E l ts) in
        whole r x refl refl
        (record {
          outside = rw l outside;
          made = made;
          slots = rw same (slots_skip_t (slots_skip_w p.slots _ _ (omega arith) (omega arith)) _ _ (omega arith) (omega arith));
          copies = copies_skip p.copies _ _ (omega arith);
          errors = errors_skip p.errors _ _ (omega arith);
          nodes = nodes_target W.M E ts x (length (vars_of E ts)) w long.w node (new-place r x new) p.nodes;
          bindings_are = omega (arith, p.bindings_are, new_many r x new);
          slots_are = p.slots_are ∙ ap length (sym same);
          table = table_skip _ _ (omega arith) table;
        })

-- ---- `new_module`

pub module_done : {name at : ℕ} {any public : Bool} {s : State} {binds w t binds' w' t' : List ℕ} → Lent (mem binds w t) → s.bindings < 2304
    → binds' ≡ set binds s.bindings (binding_word name at (bit false) (bit public) (bit any) 0 (bit false) s.bindings)
    → w' ≡ set w at (answer_word 1 s.bindings s.bindings)
    → t' ≡ set t (1024 + name) (s.bindings + 1)
    → FreshDone name at 0 false any public s (mem binds w t) (Ok (one_module s)) (mem binds' w' t')
module_done {name} {at} {any} {public} {s} {binds} {w} {t} {binds'} {w'} {t'} long id-few b a k = record { right = λ g. go g }
  where
    go : (g : Fresh name at 0 false s (mem binds w t))
        → RB g.W g.env g.ss g.E (g.ts ++ (a_target at name any public ∷ [])) (Ok (one_module s)) (mem binds' w' t')
    go g =
        record {
          over = tt;
          rel = rw (binds_are, w_are, t_are) (module_made g.rel x g.unknown g.local_is long g.small g.node (omega (arith, id_is)));
        }
      where
        x : Target
        x = a_target at name any public

        id_is : s.bindings ≡ id_after g.E g.ts
        id_is = new-number g.rel x g.unknown

        slot_is : slot_after g.E g.ts ≡ id_after g.E g.ts
        slot_is = module_slot_lem g.rel x g.unknown g.local_is

        binds_are : binds' ≡ set binds (id_after g.E g.ts) (binding_word name at (bit false) (bit public) (bit any) 0 (bit g.E.local) (slot_after g.E g.ts))
        binds_are = b ∙ (rw (slot_is, id_is, g.local_is) refl)

        w_are : w' ≡ set w at (answer_word (cond g.E.local 2 1) (slot_after g.E g.ts) (id_after g.E g.ts))
        w_are = a ∙ (rw (slot_is, id_is, g.local_is) refl)

        t_are : t' ≡ set t (1024 + name) (id_after g.E g.ts + 1)
        t_are = k ∙ (rw id_is refl)
