-- What a store keeps of a block that is being collected; and what one Name's record adds to the nodes' answers.
use Prim.Native.Nat.{ℕ, ◌+◌, ◌<◌, ◌≤◌}
use mathlib.Core.Path.{◌≡◌, refl, sym, ◌∙◌}
use mathlib.Core.Bool.{true, cond}
use mathlib.Core.List.{List, [], ◌∷◌, ◌++◌, map}
use mathlib.Core.Option.{some}
use native.Mathlib.Omega.{arith}
use native.Mathlib.Decide.{ℕ_discrete}
use lib.ListN.{length, get_or, set}
use lib.Seq.{get_or-set_same, get_or-set_other}
use Rattle.lexical.specs.Lists.{place}
use Rattle.lexical.specs.Places.{at_append}
use Rattle.lexical.specs.Binders.{Target}
use Rattle.lexical.specs.Module.{File}
use Rattle.lexical.specs.State.{Binding}
use Rattle.lexical.specs.Block.{name_of}
use Rattle.lexical.specs.Records as rec
use Rattle.lexical.proofs.Laws.Adds.{below_more}
use Rattle.store.specs.declared.ids.State.{State}
use Rattle.store.specs.Sections.{Mem}
use Rattle.store.specs.Words.{answer_word}
use Rattle.store.specs.Image.{MadeIn, SlotsIn, CopiesIn, ErrorsIn, NodesIn}
use Rattle.store.specs.Meanings.{EnvIn, NamesIn, RangesIn}
use Rattle.store.specs.Rel.{World, caps}
use Rattle.store.specs.Blocks.{BlockEnv, titles, vars_of, bindings_of, block_st, block_world, KnownAs, InBlock}
use Rattle.store.proofs.Laws.Points.{Off}
use Rattle.store.proofs.Laws.Nodes.{nodes_named, nodes_name}
use Rattle.store.proofs.Laws.Around.{env_skip, env_more}
use Rattle.store.proofs.Laws.Names.{names_skip, ranges_skip, ranges_more}
use Rattle.target.specs.Blocks.{block_longer, rows_before, named_snoc, name_word}

-- ---- what names mean outside of the block

pub record Outside (F : File) (mods : List ℕ) (D : ℕ → List Binding) (env : List Binding) (ss : List ℕ) (made : List Binding) (level : ℕ) (t : List ℕ) : Type 0 where
  pub around : EnvIn env ss made level t
  pub names : NamesIn F mods t
  pub ranges : RangesIn D made t

-- a store that is at none of its places
pub outside_skip : {F : File} {mods : List ℕ} {D : ℕ → List Binding} {env : List Binding} {ss : List ℕ} {made : List Binding} {level : ℕ} {t : List ℕ} (j v : ℕ)
    → length made ≤ 2304 → 4096 ≤ j → Off j 5120 2304 → Off j 12032 512 → Off j 20736 128 → Outside F mods D env ss made level t → Outside F mods D env ss made level (set t j v)
outside_skip {D = D} {made = made} {t = t} j v few a b c d o = record {
  around = env_skip o.around j v few (omega arith) b d;
  names = names_skip j v (omega arith) (λ e. d 127 (omega arith) e) o.names;
  ranges = ranges_skip D made t o.ranges j v c;
}

-- ---- the scratch table: what the block has for each name

pub record Table (P : ℕ → ℕ → Type 0) (t : List ℕ) : Type 0 where
  pub of : (n : ℕ) → n < 1024 → P n (get_or t (4096 + n) 0)

pub table_skip : {P : ℕ → ℕ → Type 0} {t : List ℕ} (j v : ℕ) → Off j 4096 1024 → Table P t → Table P (set t j v)
table_skip {P} {t} j v h p = record { of = λ n b. rw (get_or-set_other t j (4096 + n) v 0 (h n b)) (p.of n b) }

pub table_set : {P P' : ℕ → ℕ → Type 0} {t : List ℕ} (k v : ℕ) → k < 1024 → length t ≡ 20864 → P' k v → ((n x : ℕ) → (n ≡ k → ⊥) → P n x → P' n x) → Table P t → Table P' (set t (4096 + k) v)
table_set {P} {P'} {t} k v h long here other p = record {
  of = λ n b. elim (ℕ_discrete n k) [
    | yes q ↦ rw (q, get_or-set_same t (4096 + k) v 0 (omega arith)) here
    | no q ↦ rw (get_or-set_other t (4096 + k) (4096 + n) v 0 (omega arith)) (other n _ q (p.of n b))
  ];
}

abbrev pub Listed : BlockEnv → List Target → ℕ → ℕ → Type 0
Listed E ts n x = (x ≤ length (block_st E ts).made) × (E.local ≡ true → KnownAs E.first (place n (titles (vars_of E ts))) x)

-- ---- the relation and its parts

-- the module's names, which grow while they are collected
abbrev pub mods_of : World → BlockEnv → List Target → List ℕ
mods_of W E ts = cond E.local W.mods (titles (vars_of E ts))

pub record Parts (W : World) (env : List Binding) (ss : List ℕ) (E : BlockEnv) (ts : List Target) (s : State) (m : Mem) : Type 0 where
  pub outside : Outside W.F (mods_of W E ts) W.D env ss E.st.made s.level m.t
  pub made : MadeIn (block_st E ts).made (caps E.st) m.binds m.t
  pub slots : SlotsIn (block_st E ts).slots W.P m.w m.t
  pub copies : CopiesIn E.st.copies m.w
  pub errors : ErrorsIn (rec.errors E.st.log) m.w
  pub nodes : NodesIn W.M (block_st E ts).named E.st.log m.w
  pub bindings_are : s.bindings ≡ length (block_st E ts).made
  pub slots_are : s.slots ≡ length (block_st E ts).slots
  pub table : Table (Listed E ts) m.t

module _ {W : World} {env : List Binding} {ss : List ℕ} {E : BlockEnv} {ts : List Target} {s : State} {m : Mem} (r : InBlock W env ss E ts s m) where
  pub parts : Parts W env ss E ts s m
  unfolding block_world
  parts =
      let i = r.rel.image in
      record {
        outside = record { around = r.around; names = r.rel.names; ranges = r.ranges };
        made = i.made;
        slots = i.slots;
        copies = unfold block_st in i.copies;
        errors = unfold block_st in i.errors;
        nodes = unfold block_st in i.nodes;
        bindings_are = i.bindings_are;
        slots_are = i.slots_are;
        table = record { of = λ n b. (r.rel.scratch n b, λ l. r.known l n b) };
      }

  -- after one target more
  pub whole : (x : Target) {s' : State} {m' : Mem} → s'.copies ≡ s.copies → s'.errors ≡ s.errors → Parts W env ss E (ts ++ (x ∷ [])) s' m' → InBlock W env ss E (ts ++ (x ∷ [])) s' m'
  unfolding block_world
  whole x {s'} {m'} c e p =
      let i = r.rel.image in
      let l = block_longer E ts (x ∷ []) in
      let same : length (block_st E (ts ++ (x ∷ []))).copies ≡ length (block_st E ts).copies = unfold block_st in refl in
      record {
        facts = r.facts;
        around = p.outside.around;
        ranges = p.outside.ranges;
        settled = r.settled;
        rel = record {
          image = record {
            made = p.made;
            slots = p.slots;
            copies = unfold block_st in p.copies;
            errors = unfold block_st in p.errors;
            nodes = unfold block_st in p.nodes;
            bindings_are = p.bindings_are;
            slots_are = p.slots_are;
            copies_are = unfold block_st in c ∙ i.copies_are;
            errors_are = unfold block_st in e ∙ i.errors_are;
            copies_fit = omega (arith, i.copies_fit, l.slots, same);
            log_below = unfold block_st in below_more _ _ E.st.log l.made i.log_below;
          };
          around = unfold block_st in env_more p.outside.around (bindings_of E (ts ++ (x ∷ [])));
          names = p.outside.names;
          ranges = unfold block_st in ranges_more W.D E.st.made m'.t p.outside.ranges (bindings_of E (ts ++ (x ∷ [])));
          scratch = λ n b. (p.table.of n b).0;
          settled = λ i b e. unfold block_st in at_append E.st.made (bindings_of E (ts ++ (x ∷ []))) i b (r.settled i b e);
        };
        known = λ l n b. (p.table.of n b).1 l;
      }

-- ---- one Name more: `put_answer`

pub nodes_target : (M : List Binding) (E : BlockEnv) (ts : List Target) (t : Target) (k : ℕ) (w : List ℕ) → length w ≡ 12544 → t.node < 2048 → place t.name (titles (vars_of E (ts ++ (t ∷ [])))) ≡ some k
    → NodesIn M (block_st E ts).named E.st.log w → NodesIn M (block_st E (ts ++ (t ∷ []))).named E.st.log (set w t.node (answer_word (cond E.local 2 1) (E.slot_at k) (E.first + k)))
nodes_target M E ts t k w long h e m =
    let before = E.st.named ++ map (name_of (bindings_of E (ts ++ (t ∷ [])))) ts in
    rw (named_snoc E ts t)
    (nodes_name M before E.st.log w (nodes_named M (block_st E ts).named E.st.log w m before (rows_before E ts (t ∷ []))) long (name_of (bindings_of E (ts ++ (t ∷ []))) t) t.node _ (unfold name_of in refl) h
    (sym (name_word E (ts ++ (t ∷ [])) t k e)))
