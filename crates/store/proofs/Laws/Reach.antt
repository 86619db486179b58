-- A local comes into reach, and goes out of it: all that is not about what names mean stays as it is.
use Rattle.std.specs.Prelude.{ℕ, ◌+◌, ◌<◌, ◌≤◌, ◌≡◌, Bool, true, List, ◌∷◌, get_or, set}
use Rattle.std.proofs.Common.{◌∙◌, arith}
use Rattle.std.proofs.Math.Option.{some}
use Rattle.std.proofs.Math.ListN.{length, get_elem?}
use Rattle.lexical.specs.Places.{at-below}
use Rattle.lexical.specs.State.{Binding, St}
use Rattle.store.specs.declared.ids.State.{State}
use Rattle.store.specs.Sections.{Mem, mem, block_at}
use Rattle.store.specs.Image.{Image}
use Rattle.store.specs.Meanings.{SavedAll, EnvIn, NamesIn, RangesIn}
use Rattle.store.specs.Rel.{World, Rel}
use Rattle.store.proofs.Laws.Points.{Off}
use Rattle.store.proofs.Laws.Made.{made_skip}
use Rattle.store.proofs.Laws.Slots.{slots_skip_t}
use Rattle.store.proofs.Laws.Around.{env_push, env_pop}
use Rattle.store.proofs.Laws.Names.{names_skip, ranges_skip, scratch_skip}

-- the relation without the locals in reach and the scopes around
pub record Rest (W : World) (cap : ℕ → Bool) (st : St) (s : State) (m : Mem) : Type 0 where
  pub image : Image W.M W.P cap st s m
  pub names : NamesIn W.F W.mods m.t
  pub ranges : RangesIn W.D st.made m.t
  pub scratch : (n : ℕ) → n < 1024 → get_or m.t (block_at + n) 0 ≤ length st.made
  pub settled : (i : ℕ) (b : Binding) → get_elem? W.M i ≡ some b → get_elem? st.made i ≡ some b

pub rest : {W : World} {env : List Binding} {ss : List ℕ} {cap : ℕ → Bool} {st : St} {s : State} {m : Mem} → Rel W env ss cap st s m → Rest W cap st s m
rest r = record { image = r.image; names = r.names; ranges = r.ranges; scratch = r.scratch; settled = r.settled }

module _ {W : World} {cap : ℕ → Bool} {st : St} {s : State} {binds w t : List ℕ} (r : Rest W cap st s (mem binds w t)) where
  pub with_around : {env : List Binding} {ss : List ℕ} → EnvIn env ss st.made s.level t → Rel W env ss cap st s (mem binds w t)
  with_around e = record { image = r.image; around = e; names = r.names; ranges = r.ranges; scratch = r.scratch; settled = r.settled }

  -- a store among the names' meanings, what they meant, or the scopes around
  pub rest_skip : (j v : ℕ) → Off j 1024 4096 → Off j 7424 13312 → (20863 ≡ j → ⊥) → Rest W cap st s (mem binds w (set t j v))
  rest_skip j v g h z =
      let i = r.image in
      record {
        image = record {
          made = made_skip i.made j v (λ k b e. h k (omega arith) e);
          slots = slots_skip_t i.slots j v (λ k b e. h (2304 + k) (omega arith) (omega arith)) (λ k b e. h (5120 + k) (omega arith) (omega arith));
          copies = i.copies;
          errors = i.errors;
          nodes = i.nodes;
          bindings_are = i.bindings_are;
          slots_are = i.slots_are;
          copies_are = i.copies_are;
          errors_are = i.errors_are;
          copies_fit = i.copies_fit;
          log_below = i.log_below;
        };
        names = names_skip j v (λ k b e. g k (omega arith) e) z r.names;
        ranges = ranges_skip W.D st.made t r.ranges j v (λ k b e. h (4608 + k) (omega arith) (omega arith));
        scratch = scratch_skip t (length st.made) j v (λ k b e. g (3072 + k) (omega arith) (omega arith)) r.scratch;
        settled = r.settled;
      }

  -- the same counts
  pub rest_state : (s' : State) → s'.bindings ≡ s.bindings → s'.slots ≡ s.slots → s'.copies ≡ s.copies → s'.errors ≡ s.errors → Rest W cap st s' (mem binds w t)
  rest_state s' a b c d =
      let i = r.image in
      record {
        image = record {
          made = i.made;
          slots = i.slots;
          copies = i.copies;
          errors = i.errors;
          nodes = i.nodes;
          bindings_are = a ∙ i.bindings_are;
          slots_are = b ∙ i.slots_are;
          copies_are = c ∙ i.copies_are;
          errors_are = d ∙ i.errors_are;
          copies_fit = i.copies_fit;
          log_below = i.log_below;
        };
        names = r.names;
        ranges = r.ranges;
        scratch = r.scratch;
        settled = r.settled;
      }

module _ {W : World} {ss : List ℕ} {cap : ℕ → Bool} {st : St} {s : State} {binds w t : List ℕ} (long : length t ≡ 20864) (b : Binding) where
  -- `push`
  pub rel_push : {env : List Binding} → Rel W env ss cap st s (mem binds w t) → get_elem? st.made b.id ≡ some b → b.local ≡ true → ((k : ℕ) (x : Binding) → get_elem? env k ≡ some x → x.id ≡ b.id → ⊥)
      → Rel W (b ∷ env) ss cap st s (mem binds w (set (set t (5120 + b.id) (get_or t b.var.name 0)) b.var.name (b.id + 1)))
  rel_push r e l new =
      let few : length st.made ≤ 2304 = r.image.made.few in
      let low : b.id < length st.made = at-below st.made b.id b e in
      let n : b.var.name < 1024 = (r.image.made.sound b.id b e).name in
      with_around (rest_skip (rest_skip (rest r) _ _ (omega arith) (omega arith) (omega arith)) _ _ (omega arith) (omega arith) (omega arith)) (env_push r.around b few long e l n new)

  -- `pop`
  pub rel_pop : {env : List Binding} → Rel W (b ∷ env) ss cap st s (mem binds w t) → Rel W env ss cap st s (mem binds w (set t b.var.name (get_or t (5120 + b.id) 0)))
  unfolding SavedAll
  rel_pop r =
      let few : length st.made ≤ 2304 = r.image.made.few in
      let n : b.var.name < 1024 = (r.image.made.sound b.id b r.around.saved.0.stands).name in
      with_around (rest_skip (rest r) _ _ (omega arith) (omega arith) (omega arith)) (env_pop few long n r.around)
