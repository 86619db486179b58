-- What the stores of walk two do to the relation: a scope's parameter variables, and a function's stretch of the bindings.
use Prim.Native.Nat.{ℕ, ◌+◌, ◌<◌}
use mathlib.Core.Path.{◌≡◌}
use mathlib.Core.Bool.{Bool}
use mathlib.Core.List.{List}
use native.Mathlib.Omega.{arith}
use lib.ListN.{length, get_or, set}
use Rattle.lexical.specs.State.{Binding, St}
use Rattle.store.specs.Words.{params_word}
use Rattle.store.specs.declared.ids.State.{State}
use Rattle.store.specs.Sections.{mem}
use Rattle.store.specs.Meanings.{Range}
use Rattle.store.specs.Rel.{World, Rel}
use Rattle.store.proofs.Laws.Made.{made_skip}
use Rattle.store.proofs.Laws.Slots.{slots_params, slots_skip_t}
use Rattle.store.proofs.Laws.Copied.{copies_skip, errors_skip}
use Rattle.store.proofs.Laws.Nodes.{nodes_skip}
use Rattle.store.proofs.Laws.Around.{env_skip}
use Rattle.store.proofs.Laws.Names.{names_skip, ranges_put, scratch_skip}

module _ {W : World} {env : List Binding} {ss : List ℕ} {cap : ℕ → Bool} {st : St} {s : State} {binds w t : List ℕ} (r : Rel W env ss cap st s (mem binds w t)) where
  -- scope k has n parameter variables: `set_param_count`
  pub rel_params : length w ≡ 12544 → (P : ℕ → ℕ) (k n : ℕ) → k < 256 → n < 65536 → P k ≡ n → ((u : ℕ) → (u ≡ k → ⊥) → P u ≡ W.P u)
      → Rel (record { F = W.F; M = W.M; mods = W.mods; D = W.D; P = P }) env ss cap st s (mem binds (set w (12288 + k) (params_word n (get_or w (12288 + k) 0))) t)
  rel_params long P k n hk hn e o =
      let i = r.image in
      record {
        image = record {
          made = i.made;
          slots = slots_params i.slots long P k n hk hn e o;
          copies = copies_skip i.copies _ _ (omega arith);
          errors = errors_skip i.errors _ _ (omega arith);
          nodes = nodes_skip _ _ _ w i.nodes _ _ (omega arith);
          bindings_are = i.bindings_are;
          slots_are = i.slots_are;
          copies_are = i.copies_are;
          errors_are = i.errors_are;
          copies_fit = i.copies_fit;
          log_below = i.log_below;
        };
        around = r.around;
        names = r.names;
        ranges = r.ranges;
        scratch = r.scratch;
        settled = r.settled;
      }

  -- scope k's variables are the bindings from lo up to hi: `put_range`
  pub rel_range : length t ≡ 20864 → (D : ℕ → List Binding) (k lo hi : ℕ) → k < 256 → Range st.made (D k) lo hi → ((u : ℕ) → (u ≡ k → ⊥) → D u ≡ W.D u)
      → Rel (record { F = W.F; M = W.M; mods = W.mods; D = D; P = W.P }) env ss cap st s (mem binds w (set (set t (12032 + k) lo) (12288 + k) hi))
  rel_range long D k lo hi hk h o =
      let i = r.image in
      record {
        image = record {
          made = made_skip (made_skip i.made _ _ (omega arith)) _ _ (omega arith);
          slots = slots_skip_t (slots_skip_t i.slots _ _ (omega arith) (omega arith)) _ _ (omega arith) (omega arith);
          copies = i.copies;
          errors = i.errors;
          nodes = i.nodes;
          bindings_are = i.bindings_are;
          slots_are = i.slots_are;
          copies_are = i.copies_are;
          errors_are = i.errors_are;
          copies_fit = i.copies_fit;
          log_below = i.log_below;
        };
        around = env_skip (env_skip r.around _ _ i.made.few (omega arith) (omega arith) (omega arith)) _ _ i.made.few (omega arith) (omega arith) (omega arith);
        names = names_skip _ _ (omega arith) (omega arith) (names_skip _ _ (omega arith) (omega arith) r.names);
        ranges = ranges_put W.D st.made t r.ranges long D k lo hi hk h o;
        scratch = scratch_skip (set t (12032 + k) lo) (length st.made) (12288 + k) hi (omega arith) (scratch_skip t (length st.made) (12032 + k) lo (omega arith) r.scratch);
        settled = r.settled;
      }
