-- A local's slot in the scope outside is copied into a fresh slot: what the three stores do to the relation.
use Prim.Native.Nat.{ℕ, ◌+◌, ◌<◌, ◌≤◌}
use mathlib.Core.Path.{◌≡◌, refl, ◌∙◌}
use mathlib.Core.Bool.{Bool}
use mathlib.Core.List.{List, [], ◌∷◌}
use mathlib.Core.Option.{some}
use native.Mathlib.Omega.{arith}
use lib.ListN.{length, get_or, set, get_elem?, length-append, length-set}
use Rattle.std.specs.Prelude.{Ok, Err}
use Rattle.lexical.specs.State.{Binding, Copy, St}
use Rattle.lexical.specs.Block.{fresh, slot_for}
use Rattle.lexical.specs.Third.{copy_in}
use Rattle.answer.specs.Records.{binding_name, scope_slots}
use Rattle.store.specs.declared.ids.State.{State}
use Rattle.store.specs.declared.ids.Full.{Full}
use Rattle.store.specs.Sections.{Mem, mem}
use Rattle.store.specs.Words.{pair_word, copied_word, more_word}
use Rattle.store.specs.Rel.{World, Rel}
use Rattle.store.proofs.Laws.Made.{made_few, made_name, made_skip}
use Rattle.store.proofs.Laws.Slots.{fresh_few, fresh_read, slots_skip_w, slots_push}
use Rattle.store.proofs.Laws.Copied.{copies_push, copies_skip, errors_skip}
use Rattle.store.proofs.Laws.Nodes.{nodes_skip}
use Rattle.store.proofs.Laws.Around.{env_skip}
use Rattle.store.proofs.Laws.Names.{names_skip, ranges_skip, scratch_skip}
use Rattle.lookup.specs.Bring.{Reached, Copying, Copied}
use Rattle.store.proofs.Laws.Full.{over_full}

-- the stores
abbrev pub copy_stored : List ℕ → ℕ → ℕ → ℕ → ℕ → List ℕ
copy_stored w c scope parent child = set w (6144 + c) (copied_word scope parent child)

abbrev pub slot_stored : List ℕ → ℕ → ℕ → ℕ → List ℕ
slot_stored w k scope name = set (set w (2048 + k) (pair_word scope name)) (12288 + scope) (more_word (get_or w (12288 + scope) 0))

abbrev pub link_stored : List ℕ → ℕ → ℕ → ℕ → List ℕ
link_stored t k id num = set (set (set t (16640 + k) num) (12544 + k) (get_or t (9728 + id) 0)) (9728 + id) (k + 1)

module _ {W : World} {env : List Binding} {ss : List ℕ} {cap : ℕ → Bool} {st : St} {s : State} {binds w t : List ℕ} (rel : Rel W env ss cap st s (mem binds w t))
    (long_w : length w ≡ 12544) (long-t : length t ≡ 20864) (b : Binding) (stands : get_elem? st.made b.id ≡ some b) (scope parent : ℕ) (small : scope < 256) (room : s.slots < 4096) where
  pub rel_copy : (s' : State) → s'.bindings ≡ s.bindings → s'.slots ≡ s.slots + 1 → s'.copies ≡ s.copies + 1 → s'.errors ≡ s.errors → s'.level ≡ s.level
      → Rel W env ss cap (copy_in scope b (parent, st)).1 s'
      (mem binds (slot_stored (copy_stored w s.copies scope parent (fresh scope st)) s.slots scope b.var.name) (link_stored t s.slots b.id (fresh scope st)))
  unfolding copy_in slot_for
  rel_copy s' e-bindings e-slots e-copies e-errors e-level =
      let i = rel.image in
      let few : b.id < 2304 = made_few i.made b.id b stands in
      let made-few' : length st.made ≤ 2304 = i.made.few in
      let child : fresh scope st ≤ length st.slots = fresh_few scope st.slots in
      let c : s.copies < 4096 = omega (arith, i.copies_are, i.copies_fit, i.slots_are) in
      let n : b.var.name < 65536 = omega (arith, (i.made.sound b.id b stands).name) in
      record {
        image = record {
          made = made_skip (made_skip (made_skip i.made _ _ (omega arith)) _ _ (omega arith)) _ _ (omega arith);
          slots = slots_push (slots_skip_w i.slots (6144 + s.copies) (copied_word scope parent (fresh scope st)) (omega arith) (omega arith)) (simp length-set long_w) long-t (slot_for scope (fresh scope st) b) s.slots i.slots_are room refl small n few;
          copies = copies_skip (copies_skip (copies_push i.copies long_w (record { scope = scope; parent = parent; child = fresh scope st; id = b.id }) s.copies i.copies_are c) _ _ (omega arith)) _ _ (omega arith);
          errors = errors_skip (errors_skip (errors_skip i.errors _ _ (omega arith)) _ _ (omega arith)) _ _ (omega arith);
          nodes = nodes_skip W.M st.named st.log w₂ (nodes_skip W.M st.named st.log w₁ (nodes_skip W.M st.named st.log w i.nodes _ _ (omega arith)) _ _ (omega arith)) _ _ (omega arith);
          bindings_are = e-bindings ∙ i.bindings_are;
          slots_are = omega (arith, i.slots_are, length-append st.slots (slot_for scope (fresh scope st) b ∷ []));
          copies_are = omega (arith, i.copies_are, length-append {A = Copy} st.copies (record { scope = scope; parent = parent; child = fresh scope st; id = b.id } ∷ []));
          errors_are = e-errors ∙ i.errors_are;
          copies_fit = omega (
            arith,
            i.copies_fit,
            length-append st.slots (slot_for scope (fresh scope st) b ∷ []),
            length-append {A = Copy} st.copies (record { scope = scope; parent = parent; child = fresh scope st; id = b.id } ∷ []),
          );
          log_below = i.log_below;
        };
        around = rw e-level (
            env_skip (env_skip (env_skip rel.around _ _ made-few' (omega arith) (omega arith) (omega arith)) _ _ made-few' (omega arith) (omega arith) (omega arith)) _ _ made-few' (omega arith) (omega arith) (omega arith)
            );
        names = names_skip _ _ (omega arith) (omega arith) (names_skip _ _ (omega arith) (omega arith) (names_skip _ _ (omega arith) (omega arith) rel.names));
        ranges = ranges_skip W.D st.made t₂ (ranges_skip W.D st.made t₁ (ranges_skip W.D st.made t rel.ranges _ _ (omega arith)) _ _ (omega arith)) _ _ (omega arith);
        scratch = scratch_skip t₂ (length st.made) _ _ (omega arith) (scratch_skip t₁ (length st.made) _ _ (omega arith) (scratch_skip t (length st.made) _ _ (omega arith) rel.scratch));
        settled = rel.settled;
      }
    where
      w₁ : List ℕ
      w₁ = copy_stored w s.copies scope parent (fresh scope st)

      w₂ : List ℕ
      w₂ = set w₁ (2048 + s.slots) (pair_word scope b.var.name)

      t₁ : List ℕ
      t₁ = set t (16640 + s.slots) (fresh scope st)

      t₂ : List ℕ
      t₂ = set t₁ (12544 + s.slots) (get_or t (9728 + b.id) 0)

-- ---- `copy_parent`

-- the numbers that its calls ask for
pub record Fits (scope id : ℕ) (s : State) (w : List ℕ) : Type 0 where
  pub scope_small : scope < 256
  pub id_small : id < 2304
  pub copies_few : s.copies ≤ s.slots
  pub child_few : scope_slots (get_or w (12288 + scope) 0) ≤ s.slots

-- the state after it
abbrev pub onward : State → State
onward s = record { bindings = s.bindings; slots = s.slots + 1; copies = s.copies + 1; errors = s.errors; level = s.level }

module _ {scope parent id : ℕ} {s : State} {binds w t : List ℕ} where
  pub copy_fits : s.slots < 4096 → Copying scope parent id s (mem binds w t) → Fits scope id s w
  copy_fits h g =
      let i = g.rel.image in
      record {
        scope_small = g.scope_small;
        id_small = omega (arith, g.number, made_few i.made g.b.id g.b g.stands);
        copies_few = omega (arith, i.copies_fit, i.copies_are, i.slots_are);
        child_few = omega (arith, fresh_read i.slots scope g.scope_small, fresh_few scope g.st.slots, i.slots_are);
      }

  -- there is no room
  pub copy_full : {e : Full} {m' : Mem} → 4096 ≤ s.slots → Copied scope parent id s (mem binds w t) (Err e) m'
  copy_full h = record { right = λ g. over_full scope g.b (parent, g.st) (omega (arith, g.rel.image.slots_are)) }

  pub copy_done : {child name : ℕ} {w₁ w₂ t₁ : List ℕ} → length w ≡ 12544 → length t ≡ 20864 → s.slots < 4096 → child ≡ scope_slots (get_or w (12288 + scope) 0) → name ≡ binding_name (get_or binds id 0)
      → w₁ ≡ copy_stored w s.copies scope parent child → w₂ ≡ slot_stored w₁ s.slots scope name → t₁ ≡ link_stored t s.slots id child
      → Copied scope parent id s (mem binds w t) (Ok (record { st = onward s; slot = record { 0 = child } })) (mem binds w₂ t₁)
  unfolding copy_in
  copy_done {child = child} {name = name} {w₂ = w₂} {t₁ = t₁} long_w long-t room e-child e-name e-w₁ e-w₂ e-t₁ =
      record { right = λ g. let i = g.rel.image in go g (e-child ∙ fresh_read i.slots scope g.scope_small) (e-name ∙ (rw g.number (made_name i.made g.b.id g.b g.stands))) }
    where
      go : (g : Copying scope parent id s (mem binds w t)) → child ≡ fresh scope g.st → name ≡ g.b.var.name
          → Reached g.W g.env g.ss g.cap (copy_in scope g.b (parent, g.st)) (record { st = onward s; slot = record { 0 = child } }) (mem binds w₂ t₁)
      go g c n =
          record {
            rel = rw (e-w₂, e-w₁, e-t₁, n, c, g.number) (rel_copy g.rel long_w long-t g.b g.stands scope parent g.scope_small room (onward s) refl refl refl refl refl);
            slot = c;
            small = omega (arith, fresh_few scope g.st.slots, g.rel.image.slots_are);
          }
