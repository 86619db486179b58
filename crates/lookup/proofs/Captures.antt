-- A binding that is captured: what noting it does to the relation.
use Prim.Native.Nat.{ℕ, ◌+◌, ◌<◌, ◌≤◌}
use mathlib.Core.Path.{◌≡◌, refl, sym, ap, ◌∙◌}
use mathlib.Core.Bool.{Bool, true, false, not, ◌&&◌, ◌||◌, or-false, and-true, and-false}
use mathlib.Core.List.{List}
use native.Mathlib.Omega.{arith}
use lib.Dec.{eqb}
use lib.ListN.{length, get_or, set}
use Rattle.lexical.specs.Lists.{eqb_self, eqb-not}
use Rattle.lexical.specs.Places.{at-below}
use Rattle.lexical.specs.Tree.{top}
use Rattle.lexical.specs.State.{Binding, St}
use Rattle.store.specs.Words.{captured_word}
use Rattle.store.specs.declared.ids.State.{State}
use Rattle.store.specs.Sections.{mem}
use Rattle.store.specs.Image.{MadeIn}
use Rattle.store.specs.Rel.{World, Rel}
use Rattle.store.proofs.Laws.Around.{env_top}
use Rattle.store.proofs.Laws.Made.{made_few, made_owner, made_cap, made_captured}
use Rattle.lookup.specs.Lookup.{Capturing, Captured}

module _ {W : World} {env : List Binding} {ss : List ℕ} {cap : ℕ → Bool} {st : St} {s : State} {binds w t : List ℕ} (rel : Rel W env ss cap st s (mem binds w t)) where
  with_made : {cap' : ℕ → Bool} {binds' : List ℕ} → MadeIn st.made cap' binds' t → Rel W env ss cap' st s (mem binds' w t)
  with_made m =
      let i = rel.image in
      record {
        image = record {
          made = m;
          slots = i.slots;
          copies = i.copies;
          errors = i.errors;
          nodes = i.nodes;
          bindings_are = i.bindings_are;
          slots_are = i.slots_are;
          copies_are = i.copies_are;
          errors_are = i.errors_are;
          copies_fit = i.copies_fit;
          log_below = i.log_below;
        };
        around = rel.around;
        names = rel.names;
        ranges = rel.ranges;
        scratch = rel.scratch;
        settled = rel.settled;
      }

  -- the same bindings captured
  pub rel_caps : (cap' : ℕ → Bool) → ((i : ℕ) → cap i ≡ cap' i) → Rel W env ss cap' st s (mem binds w t)
  rel_caps cap' e = with_made (made_cap rel.image.made cap' (λ i _. e i))

  -- binding i is captured if x says so: `set_captured`, or no store
  pub rel_noted : (i : ℕ) (x : Bool) → x ≡ true → 2304 ≤ length binds → i < length st.made
      → Rel W env ss (λ j. cap j || (eqb j i && x)) st s (mem (set binds i (captured_word (get_or binds i 0))) w t)
  rel_noted i x e long h = with_made (made_captured rel.image.made long i _ h (λ j. rw (e, and-true (eqb j i)) refl))

  pub rel_unnoted : (i : ℕ) (x : Bool) → x ≡ false → Rel W env ss (λ j. cap j || (eqb j i && x)) st s (mem binds w t)
  rel_unnoted i x e = rel_caps _ (λ j. sym (rw (e, and-false (eqb j i)) (or-false (cap j))))

-- ---- `capture_local`

module _ {id level : ℕ} {binds t : List ℕ} {owner scope : ℕ} (e-owner : owner ≡ get_or t (7424 + id) 0) (e-scope : scope ≡ get_or t (20736 + level) 0) where
  owner_is : (g : Capturing id level binds t) → owner ≡ g.b.owner
  owner_is g = e-owner ∙ (rw g.number (made_owner g.rel.image.made g.b.id g.b g.stands))

  scope_is : (g : Capturing id level binds t) → scope ≡ top g.ss
  scope_is g = e-scope ∙ (rw g.level_is (env_top g.rel.around).0)

  pub noted : {binds' : List ℕ} → 2304 ≤ length binds → (owner ≡ scope → ⊥) → binds' ≡ set binds id (captured_word (get_or binds id 0)) → Captured id level binds t binds'
  noted long h e =
      record {
        right = λ g.
            let n : eqb g.b.owner (top g.ss) ≡ false = eqb-not g.b.owner (top g.ss) (λ q. h (owner_is g ∙ q ∙ sym (scope_is g))) in
            rw (e, g.number) (rel_noted g.rel g.b.id _ (ap not n) long (at-below g.st.made g.b.id g.b g.stands));
      }

  pub unnoted : owner ≡ scope → Captured id level binds t binds
  unnoted h =
      record {
        right = λ g.
            let q : g.b.owner ≡ top g.ss = sym (owner_is g) ∙ h ∙ scope_is g in
            rel_unnoted g.rel g.b.id _ (ap not (ap (λ (x : ℕ). eqb x (top g.ss)) q ∙ eqb_self (top g.ss)));
      }

module _ {id level : ℕ} {binds t : List ℕ} where
  pub capturing_id : Capturing id level binds t → id < 2304
  capturing_id g = omega (arith, g.number, made_few g.rel.image.made g.b.id g.b g.stands)
