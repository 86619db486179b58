-- The steps of `bring`: what it hands to the functions that it calls, and what it makes of what they ensure.
use Prim.Native.Nat.{ℕ, ◌+◌, ◌-◌, ◌<◌}
use mathlib.Core.Path.{◌≡◌, refl, sym, ap, ◌∙◌}
use mathlib.Core.List.{List}
use mathlib.Core.Option.{none, some}
use native.Mathlib.Omega.{arith}
use lib.ListN.{get_or}
use Rattle.std.specs.Prelude.{None, Some, Result, Ok, Err}
use Rattle.lexical.specs.Third.{hand_in, copy_in, bring}
use Rattle.lexical.proofs.Theory.Same.{bring_made}
use Rattle.answer.specs.Records.{binding_slot}
use Rattle.answer.specs.declared.ids.LocalSlotId.{LocalSlotId}
use Rattle.store.specs.declared.ids.State.{State}
use Rattle.store.specs.declared.ids.Brought.{Brought}
use Rattle.store.specs.declared.ids.Full.{Full}
use Rattle.store.specs.Sections.{Mem, mem}
use Rattle.store.specs.Hands.{hand_of, Slotted}
use Rattle.store.proofs.Laws.Made.{made_few, made_slot}
use Rattle.lookup.specs.Bring.{Copying, Copied, Bringing, Brings}
use Rattle.store.proofs.Laws.Full.{over_kept}
use Rattle.lookup.proofs.Levels.{bring_here, bring-copied, hand-small, hand_at, hand-nothing, Innermost, innermost, length_none}

module _ {level id : ℕ} {s : State} {binds w t : List ℕ} where
  pub bring_id : Bringing level id s (mem binds w t) → id < 2304
  bring_id g = omega (arith, g.number, made_few g.rel.image.made g.b.id g.b g.stands)

  abbrev pub bring-slots : Bringing level id s (mem binds w t) → Slotted w t
  bring-slots g = record { slots = g.st.slots; params = g.W.P; are = g.rel.image.slots }

module _ {level id : ℕ} {s : State} {binds w t : List ℕ} {scope : ℕ} (e-scope : scope ≡ get_or t (20736 + level) 0) where
  abbrev at_level : (g : Bringing level id s (mem binds w t)) → Innermost level scope g.inner t
  at_level g = innermost level scope g.inner t g.level_is e-scope g.stack

  -- at hand there
  pub at-hand : {k : LocalSlotId} → ((x : Slotted w t) → Some k ≡ hand_of (hand_in scope id x.slots)) → Brings level id s (mem binds w t) (Ok (record { st = s; slot = k })) (mem binds w t)
  at-hand {k} e =
      record {
        right = λ g.
            let i = at_level g in
            let q : hand_in scope id g.st.slots ≡ some k.0 = hand_at _ k (e (bring-slots g)) in
            let p : bring g.inner g.b g.st ≡ (k.0, g.st) = rw i.is (bring_here scope i.outer g.b g.st k.0 (rw (← g.number) q)) in
            rw p (record { rel = g.rel; slot = refl; small = hand-small scope id k.0 4096 g.st.slots (λ j r y. (g.rel.image.slots.sound j r y).1) q });
      }

  -- not there: copied from the scope outside
  module _ (e : (x : Slotted w t) → None ≡ hand_of (hand_in scope id x.slots)) where
    not_here : (g : Bringing level id s (mem binds w t)) → bring g.inner g.b g.st ≡ copy_in scope g.b (bring (at_level g).outer g.b g.st)
    not_here g =
        let i = at_level g in
        let q : hand_in scope id g.st.slots ≡ none = hand-nothing _ (e (bring-slots g)) in
        ap (λ (l : List ℕ). bring l g.b g.st) i.is ∙ bring-copied scope i.outer g.b g.st (rw (← g.number) q)

    -- at the outermost scope, from the binding's own slot
    module _ (z : level ≡ 0) {own : ℕ} (e-own : own ≡ binding_slot (get_or binds id 0)) where
      own_slot : (g : Bringing level id s (mem binds w t)) → own ≡ g.b.slot
      own_slot g = e-own ∙ (rw g.number (made_slot g.rel.image.made g.b.id g.b g.stands))

      pub own_small : (g : Bringing level id s (mem binds w t)) → own < 4096
      own_small g = omega (arith, own_slot g, (g.rel.image.made.sound g.b.id g.b g.stands).local_slot g.local)

      abbrev pub own-copy : (g : Bringing level id s (mem binds w t)) → Copying scope own id s (mem binds w t)
      own-copy g =
          record { W = g.W; env = g.env; ss = g.ss; cap = g.cap; st = g.st; b = g.b; rel = g.rel; stands = g.stands; number = g.number; scope_small = (at_level g).small; parent_small = own_small g }

      pub own_done : {r : Result Brought Full} {m' : Mem} → Copied scope own id s (mem binds w t) r m' → Brings level id s (mem binds w t) r m'
      unfolding bring
      own_done d =
          record {
            right = λ g.
                let i = at_level g in
                let p : bring g.inner g.b g.st ≡ copy_in scope g.b (own, g.st) =
                not_here g ∙ ap (λ (l : List ℕ). copy_in scope g.b (bring l g.b g.st)) (length_none i.outer (omega (arith, i.level_is))) ∙ ap (λ (x : ℕ). copy_in scope g.b (x, g.st)) (sym (own_slot g)) in
                rw p (d.right (own-copy g));
          }

    -- further in, brought to the scope outside first
    module _ (z : level ≡ 0 → ⊥) where
      abbrev pub outside : (g : Bringing level id s (mem binds w t)) → Bringing (level - 1) id s (mem binds w t)
      outside g =
          let i = at_level g in
          record {
            W = g.W;
            env = g.env;
            ss = g.ss;
            cap = g.cap;
            st = g.st;
            b = g.b;
            inner = i.outer;
            rel = g.rel;
            stands = g.stands;
            local = g.local;
            number = g.number;
            stack = i.stack;
            level_is = omega (arith, i.level_is);
            low = omega (arith, i.level_is, g.level_is, g.low);
          }

      -- where there was no room
      pub no_room : {e : Full} {m₁ : Mem} → Brings (level - 1) id s (mem binds w t) (Err e) m₁ → Brings level id s (mem binds w t) (Err e) m₁
      no_room d = record { right = λ g. rw (not_here g) (over_kept.copies scope g.b (bring (at_level g).outer g.b g.st) (d.right (outside g))) }

      module _ {r : Brought} {m₁ : Mem} (d : Brings (level - 1) id s (mem binds w t) (Ok r) m₁) where
        abbrev pub then-copy : (g : Bringing level id s (mem binds w t)) → Copying scope r.slot.0 id r.st m₁
        then-copy g =
            let x = d.right (outside g) in
            record {
              W = g.W;
              env = g.env;
              ss = g.ss;
              cap = g.cap;
              st = (bring (at_level g).outer g.b g.st).1;
              b = g.b;
              rel = x.rel;
              stands = rw (bring_made (at_level g).outer g.b g.st) g.stands;
              number = g.number;
              scope_small = (at_level g).small;
              parent_small = x.small;
            }

        pub then_done : {r' : Result Brought Full} {m' : Mem} → Copied scope r.slot.0 id r.st m₁ r' m' → Brings level id s (mem binds w t) r' m'
        then_done c =
            record {
              right = λ g.
                  let x = bring (at_level g).outer g.b g.st in
                  let p : bring g.inner g.b g.st ≡ copy_in scope g.b (r.slot.0, x.1) = not_here g ∙ ap (λ (k : ℕ). copy_in scope g.b (k, x.1)) (sym (d.right (outside g)).slot) in
                  rw p (c.right (then-copy g));
            }
