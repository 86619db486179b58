-- A local that is looked up: captured if another scope owns it, then brought to the current scope.
use Prim.Native.Nat.{ℕ, ◌<◌}
use mathlib.Core.Path.{◌≡◌, refl, ap₂, ◌∙◌}
use mathlib.Core.Bool.{Bool, true, false, not, ◌&&◌, ◌||◌}
use mathlib.Core.List.{List}
use lib.Dec.{eqb}
use lib.ListN.{length}
use Rattle.std.specs.Prelude.{Ok, Err}
use Rattle.lexical.specs.Places.{at-below}
use Rattle.lexical.specs.Tree.{top}
use Rattle.lexical.specs.Third.{bring}
use Rattle.lexical.specs.Records.{captures_found}
use Rattle.lexical.proofs.Laws.Adds.{FoundBelow}
use Rattle.lexical.proofs.Theory.Same.{bring_made}
use Rattle.store.specs.declared.ids.State.{State}
use Rattle.store.specs.declared.ids.Full.{Full}
use Rattle.store.specs.declared.ids.Brought.{Brought}
use Rattle.answer.specs.declared.ids.BindingId.{BindingId}
use Rattle.store.specs.declared.ids.Resolution.TheVariants as res
use Rattle.store.specs.declared.ids.Slot.TheVariants as slot
use Rattle.store.specs.Sections.{Mem, mem}
use Rattle.store.specs.Rel.{caps}
use Rattle.lookup.specs.Bring.{Bringing, Brings}
use Rattle.lookup.specs.Lookup.{res_of, looked, Small, Capturing, Captured, Locally, LocalDone}

module _ {id : ℕ} {s : State} {binds w t : List ℕ} where
  abbrev pub to_capture : Locally id s (mem binds w t) → Capturing id s.level binds t
  to_capture g = record { W = g.W; env = g.env; ss = g.ss; cap = caps g.st; st = g.st; s = s; w = w; b = g.b; rel = g.rel; stands = g.stands; number = g.number; level_is = refl }

  made_still : (g : Locally id s (mem binds w t)) → g.b.id < length (bring g.ss g.b g.st).1.made
  made_still g = rw (bring_made g.ss g.b g.st) (at-below g.st.made g.b.id g.b g.stands)

  module _ {binds' : List ℕ} (c : Captured id s.level binds t binds') where
    abbrev pub to-bring : Locally id s (mem binds w t) → Bringing s.level id s (mem binds' w t)
    to-bring g =
        let r = c.right (to_capture g) in
        record {
          W = g.W;
          env = g.env;
          ss = g.ss;
          cap = λ i. caps g.st i || (eqb i g.b.id && not (eqb g.b.owner (top g.ss)));
          st = g.st;
          b = g.b;
          inner = g.ss;
          rel = r;
          stands = g.stands;
          local = g.local;
          number = g.number;
          stack = r.around.stack;
          level_is = r.around.level_is;
          low = r.around.low;
        }

    -- there was no room on the way
    pub local_full : {e : Full} {ty : Bool} {m' : Mem} → Brings s.level id s (mem binds' w t) (Err e) m' → LocalDone id ty s (mem binds w t) (Err e) m'
    unfolding looked
    local_full d = record { right = λ g o. d.right (to-bring g) }

    module _ {ty : Bool} {r : Brought} {m' : Mem} (d : Brings s.level id s (mem binds' w t) (Ok r) m') where
      -- directly in a type
      pub local_refused : ty ≡ true → LocalDone id ty s (mem binds w t) (Ok (record { st = r.st; res = res.LocalInType })) m'
      unfolding looked res_of Small captures_found FoundBelow
      local_refused e = record { right = λ g o. rw e (record { rel = (d.right (to-bring g)).rel; is = refl; small = tt; below = made_still g }) }

      -- elsewhere
      pub local_found : ty ≡ false → (id' : BindingId) → id'.0 ≡ id → LocalDone id ty s (mem binds w t) (Ok (record { st = r.st; res = res.Slot (slot.Local r.slot) id' })) m'
      unfolding looked res_of Small captures_found FoundBelow
      local_found e id' q =
          record {
            right = λ g o. rw e (
                let x = d.right (to-bring g) in
                record {
                  rel = x.rel;
                  is = ap₂ (λ (k i : ℕ). res.Slot (slot.Local (record { 0 = k })) (record { 0 = i })) x.slot (q ∙ g.number);
                  small = rw (← x.slot) x.small;
                  below = made_still g;
                });
          }
