-- The steps of `resolve_ident`: a name is looked up, and the outcome kept.
use Prim.Native.Nat.{ℕ}
use mathlib.Core.Path.{◌≡◌, refl, sym, ap}
use mathlib.Core.Bool.{Bool, ◌||◌}
use mathlib.Core.List.{List}
use mathlib.Core.Option.{Option, none, some}
use Rattle.std.specs.Prelude.{Result, Ok, Err}
use Rattle.lexical.specs.Lists.{first}
use Rattle.lexical.specs.Module.{Outer, outer}
use Rattle.lexical.specs.State.{Binding, St, Ctx, Event, Found}
use Rattle.lexical.specs.Block.{called}
use Rattle.lexical.specs.Third.{logged, look_found}
use Rattle.lexical.specs.Records.{captured, captures_found}
use Rattle.lexical.proofs.Theory.Every.{every-bring}
use Rattle.lexical.proofs.Theory.Same.{bring_log}
use Rattle.store.specs.declared.ids.State.{State}
use Rattle.store.specs.declared.ids.Full.{Full}
use Rattle.store.specs.declared.ids.Resolved.{Resolved}
use Rattle.store.specs.Sections.{Mem, mem}
use Rattle.store.specs.Rel.{R, caps, Over}
use Rattle.lookup.specs.Lookup.{looked, caps_with, Named, NamedDone, Keeping, Kept, Ident, IdentDone}
use Rattle.store.proofs.Laws.Full.{over_kept}
use Rattle.lookup.proofs.Captures.{rel_caps}

-- ---- `lexical`'s lookup is: looked up, then logged

found-logged : (o : Option Binding) (u : Outer) (at n : ℕ) (c : Ctx) (st : St)
    → look_found o u at n c st ≡ logged at n c.scopes (looked o u c.scopes c.ty st).0 (looked o u c.scopes c.ty st).1
unfolding look_found looked
found-logged none u at n c st = refl
found-logged (some b) u at n c st = refl

pub looked_log : (o : Option Binding) (u : Outer) (ss : List ℕ) (ty : Bool) (st : St) → (looked o u ss ty st).1.log ≡ st.log
unfolding looked
looked_log none u ss ty st = refl
looked_log (some b) u ss ty st = bring_log ss b st

over_looked : (o : Option Binding) (u : Outer) (ss : List ℕ) (ty : Bool) (st : St) → Over st → Over (looked o u ss ty st).1
unfolding looked
over_looked none u ss ty st v = v
over_looked (some b) u ss ty st v = every-bring Over over_kept ss b st v

-- ---- `resolve_ident`

module _ {name at : ℕ} {s : Result State Full} {binds w t : List ℕ} (ty : Bool) where
  abbrev seen : Ident name at s (mem binds w t) → Found × St
  seen g = looked (first (called name) g.env) (outer g.W.mods g.W.F.globals name) g.ss ty g.st

  done : (s' : Result State Full) (m' : Mem) → ((g : Ident name at s (mem binds w t)) → R g.W g.env g.ss (logged at name g.ss (seen g).0 (seen g).1) s' m') → IdentDone name at ty s (mem binds w t) s' m'
  done s' m' r = record { right = λ g. rw (found-logged (first (called name) g.env) (outer g.W.mods g.W.F.globals name) at name (record { env = g.env; scopes = g.ss; ty = ty }) g.st) (r g) }

-- nothing is done any more
pub ident_over : {name at : ℕ} {e : Full} {binds w t : List ℕ} {ty : Bool} → IdentDone name at ty (Err e) (mem binds w t) (Err e) (mem binds w t)
ident_over {name} {at} {ty = ty} = done ty _ _ (λ g. record { over = over_kept.logs at name g.ss (seen ty g).0 (seen ty g).1 (over_looked _ _ g.ss ty g.st g.rel.over); rel = tt })

module _ {name at : ℕ} {s : State} {binds w t : List ℕ} where
  abbrev pub to-name : Ident name at (Ok s) (mem binds w t) → Named name s (mem binds w t)
  to-name g = record { W = g.W; env = g.env; ss = g.ss; st = g.st; settled = g.settled; rel = g.rel.rel; known = g.known }

  module _ {ty : Bool} where
    -- there was no room on the way
    pub ident_stopped : {e : Full} {m₁ : Mem} → NamedDone name ty s (mem binds w t) (Err e) m₁ → IdentDone name at ty (Ok s) (mem binds w t) (Err e) m₁
    ident_stopped d = done ty _ _ (λ g. record { over = over_kept.logs at name g.ss (seen ty g).0 (seen ty g).1 (d.right (to-name g)); rel = tt })

    module _ {r : Resolved} {binds₁ w₁ t₁ : List ℕ} (d : NamedDone name ty s (mem binds w t) (Ok r) (mem binds₁ w₁ t₁)) where
      abbrev pub to-keep : Ident name at (Ok s) (mem binds w t) → Keeping at r.res r.st w₁
      to-keep g =
          let x = d.right (to-name g) in
          let f = (seen ty g).0 in
          record {
            W = g.W;
            env = g.env;
            ss = g.ss;
            st = (seen ty g).1;
            f = f;
            binds = binds₁;
            t = t₁;
            rel = rel_caps x.rel (caps_with (caps (seen ty g).1) g.ss f)
                (λ i. ap (λ (l : List Event). captured i l || captures_found i g.ss f) (sym (looked_log (first (called name) g.env) (outer g.W.mods g.W.F.globals name) g.ss ty g.st)));
            is = x.is;
            small = x.small;
            below = x.below;
            node = g.node;
          }

      pub ident_done : {s' : Result State Full} {w' : List ℕ} → Kept at r.res r.st w₁ s' w' → IdentDone name at ty (Ok s) (mem binds w t) s' (mem binds₁ w' t₁)
      ident_done k = done ty _ _ (λ g. k.right (to-keep g) name)
