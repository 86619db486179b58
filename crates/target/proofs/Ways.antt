-- Any target: what the block has for its name, its visibility, and the way that it takes.
use Prim.Native.Nat.{ℕ, ◌+◌, ◌-◌, ◌<◌, ◌≤◌}
use mathlib.Core.Path.{◌≡◌, refl, sym, ◌∙◌}
use mathlib.Core.Bool.{Bool, true, false, cond, not, ◌&&◌, ◌||◌}
use mathlib.Core.List.{List}
use mathlib.Core.Option.{Option, none, some}
use native.Mathlib.Omega.{arith}
use lib.Dec.{eqb}
use lib.ListN.{get_or}
use Rattle.lexical.specs.Lists.{place, Tested, was, wasnt, tested}
use Rattle.lexical.specs.Binders.{Target, load_shown, visible, target}
use Rattle.lexical.specs.State.{Binding}
use Rattle.lexical.specs.Records.{bit}
use Rattle.std.specs.Prelude.{Result, Ok, Err}
use Rattle.store.specs.declared.ids.State.{State}
use Rattle.store.specs.declared.ids.Full.{Full}
use Rattle.store.specs.declared.ids.Block.{Block}
use Rattle.store.specs.declared.ids.Marks.{Marks}
use Rattle.store.specs.Sections.{Mem, mem, plus}
use Rattle.store.specs.Rel.{World}
use Rattle.store.specs.Blocks.{BlockEnv, titles, vars_of, KnownAs, InBlock}
use Rattle.target.specs.Target.{a_target, marks_of, Again, AgainDone, Fresh, FreshDone, Meets, DoneTarget}
use Rattle.target.specs.Blocks.{over_more}
use Rattle.target.proofs.Kept.{parts}

-- ---- what the block has for a name: `known`

from_place : (o : Option ℕ) (x : ℕ) → x ≡ plus o → KnownAs 0 o x
unfolding plus KnownAs
from_place none x e = omega arith
from_place (some k) x e = omega arith

known_none : (first : ℕ) (o : Option ℕ) (x : ℕ) → KnownAs first o x → x ≤ first → o ≡ none
unfolding KnownAs
known_none first none x k h = refl
known_none first (some j) x k h = absurd (omega arith)

known_some : (first : ℕ) (o : Option ℕ) (x : ℕ) → KnownAs first o x → first < x → (k : ℕ) × (o ≡ some k) × (x - 1 ≡ first + k)
unfolding KnownAs
known_some first none x k h = absurd (omega arith)
known_some first (some j) x k h = (j, refl, omega arith)

known_as : {W : World} {env : List Binding} {ss : List ℕ} {E : BlockEnv} {ts : List Target} {s : State} {m : Mem} → InBlock W env ss E ts s m → (n : ℕ) → n < 1024
    → KnownAs E.first (place n (titles (vars_of E ts))) (get_or m.t (cond E.local 4096 1024 + n) 0)
known_as {E = E} {ts = ts} {m = m} r n h = go (tested E.local)
  where
    go : Tested E.local → KnownAs E.first (place n (titles (vars_of E ts))) (get_or m.t (cond E.local 4096 1024 + n) 0)
    go (was l) = rw l (r.known l n h)
    go (wasnt l) = rw (l, r.facts.first_module l) (from_place _ _ ((rw l at (parts r).outside).names.in_module n h))

-- ---- its visibility: `visibility`

eqb-bit : (v : Bool) → eqb (bit v) 1 ≡ v
unfolding bit
eqb-bit true = refl
eqb-bit false = refl

target_is : {W : World} {env : List Binding} {ss : List ℕ} {E : BlockEnv} {ts : List Target} {s : State} {m : Mem} → InBlock W env ss E ts s m → (marks : Marks) (at name : ℕ) (public : Bool) → name < 1024
    → public ≡ (marks.param || (not (eqb (get_or m.t (3072 + name) 0) 1) && (not marks.load || eqb (get_or m.t 20863 0) 1)))
    → target W.F.names (marks_of marks) at name ≡ a_target at name marks.in_loop public
unfolding target visible
target_is {W} r marks at name public h e =
    let n = (parts r).outside.names in
    rw (e, n.hidden name h, n.shown, eqb-bit (W.F.names.hidden name), eqb-bit (load_shown W.F.names)) refl

-- ---- the ghosts of the three ways

module _ {name at : ℕ} {b : Block} {s : State} {binds w t : List ℕ} (x : ℕ) (e : x ≡ get_or t (cond b.local 4096 1024 + name) 0) (g : Meets name at b (Ok s) (mem binds w t)) where
  pub seen : KnownAs g.E.first (place name (titles (vars_of g.E g.ts))) x
  seen = rw (e, g.is.local_is) (known_as g.rel.rel name g.small)

  pub seen-some : b.first < x → (k : ℕ) × (place name (titles (vars_of g.E g.ts)) ≡ some k) × (x - 1 ≡ g.E.first + k)
  seen-some h = known_some g.E.first _ x seen (omega (arith, g.is.first-is))

  abbrev pub met-again : b.first < x → Again (x - 1) at b.local s binds w
  met-again h = record {
    W = g.W;
    env = g.env;
    ss = g.ss;
    E = g.E;
    ts = g.ts;
    t = t;
    rel = g.rel.rel;
    local_is = g.is.local_is;
    node = g.node;
    name = name;
    k = (seen-some h).0;
    known = (seen-some h).1;
    number = (seen-some h).2;
  }

  pub seen_none : x ≤ b.first → place name (titles (vars_of g.E g.ts)) ≡ none
  seen_none h = known_none g.E.first _ x seen (omega (arith, g.is.first-is))

  abbrev met-fresh : (scope : ℕ) (local : Bool) → x ≤ b.first → g.E.local ≡ local → g.E.scope ≡ scope → Fresh name at scope local s (mem binds w t)
  met-fresh scope local h l c = record {
    W = g.W;
    env = g.env;
    ss = g.ss;
    E = g.E;
    ts = g.ts;
    rel = g.rel.rel;
    local_is = l;
    scope_is = c;
    node = g.node;
    small = g.small;
    unknown = seen_none h;
  }

  abbrev pub met-local : x ≤ b.first → b.local ≡ true → Fresh name at b.scope.0 true s (mem binds w t)
  met-local h l = met-fresh b.scope.0 true h (sym g.is.local_is ∙ l) (sym g.is.scope_is)

  abbrev pub met-module : x ≤ b.first → b.local ≡ false → Fresh name at 0 false s (mem binds w t)
  met-module h l = met-fresh 0 false h (sym g.is.local_is ∙ l) (g.rel.rel.facts.scope_module (sym g.is.local_is ∙ l))

-- ---- and what they come to

-- full already: a block only grows
pub target-full : {name at : ℕ} {b : Block} {marks : Marks} {e e' : Full} {m : Mem} → DoneTarget name at b marks (Err e) m (Err e') m
target-full = record { right = λ g. record { over = over_more g.E g.ts _ g.rel.over; rel = tt } }

module _ {name at : ℕ} {b : Block} {marks : Marks} {s : State} {binds w t : List ℕ} {public : Bool} (x : ℕ) (e : x ≡ get_or t (cond b.local 4096 1024 + name) 0)
    (v : public ≡ (marks.param || (not (eqb (get_or t (3072 + name) 0) 1) && (not marks.load || eqb (get_or t 20863 0) 1)))) where
  pub target-again : {r : State} {binds' w' : List ℕ} → b.first < x → r ≡ s → AgainDone (x - 1) at b.local public s binds w binds' w' → DoneTarget name at b marks (Ok s) (mem binds w t) (Ok r) (mem binds' w' t)
  target-again h q d = record { right = λ g. rw (target_is g.rel.rel marks at name public g.small v, q) (d.right (met-again x e g h) marks.in_loop) }

  pub target_local : {r : Result State Full} {m' : Mem} → x ≤ b.first → b.local ≡ true → FreshDone name at b.scope.0 true marks.in_loop public s (mem binds w t) r m' → DoneTarget name at b marks (Ok s) (mem binds w t) r m'
  target_local h l d = record { right = λ g. rw (target_is g.rel.rel marks at name public g.small v) (d.right (met-local x e g h l)) }

  pub target_module : {r : Result State Full} {m' : Mem} → x ≤ b.first → b.local ≡ false → FreshDone name at 0 false marks.in_loop public s (mem binds w t) r m' → DoneTarget name at b marks (Ok s) (mem binds w t) r m'
  target_module h l d = record { right = λ g. rw (target_is g.rel.rel marks at name public g.small v) (d.right (met-module x e g h l)) }
