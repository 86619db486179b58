-- Into a function and out of it: its scope comes onto the stack and its variables into reach, and both go again.
use Prim.Native.Nat.{ℕ, zero, suc, ◌+◌, ◌-◌, ◌<◌, ◌≤◌}
use mathlib.Core.Path.{◌≡◌, refl, ap, ◌∙◌}
use mathlib.Core.List.{List, [], ◌∷◌}
use mathlib.Core.Option.{some}
use native.Mathlib.Omega.{arith}
use lib.ListN.{length, get_or, set, get_elem?}
use Rattle.std.specs.Prelude.{Ok}
use Rattle.lexical.specs.Lists.{none-some, Opened, absent, present, opened}
use Rattle.lexical.specs.State.{Binding}
use Rattle.store.specs.declared.ids.State.{State}
use Rattle.store.specs.Sections.{mem}
use Rattle.store.specs.Meanings.{Range, SavedAll}
use Rattle.store.specs.Rel.{Rel, caps}
use Rattle.store.specs.Scoping as scoping
use Rattle.store.proofs.Laws.Points.{absent_past}
use Rattle.store.proofs.Laws.Around.{env_enter, env_leave}
use Rattle.store.proofs.Laws.Reach.{rest, with_around, rest_skip, rest_state}
use Rattle.lookup.specs.Enter.{Entering, Entered, Leaving, Left}

-- a local in reach stands among the bindings
saved_stands : (env made : List Binding) (t : List ℕ) → SavedAll env made t → (k : ℕ) (b : Binding) → get_elem? env k ≡ some b → get_elem? made b.id ≡ some b
unfolding SavedAll
saved_stands [] made t s k b e = absurd (none-some refl e)
saved_stands (x ∷ env) made t s zero b e = let z : x ≡ b = cc in rw (← z) s.0.stands
saved_stands (x ∷ env) made t s (suc k) b e = saved_stands env made t s.1 k b e

-- a binding whose number is in a range is one of the range's
ranged : {made bs : List Binding} {lo hi : ℕ} → Range made bs lo hi → (b : Binding) → get_elem? made b.id ≡ some b → lo ≤ b.id → b.id < hi → get_elem? bs (b.id - lo) ≡ some b
ranged {made} {bs} {lo} {hi} r b e l h = go (opened (get_elem? bs (b.id - lo)))
  where
    go : Opened (get_elem? bs (b.id - lo)) → get_elem? bs (b.id - lo) ≡ some b
    go (absent q) = absurd (omega (arith, absent_past bs (b.id - lo) q, r.end))
    go (present x q) =
        let z : lo + (b.id - lo) ≡ b.id = omega arith in
        let y : get_elem? made b.id ≡ some x = rw z at (r.are (b.id - lo) x q) in
        let i : x ≡ b = cc in
        q ∙ ap some i

-- the same counts, at another level
abbrev levelled : State → ℕ → State
levelled s level = record { bindings = s.bindings; slots = s.slots; copies = s.copies; errors = s.errors; level = level }

-- ---- `enter_def`

module _ {scope : ℕ} {s : State} {binds t : List ℕ} where
  pub enter_deep : Entering scope (Ok s) binds t → s.level < 126
  enter_deep g = omega (arith, g.rel.rel.around.level_is, g.deep)

  module _ (long : length t ≡ 20864) {lo hi : ℕ} (e-lo : lo ≡ get_or t (12032 + scope) 0) (e-hi : hi ≡ get_or t (12288 + scope) 0) {t₁ : List ℕ} (e-t : t₁ ≡ set t (20736 + (s.level + 1)) scope) where
    pub entered_scope : (g : Entering scope (Ok s) binds t) → Rel g.W g.env (scope ∷ g.ss) (caps g.st) g.st (levelled s (s.level + 1)) (mem binds g.w t₁)
    entered_scope g =
        let r = g.rel.rel in
        let d = enter_deep g in
        rw e-t (
        with_around
        (rest_state (rest_skip (rest r) (20736 + (s.level + 1)) scope (omega arith) (omega arith) (omega arith)) (levelled s (s.level + 1)) refl refl refl refl)
        (env_enter r.around scope r.image.made.few long g.small d)
        )

    pub its_range : (g : Entering scope (Ok s) binds t) → Range g.st.made (g.W.D scope) lo hi
    its_range g = rw (e-lo, e-hi) (g.rel.rel.ranges scope g.small)

    -- none of its variables is in reach: what is in reach belongs to the scopes around
    pub unreached : (g : Entering scope (Ok s) binds t) (j : ℕ) (b : Binding) → get_elem? g.env j ≡ some b → lo ≤ b.id → b.id < hi → ⊥
    unreached g j b e l h =
        let r = g.rel.rel in
        let q : b.owner ≡ scope = g.settled.owners scope (b.id - lo) b (ranged (its_range g) b (saved_stands g.env g.st.made t r.around.saved j b e) l h) in
        g.unmet (rw (← q) (g.owned j b e))

    abbrev pub to-open : Entering scope (Ok s) binds t → scoping.Opening binds t₁ lo hi
    to-open g = record { W = g.W; env = g.env; ss = scope ∷ g.ss; cap = caps g.st; st = g.st; s = levelled s (s.level + 1); w = g.w; bs = g.W.D scope; rel = entered_scope g; range = its_range g; apart = unreached g }

    pub enter-done : {t₂ : List ℕ} → scoping.Opened binds t₁ lo hi t₂ → Entered scope (Ok s) binds t (Ok (levelled s (s.level + 1))) t₂
    enter-done o = record { right = λ g. record { over = tt; rel = o.right (to-open g) } }

-- ---- `exit_def`

module _ {scope : ℕ} {s : State} {binds t : List ℕ} where
  pub exit_deep : Leaving scope (Ok s) binds t → 1 ≤ s.level
  exit_deep g = omega (arith, g.rel.rel.around.level_is, g.outside)

  module _ {lo hi : ℕ} (e-lo : lo ≡ get_or t (12032 + scope) 0) (e-hi : hi ≡ get_or t (12288 + scope) 0) where
    pub left_range : (g : Leaving scope (Ok s) binds t) → Range g.st.made (g.W.D scope) lo hi
    left_range g = rw (e-lo, e-hi) (g.rel.rel.ranges scope g.small)

    pub numbered : (g : Leaving scope (Ok s) binds t) → scoping.Numbered (g.W.D scope) lo
    numbered g k b e = (g.rel.rel.image.made.sound (lo + k) b ((left_range g).are k b e)).id

    abbrev pub to-close : Leaving scope (Ok s) binds t → scoping.Closing binds t lo hi
    to-close g = record { W = g.W; env = g.env; ss = scope ∷ g.ss; cap = caps g.st; st = g.st; s = s; w = g.w; bs = g.W.D scope; rel = g.rel.rel; numbered = numbered g; end = (left_range g).end }

    pub exit_done : {t₁ : List ℕ} → scoping.Closed binds t lo hi t₁ → Left scope (Ok s) binds t (Ok (levelled s (s.level - 1))) t₁
    exit_done c =
        record {
          right = λ g. let x = c.right (to-close g) in record {
            over = tt;
            rel = with_around (rest_state (rest x) (levelled s (s.level - 1)) refl refl refl refl) (env_leave (s.level - 1) (omega (arith, exit_deep g, x.around.level_is)) x.around);
          };
        }
