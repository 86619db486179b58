-- What names mean, in the working list t: the locals in reach, one more and one less, a scope entered and left; bindings made meanwhile.
use Prim.Native.Nat.{ℕ, zero, suc, ◌+◌, ◌<◌, ◌≤◌}
use Rattle.std.specs.Prelude.{◌≡◌, refl, true, get_or}
use Rattle.std.proofs.Common.{sym, ◌∙◌, length-set}
use mathlib.Core.List.{List, [], ◌∷◌, ◌++◌}
use Rattle.std.proofs.Math.Option.{none, some}
use native.Mathlib.Omega.{arith}
use Rattle.std.proofs.Math.ListN.{length, set, get_elem?}
use Rattle.std.proofs.Math.Seq.{get_or-set_same, get_or-set_other}
use Rattle.lexical.specs.Lists.{first, map_o, eqb_self, eqb-not, none-some, Tested, was, wasnt, tested}
use Rattle.lexical.specs.Places.{at_append, at-below}
use Rattle.lexical.specs.Tree.{top}
use Rattle.lexical.specs.State.{Binding}
use Rattle.lexical.specs.Block.{called}
use Rattle.store.specs.Sections.{plus}
use Rattle.store.specs.Meanings.{number_of, SavedAll, Stacked, EnvIn}
use Rattle.store.proofs.Laws.Points.{Off, Zeros, point_skip, point_set}

-- ---- the innermost local of a name

pub number-some : (env : List Binding) (n : ℕ) (b : Binding) → first (called n) env ≡ some b → number_of env n ≡ b.id + 1
unfolding number_of map_o plus
number-some env n b e = rw e refl

pub number-none : (env : List Binding) (n : ℕ) → first (called n) env ≡ none → number_of env n ≡ 0
unfolding number_of map_o plus
number-none env n e = rw e refl

number_here : (b : Binding) (env : List Binding) → number_of (b ∷ env) b.var.name ≡ b.id + 1
unfolding first called
number_here b env = number-some (b ∷ env) b.var.name b (rw (eqb_self b.var.name) refl)

number_other : (b : Binding) (env : List Binding) (n : ℕ) → (n ≡ b.var.name → ⊥) → number_of (b ∷ env) n ≡ number_of env n
unfolding number_of first called
number_other b env n h = rw (eqb-not b.var.name n (λ e. h (sym e))) refl

-- ---- locals in reach

-- a local found in reach stands among the bindings
pub saved_found : (env made : List Binding) (t : List ℕ) (n : ℕ) (b : Binding) → SavedAll env made t → first (called n) env ≡ some b → (get_elem? made b.id ≡ some b) × (b.local ≡ true)
unfolding SavedAll first
saved_found [] made t n b s e = absurd (none-some refl e)
saved_found (x ∷ env) made t n b s e = go (saved_found env made t n b s.1) (tested (called n x))
  where
    go : (first (called n) env ≡ some b → (get_elem? made b.id ≡ some b) × (b.local ≡ true)) → Tested (called n x) → (get_elem? made b.id ≡ some b) × (b.local ≡ true)
    go r (was q) = let z : some x ≡ some b = rw q at e in let y : x ≡ b = cc in rw (← y) (s.0.stands, s.0.local)
    go r (wasnt q) = r (rw q at e)

pub saved_more : (env made xs : List Binding) (t : List ℕ) → SavedAll env made t → SavedAll env (made ++ xs) t
unfolding SavedAll
saved_more [] made xs t s = tt
saved_more (b ∷ env) made xs t s = (record { stands = at_append made xs b.id b s.0.stands; local = s.0.local; was = s.0.was }, saved_more env made xs t s.1)

-- a store elsewhere: at no binding's place, or at that of a binding that is not in reach
pub saved_skip : (env made : List Binding) (t : List ℕ) (j v : ℕ) → ((k : ℕ) (b : Binding) → get_elem? env k ≡ some b → 5120 + b.id ≡ j → ⊥) → SavedAll env made t → SavedAll env made (set t j v)
unfolding SavedAll
saved_skip [] made t j v h s = tt
saved_skip (b ∷ env) made t j v h s =
    (record { stands = s.0.stands; local = s.0.local; was = get_or-set_other t j (5120 + b.id) v 0 (h 0 b refl) ∙ s.0.was }, saved_skip env made t j v (λ k x e. h (suc k) x e) s.1)

pub saved_few : (env made : List Binding) (t : List ℕ) → SavedAll env made t → (k : ℕ) (b : Binding) → get_elem? env k ≡ some b → b.id < length made
unfolding SavedAll
saved_few [] made t s k b e = absurd (none-some refl e)
saved_few (x ∷ env) made t s zero b e = let z : x ≡ b = cc in rw (← z) (at-below made x.id x s.0.stands)
saved_few (x ∷ env) made t s (suc k) b e = saved_few env made t s.1 k b e

pub stacked_skip : (ss : List ℕ) (t : List ℕ) (j v : ℕ) → Off j 20736 (length ss) → Stacked ss t → Stacked ss (set t j v)
unfolding Stacked
stacked_skip [] t j v h s = tt
stacked_skip (x ∷ ss) t j v h s = (get_or-set_other t j (20736 + length ss) v 0 (h (length ss) (omega arith)) ∙ s.0, s.1, stacked_skip ss t j v (λ i b. h i (omega arith)) s.2)

pub env_none : (made : List Binding) (t : List ℕ) → Zeros t → EnvIn [] (0 ∷ []) made 0 t
unfolding SavedAll Stacked number_of first map_o plus
env_none made t z = record { cur = λ n _. z (0 + n); saved = tt; stack = (z (20736 + 0), omega arith, tt); level_is = refl; low = omega arith }

module _ {env : List Binding} {ss : List ℕ} {made : List Binding} {level : ℕ} {t : List ℕ} (m : EnvIn env ss made level t) where
  -- a store elsewhere
  pub env_skip : (j v : ℕ) → length made ≤ 2304 → 1024 ≤ j → Off j 5120 2304 → Off j 20736 128 → EnvIn env ss made level (set t j v)
  env_skip j v few a b c =
      record {
        cur = point_skip t 0 1024 _ j v (omega arith) m.cur;
        saved = saved_skip env made t j v (λ k x e. b x.id (omega (arith, saved_few env made t m.saved k x e))) m.saved;
        stack = stacked_skip ss t j v (λ i h. c i (omega (arith, m.low))) m.stack;
        level_is = m.level_is;
        low = m.low;
      }

  -- more bindings made
  pub env_more : (xs : List Binding) → EnvIn env ss (made ++ xs) level t
  env_more xs = record { cur = m.cur; saved = saved_more env made xs t m.saved; stack = m.stack; level_is = m.level_is; low = m.low }

  -- a scope entered: `put_scope`
  pub env_enter : (s : ℕ) → length made ≤ 2304 → length t ≡ 20864 → s < 256 → level < 126 → EnvIn env (s ∷ ss) made (level + 1) (set t (20736 + (level + 1)) s)
  unfolding Stacked
  env_enter s few long h l =
      let e : level + 1 ≡ length ss = m.level_is in
      record {
        cur = point_skip t 0 1024 _ _ s (omega arith) m.cur;
        saved = saved_skip env made t _ s (λ k x e. omega (arith, saved_few env made t m.saved k x e)) m.saved;
        stack = (rw e (get_or-set_same t (20736 + length ss) s 0 (omega arith)), h, stacked_skip ss t _ s (λ i b. omega arith) m.stack);
        level_is = omega arith;
        low = omega arith;
      }

  -- a local comes into reach: `push`
  pub env_push : (b : Binding) → length made ≤ 2304 → length t ≡ 20864 → get_elem? made b.id ≡ some b → b.local ≡ true → b.var.name < 1024 → ((k : ℕ) (x : Binding) → get_elem? env k ≡ some x → x.id ≡ b.id → ⊥)
      → EnvIn (b ∷ env) ss made level (set (set t (5120 + b.id) (get_or t b.var.name 0)) b.var.name (b.id + 1))
  unfolding SavedAll
  env_push b few long st lo na new =
      let h : b.id < 2304 = omega (arith, at-below made b.id b st) in
      let z : 0 + b.var.name ≡ b.var.name = omega arith in
      record {
        cur = point_set t₁ 0 1024 (number_of env) (number_of (b ∷ env)) b.var.name b.var.name (b.id + 1) (sym z) (omega (arith, long₁)) (number_here b env) (λ n _ o. number_other b env n o)
            (point_skip t 0 1024 _ _ _ (omega arith) m.cur);
        saved = (
          record {
            stands = st;
            local = lo;
            was = get_or-set_other t₁ b.var.name (5120 + b.id) (b.id + 1) 0 (omega arith) ∙ get_or-set_same t (5120 + b.id) (get_or t b.var.name 0) 0 (omega arith) ∙ (rw z at (m.cur b.var.name na));
          },
          saved_skip env made t₁ _ _ (λ k x e. omega arith) (saved_skip env made t _ _ (λ k x e q. new k x e (omega arith)) m.saved),
        );
        stack = stacked_skip ss t₁ _ _ (omega arith) (stacked_skip ss t _ _ (omega arith) m.stack);
        level_is = m.level_is;
        low = m.low;
      }
    where
      t₁ : List ℕ
      t₁ = set t (5120 + b.id) (get_or t b.var.name 0)

      long₁ : length t₁ ≡ length t
      long₁ = length-set t (5120 + b.id) (get_or t b.var.name 0)

-- and out of it: `pop`
pub env_pop : {b : Binding} {env : List Binding} {ss : List ℕ} {made : List Binding} {level : ℕ} {t : List ℕ} → length made ≤ 2304 → length t ≡ 20864 → b.var.name < 1024
    → EnvIn (b ∷ env) ss made level t → EnvIn env ss made level (set t b.var.name (get_or t (5120 + b.id) 0))
unfolding SavedAll
env_pop {b} {env} {ss} {made} {level} {t} few long na m =
    record {
      cur = point_set t 0 1024 (number_of (b ∷ env)) (number_of env) b.var.name b.var.name _ (omega arith) (omega arith) (sym m.saved.0.was) (λ n _ o. sym (number_other b env n o)) m.cur;
      saved = saved_skip env made t _ _ (λ k x e. omega arith) m.saved.1;
      stack = stacked_skip ss t _ _ (omega arith) m.stack;
      level_is = m.level_is;
      low = m.low;
    }

-- a scope left
pub env_leave : {env : List Binding} {s : ℕ} {ss : List ℕ} {made : List Binding} {level : ℕ} {t : List ℕ} (l : ℕ) → l + 1 ≡ length ss → EnvIn env (s ∷ ss) made level t → EnvIn env ss made l t
unfolding Stacked
env_leave l e m = record { cur = m.cur; saved = m.saved; stack = m.stack.2; level_is = e; low = omega (arith, m.low) }

-- the innermost scope: `scope_at_level`
pub env_top : {env : List Binding} {ss : List ℕ} {made : List Binding} {level : ℕ} {t : List ℕ} → EnvIn env ss made level t → (get_or t (20736 + level) 0 ≡ top ss) × (top ss < 256)
unfolding Stacked top
env_top {ss = []} m = absurd (omega (arith, m.level_is))
env_top {ss = s ∷ ss} {level = level} m = let e : level ≡ length ss = omega (arith, m.level_is) in (rw e m.stack.0, m.stack.1)
