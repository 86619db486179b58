-- The loops of `scope_in` and `unscope`: of the bindings from lo on, those from k on are in reach.
use Prim.Native.Nat.{ℕ, zero, suc, ◌+◌, ◌-◌, ◌<◌, ◌≤◌}
use mathlib.Core.Path.{◌≡◌, refl, sym, ap, ◌∙◌}
use mathlib.Core.Logic.{◌⊎◌, inl, inr, ⊎_elim}
use mathlib.Core.List.{List, [], ◌∷◌, ◌++◌}
use mathlib.Core.Option.{some}
use native.Mathlib.Omega.{arith}
use lib.ListN.{length, get_or, set, drop, get_elem?, drop_of_length-le}
use Rattle.lexical.specs.Lists.{none-some, Opened, absent, present, opened}
use Rattle.lexical.specs.State.{Binding}
use Rattle.answer.specs.Records.{binding_name}
use Rattle.store.specs.Sections.{mem}
use Rattle.store.specs.Meanings.{SavedAll}
use Rattle.store.specs.Rel.{Rel}
use Rattle.store.specs.Scoping.{Opening, Closing}
use Rattle.store.proofs.Laws.Points.{absent_past}
use Rattle.store.proofs.Laws.Made.{made_name, made_few}
use Rattle.store.proofs.Laws.Reach.{rel_push, rel_pop}

-- ---- lists

drop_at : {A : Type 0} (xs : List A) (j : ℕ) (a : A) → get_elem? xs j ≡ some a → drop j xs ≡ a ∷ drop (suc j) xs
drop_at [] j a e = absurd (none-some refl e)
drop_at (x ∷ xs) zero a e = let z : x ≡ a = cc in rw z refl
drop_at (x ∷ xs) (suc j) a e = drop_at xs j a e

at_drop : {A : Type 0} (xs : List A) (n i : ℕ) → get_elem? (drop n xs) i ≡ get_elem? xs (n + i)
at_drop xs zero i = let e : i ≡ 0 + i = omega arith in ap (get_elem? xs) e
at_drop [] (suc n) i = refl
at_drop (x ∷ xs) (suc n) i = let e : suc (n + i) ≡ suc n + i = omega arith in at_drop xs n i ∙ ap (get_elem? (x ∷ xs)) e

gone : {A : Type 0} (xs : List A) (n : ℕ) → length xs ≤ n → drop n xs ≡ []
gone xs n h = drop_of_length-le xs h

-- an element of a joined list
at_joined : {A : Type 0} (xs ys : List A) (i : ℕ) (a : A) → get_elem? (xs ++ ys) i ≡ some a → (get_elem? xs i ≡ some a) ⊎ ((j : ℕ) × (get_elem? ys j ≡ some a))
at_joined [] ys i a e = inr (i, e)
at_joined (x ∷ xs) ys zero a e = inl e
at_joined (x ∷ xs) ys (suc i) a e = at_joined xs ys i a e

-- ---- scope_in

module _ {binds t₀ : List ℕ} {lo hi : ℕ} (g : Opening binds t₀ lo hi) where
  abbrev pub Opens : ℕ → List ℕ → Type 0
  Opens k t = Rel g.W (drop (k - lo) g.bs ++ g.env) g.ss g.cap g.st g.s (mem binds g.w t)

  pub opens_few : hi ≤ 2304
  opens_few = omega (arith, g.range.within, g.rel.image.made.few)

  pub record Next (k name : ℕ) (t : List ℕ) : Type 0 where
    pub small : name < 1024
    pub opens : length t ≡ 20864 → Opens k t → Opens (k - 1) (set (set t (5120 + (k - 1)) (get_or t name 0)) name (k - 1 + 1))

  -- the binding at place j of them
  stands : (j : ℕ) (b : Binding) → get_elem? g.bs j ≡ some b → (b.id ≡ lo + j) × (get_elem? g.st.made b.id ≡ some b)
  stands j b e = let q = g.range.are j b e in let i = (g.rel.image.made.sound (lo + j) b q).id in (i, ap (get_elem? g.st.made) i ∙ q)

  pub opens-next : (k name : ℕ) (t : List ℕ) → lo < k → k ≤ hi → name ≡ binding_name (get_or binds (k - 1) 0) → Next k name t
  opens-next k name t l h n = go (opened (get_elem? g.bs (k - 1 - lo)))
    where
      go : Opened (get_elem? g.bs (k - 1 - lo)) → Next k name t
      go (absent e) = absurd (omega (arith, g.range.end, absent_past g.bs (k - 1 - lo) e))
      go (present b e) =
          record {
            small = rw m (g.rel.image.made.sound b.id b st).name;
            opens = λ long r. rw (front, m, ← i) (rel_push long b r st (g.range.locals (k - 1 - lo) b e) new);
          }
        where
          i : b.id ≡ k - 1
          i = omega (arith, (stands (k - 1 - lo) b e).0)

          st : get_elem? g.st.made b.id ≡ some b
          st = (stands (k - 1 - lo) b e).1

          m : name ≡ b.var.name
          m = n ∙ (rw (← i) (made_name g.rel.image.made b.id b st))

          front : drop (k - 1 - lo) g.bs ≡ b ∷ drop (k - lo) g.bs
          front = let q : suc (k - 1 - lo) ≡ k - lo = omega arith in drop_at g.bs (k - 1 - lo) b e ∙ (rw q refl)

          new : (j : ℕ) (x : Binding) → get_elem? (drop (k - lo) g.bs ++ g.env) j ≡ some x → x.id ≡ b.id → ⊥
          new j x q z =
              ⊎_elim
              (λ a. omega (arith, i, (stands (k - lo + j) x (sym (at_drop g.bs (k - lo) j) ∙ a)).0))
              (λ a. g.apart a.0 x a.1 (omega (arith, i)) (omega (arith, i)))
              (at_joined (drop (k - lo) g.bs) g.env j x q)

-- ---- unscope

module _ {binds t₀ : List ℕ} {lo hi : ℕ} (g : Closing binds t₀ lo hi) where
  abbrev pub Closes : ℕ → List ℕ → Type 0
  Closes k t = Rel g.W (drop (k - lo) g.bs ++ g.env) g.ss g.cap g.st g.s (mem binds g.w t)

  pub record After (k name : ℕ) (t : List ℕ) : Type 0 where
    pub few : k < 2304
    pub small : name ≡ binding_name (get_or binds k 0) → name < 1024
    pub closes : length t ≡ 20864 → name ≡ binding_name (get_or binds k 0) → Closes (k + 1) (set t name (get_or t (5120 + k) 0))

  pub closes-next : (k name : ℕ) (t : List ℕ) → lo ≤ k → k < hi → Closes k t → After k name t
  unfolding SavedAll
  closes-next k name t l h r = go (opened (get_elem? g.bs (k - lo)))
    where
      go : Opened (get_elem? g.bs (k - lo)) → After k name t
      go (absent e) = absurd (omega (arith, g.end, absent_past g.bs (k - lo) e))
      go (present b e) =
          record {
            few = omega (arith, i, made_few r.image.made b.id b st);
            small = λ n. rw (m n) (r.image.made.sound b.id b st).name;
            closes = λ long n. rw (m n) (rw i at (rel_pop long b r'));
          }
        where
          i : b.id ≡ k
          i = omega (arith, g.numbered (k - lo) b e)

          r' : Rel g.W (b ∷ (drop (k + 1 - lo) g.bs ++ g.env)) g.ss g.cap g.st g.s (mem binds g.w t)
          r' = let q : suc (k - lo) ≡ k + 1 - lo = omega arith in let f : drop (k - lo) g.bs ≡ b ∷ drop (k + 1 - lo) g.bs = drop_at g.bs (k - lo) b e ∙ (rw q refl) in rw f at r

          st : get_elem? g.st.made b.id ≡ some b
          st = r'.around.saved.0.stands

          m : name ≡ binding_name (get_or binds k 0) → name ≡ b.var.name
          m n = n ∙ (rw (← i) (made_name r.image.made b.id b st))

  pub closes_end : (k : ℕ) (t : List ℕ) → hi ≤ k → Closes k t → Rel g.W g.env g.ss g.cap g.st g.s (mem binds g.w t)
  closes_end k t h r = let e : drop (k - lo) g.bs ≡ [] = gone g.bs (k - lo) (omega (arith, g.end)) in rw e at r
