-- The module's names, the globals and the hidden names in the working list t; what each function has; the scratch table of a block.
use Rattle.std.specs.Prelude.{ℕ, suc, ◌+◌, ◌<◌, ◌≤◌, ◌≡◌, refl, Bool, true, false, cond, List, [], ◌∷◌, ◌++◌, eqb, length, get_or, set}
use Rattle.std.proofs.Common.{sym, ap, ◌∙◌, arith, length-append, length-set, get_or-set_same}
use Rattle.std.proofs.Math.Option.{none, some}
use Rattle.std.proofs.Math.Decide.{ℕ_discrete}
use Rattle.std.proofs.Math.Seq.{get_or-set_other}
use Rattle.lexical.specs.Lists.{place, map_o, or_else, or_else_none, map_o_or_else, map_o_cond, eqb_self, eqb-not, none-some}
use Rattle.lexical.specs.Places.{at_append}
use Rattle.lexical.specs.Module.{File}
use Rattle.lexical.specs.State.{Binding}
use Rattle.store.specs.Sections.{plus}
use Rattle.store.specs.Meanings.{NamesIn, Range, RangesIn}
use Rattle.store.proofs.Laws.Points.{Off, Zeros, point_skip, point_set}

-- ---- the module, the globals, hidden names

pub place_snoc : (n x : ℕ) (xs : List ℕ) → place n (xs ++ (x ∷ [])) ≡ or_else (place n xs) (cond (eqb x n) (some (length xs)) none)
unfolding place or_else map_o
place_snoc n x [] = refl
place_snoc n x (y ∷ xs) = go (eqb y n) (place_snoc n x xs)
  where
    go : (b : Bool) → place n (xs ++ (x ∷ [])) ≡ or_else (place n xs) (cond (eqb x n) (some (length xs)) none)
        → cond b (some 0) (map_o suc (place n (xs ++ (x ∷ [])))) ≡ or_else (cond b (some 0) (map_o suc (place n xs))) (cond (eqb x n) (some (suc (length xs))) none)
    go true e = refl
    go false e = ap (map_o suc) e ∙ map_o_or_else suc (place n xs) _ ∙ ap (or_else (map_o suc (place n xs))) (map_o_cond suc (eqb x n) (length xs) none)

pub names_skip : {F : File} {mods t : List ℕ} (j v : ℕ) → Off j 1024 3072 → (20863 ≡ j → ⊥) → NamesIn F mods t → NamesIn F mods (set t j v)
names_skip {F} {mods} {t} j v h z m =
    record {
      in_module = point_skip t 1024 1024 _ j v (λ i b e. h i (omega arith) e) m.in_module;
      in_globals = point_skip t 2048 1024 _ j v (λ i b e. h (1024 + i) (omega arith) (omega arith)) m.in_globals;
      hidden = point_skip t 3072 1024 _ j v (λ i b e. h (2048 + i) (omega arith) (omega arith)) m.hidden;
      shown = get_or-set_other t j 20863 v 0 z ∙ m.shown;
    }

-- one name more in the module: `put_known`
pub names_push : {F : File} {mods t : List ℕ} (n k : ℕ) → length t ≡ 20864 → n < 1024 → place n mods ≡ none → k ≡ length mods → NamesIn F mods t → NamesIn F (mods ++ (n ∷ [])) (set t (1024 + n) (k + 1))
names_push {F} {mods} {t} n k long h e q m =
    record {
      in_module = point_set t 1024 1024 _ _ (1024 + n) n _ refl (omega arith) (rw (place_snoc n n mods, e, eqb_self n) (unfold or_else plus in rw q refl))
          (λ i _ z. rw (place_snoc i n mods, eqb-not n i (λ p. z (sym p))) (ap plus (or_else_none (place i mods)))) m.in_module;
      in_globals = point_skip t 2048 1024 _ _ _ (omega arith) m.in_globals;
      hidden = point_skip t 3072 1024 _ _ _ (omega arith) m.hidden;
      shown = get_or-set_other t (1024 + n) 20863 (k + 1) 0 (omega arith) ∙ m.shown;
    }

-- ---- what each function has

pub range_more : {made bs : List Binding} {lo hi : ℕ} (xs : List Binding) → Range made bs lo hi → Range (made ++ xs) bs lo hi
range_more {made} xs r = record { end = r.end; within = omega (arith, r.within, length-append made xs); are = λ k b e. at_append made xs _ b (r.are k b e); locals = r.locals }

pub ranges_none : (made : List Binding) (t : List ℕ) → Zeros t → RangesIn (λ _. []) made t
ranges_none made t z s h = record { end = z (12288 + s) ∙ omega (arith, z (12032 + s)); within = omega (arith, z (12288 + s)); are = λ k b e. absurd (none-some refl e); locals = λ k b e. absurd (none-some refl e) }

module _ (D : ℕ → List Binding) (made : List Binding) (t : List ℕ) (m : RangesIn D made t) where
  pub ranges_skip : (j v : ℕ) → Off j 12032 512 → RangesIn D made (set t j v)
  ranges_skip j v h s b = rw (get_or-set_other t j (12032 + s) v 0 (h s (omega arith)), get_or-set_other t j (12288 + s) v 0 (λ e. h (256 + s) (omega arith) (omega arith))) (m s b)

  pub ranges_more : (xs : List Binding) → RangesIn D (made ++ xs) t
  ranges_more xs s b = range_more xs (m s b)

  -- a function's variables: `put_range`
  pub ranges_put : length t ≡ 20864 → (D' : ℕ → List Binding) (s lo hi : ℕ) → s < 256 → Range made (D' s) lo hi → ((u : ℕ) → (u ≡ s → ⊥) → D' u ≡ D u) → RangesIn D' made (set (set t (12032 + s) lo) (12288 + s) hi)
  ranges_put long D' s lo hi h r o u b =
      elim (ℕ_discrete u s) [
        | yes z ↦ rw (z, get_or-set_other t₁ (12288 + s) (12032 + s) hi 0 (omega arith), get_or-set_same t (12032 + s) lo 0 (omega arith), get_or-set_same t₁ (12288 + s) hi 0 (omega (arith, length-set t (12032 + s) lo))) r
        | no z ↦ rw (o u z, get_or-set_other t₁ (12288 + s) (12032 + u) hi 0 (omega arith), get_or-set_other t (12032 + s) (12032 + u) lo 0 (omega arith), get_or-set_other t₁ (12288 + s) (12288 + u) hi 0 (omega arith), get_or-set_other t (12032 + s) (12288 + u) lo 0 (omega arith)) (m u b)
      ]
    where
      t₁ : List ℕ
      t₁ = set t (12032 + s) lo

-- ---- the scratch table of a block

pub scratch_skip : (t : List ℕ) (n j v : ℕ) → Off j 4096 1024 → ((i : ℕ) → i < 1024 → get_or t (4096 + i) 0 ≤ n) → (i : ℕ) → i < 1024 → get_or (set t j v) (4096 + i) 0 ≤ n
scratch_skip t n j v h m i b = rw (get_or-set_other t j (4096 + i) v 0 (h i b)) (m i b)
