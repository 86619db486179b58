-- The slots in the working lists: one more, a scope's parameters, the next slot of a scope.
use Rattle.std.specs.Prelude.{ℕ, suc, ◌+◌, ◌%◌, ◌<◌, ◌≤◌, ◌≡◌, Bool, true, false, cond, List, [], ◌∷◌, ◌++◌, length, get_or, set}
use Rattle.std.proofs.Math.Path.{refl, sym}
use Rattle.std.proofs.Common.{ap, ◌∙◌, arith, mod-eq_of_lt, length-set}
use Rattle.std.proofs.Math.Option.{some}
use Rattle.std.proofs.Math.Decide.{ℕ_discrete}
use Rattle.std.proofs.Math.ListN.{get_elem?, length-append}
use Rattle.lexical.specs.Lists.{count, eqb_self, eqb-not, none-some}
use Rattle.lexical.specs.Places.{at_end}
use Rattle.lexical.specs.State.{Slot}
use Rattle.lexical.specs.Block.{in_scope, fresh_in}
use Rattle.lexical.proofs.Theory.Slots.{fresh_snoc, fresh_at}
use Rattle.bits.specs.Pack.{Narrow}
use Rattle.answer.specs.Fields.{fields}
use Rattle.answer.specs.Records.{pair_widths, scope_slots}
use Rattle.answer.specs.Laws.{part-packed, changed-packed}
use Rattle.store.specs.Sections.{or_zero}
use Rattle.store.specs.Words.{pair_word, more_word, params_word, slot_word}
use Rattle.store.specs.Image.{last_from, before, SlotsIn}
use Rattle.store.proofs.Laws.Chain.{last_snoc, before_end, before_others}
use Rattle.store.proofs.Laws.Points.{Off, Zeros, at_others, point_none, point_skip, point_set, point_push}

pub fresh_few : (s : ℕ) (rs : List Slot) → fresh_in s rs ≤ length rs
unfolding fresh_in count
fresh_few s [] = omega arith
fresh_few s (r ∷ rs) = go (in_scope s r) (fresh_few s rs)
  where
    go : (b : Bool) {n m : ℕ} → n ≤ m → cond b (suc n) n ≤ suc m
    go true h = omega arith
    go false h = omega arith

-- ---- the list of them

pub slots_none : (w t : List ℕ) → Zeros w → Zeros t → SlotsIn [] (λ _. 0) w t
unfolding last_from before fresh_in count or_zero
slots_none w t z y =
    record {
      rows = point_none slot_word w 2048 4096 z;
      scopes = λ s _. z (12288 + s);
      nums = point_none (λ (r : Slot). r.num) t 16640 4096 y;
      back = λ k _. y (12544 + k);
      tail = λ i _. y (9728 + i);
      few = omega arith;
      params = λ s _. omega arith;
      sound = λ k r e. absurd (none-some refl e);
    }

-- a scope's record with one slot more
pub more_word_lem : (p n : ℕ) → p < 65536 → n < 65535 → more_word (pair_word p n) ≡ pair_word p (n + 1)
more_word_lem p n h l =
    changed-packed pair_widths (p ∷ n ∷ []) fits 1 (scope_slots (pair_word p n) + 1) (omega arith)
    ∙ ap (λ (x : ℕ). pair_word p ((x + 1) % 65536)) (part-packed pair_widths (p ∷ n ∷ []) fits 1 (omega arith))
    ∙ ap (pair_word p) (mod-eq_of_lt (omega arith))
  where
    fits : Narrow (fields pair_widths (p ∷ n ∷ []))
    fits = (h, (omega arith, tt))

module _ {rs : List Slot} {P : ℕ → ℕ} {w t : List ℕ} (m : SlotsIn rs P w t) where
  -- a store elsewhere
  pub slots_skip_w : (j v : ℕ) → Off j 2048 4096 → Off j 12288 256 → SlotsIn rs P (set w j v) t
  slots_skip_w j v h g =
      record { rows = point_skip w 2048 4096 _ j v h m.rows; scopes = point_skip w 12288 256 _ j v g m.scopes; nums = m.nums; back = m.back; tail = m.tail; few = m.few; params = m.params; sound = m.sound }

  pub slots_skip_t : (j v : ℕ) → Off j 9728 2304 → Off j 12544 8192 → SlotsIn rs P w (set t j v)
  slots_skip_t j v h g =
      record {
        rows = m.rows;
        scopes = m.scopes;
        nums = point_skip t 16640 4096 _ j v (λ i b e. g (4096 + i) (omega arith) (omega arith)) m.nums;
        back = point_skip t 12544 4096 _ j v (λ i b e. g i (omega arith) e) m.back;
        tail = point_skip t 9728 2304 _ j v h m.tail;
        few = m.few;
        params = m.params;
        sound = m.sound;
      }

  -- the next slot of a scope: `fresh_slot`
  pub fresh_read : (s : ℕ) → s < 256 → scope_slots (get_or w (12288 + s) 0) ≡ fresh_in s rs
  fresh_read s h = omega (arith, m.scopes s h, m.few, fresh_few s rs)

  module _ (long_w : length w ≡ 12544) where
    -- other parameter variables of scope s: `set_param_count`
    pub slots_params : (P' : ℕ → ℕ) (s n : ℕ) → s < 256 → n < 65536 → P' s ≡ n → ((u : ℕ) → (u ≡ s → ⊥) → P' u ≡ P u)
        → SlotsIn rs P' (set w (12288 + s) (params_word n (get_or w (12288 + s) 0))) t
    slots_params P' s n h g e o =
        record {
          rows = point_skip w 2048 4096 _ _ _ (omega arith) m.rows;
          scopes = point_set w 12288 256 _ _ (12288 + s) s _ refl (omega arith) (omega (arith, fresh_read s h)) (λ u _ z. rw (o u z) refl) m.scopes;
          nums = m.nums;
          back = m.back;
          tail = m.tail;
          few = m.few;
          params = λ u b. elim (ℕ_discrete u s) [ yes z ↦ rw (z, e) g | no z ↦ rw (o u z) (m.params u b) ];
          sound = m.sound;
        }

    -- one more: `put_slot` and `link_slot`
    pub slots_push : length t ≡ 20864 → (r : Slot) (k : ℕ) → k ≡ length rs → k < 4096 → r.num ≡ fresh_in r.scope rs → r.scope < 256 → r.name < 65536 → r.id < 2304
        → SlotsIn (rs ++ (r ∷ [])) P
        (set (set w (2048 + k) (pair_word r.scope r.name)) (12288 + r.scope) (more_word (get_or w (12288 + r.scope) 0)))
        (set (set (set t (16640 + k) r.num) (12544 + k) (get_or t (9728 + r.id) 0)) (9728 + r.id) (k + 1))
    slots_push long-t r k e h n s a i =
        record {
          rows = point_skip w₁ 2048 4096 _ _ _ (omega arith) (point_push slot_word w 2048 4096 rs r (2048 + k) _ (omega arith) (omega arith) (unfold slot_word in refl) m.rows);
          scopes = point_set w₁ 12288 256 _ _ (12288 + r.scope) r.scope _ refl (omega (arith, long_w₁)) (ap (pair_word (P r.scope)) one_more ∙ sym (ap more_word (m.scopes r.scope s) ∙ more_word_lem (P r.scope) (fresh_in r.scope rs) (m.params r.scope s) (omega (arith, m.few, fresh_few r.scope rs))))
              (λ u _ z. rw (fresh_snoc u rs r, eqb-not r.scope u (λ q. z (sym q))) refl) (point_skip w 12288 256 _ _ _ (omega arith) m.scopes);
          nums = point_skip t₂ 16640 4096 _ _ _ (omega arith)
              (point_skip t₁ 16640 4096 _ _ _ (omega arith) (point_push (λ (r : Slot). r.num) t 16640 4096 rs r (16640 + k) _ (omega arith) (omega arith) refl m.nums));
          back = point_skip t₂ 12544 4096 _ _ _ (omega arith)
              (point_set t₁ 12544 4096 _ _ (12544 + k) k _ refl (omega (arith, long_t₁)) (rw e (before_end rs r) ∙ sym (m.tail r.id i)) (λ j _ z. before_others rs r j (omega arith))
              (point_skip t 12544 4096 _ _ _ (omega arith) m.back));
          tail = point_set t₂ 9728 2304 _ _ (9728 + r.id) r.id _ refl (omega (arith, long_t₁, long_t₂)) (last_snoc r.id rs r ∙ (rw (eqb_self r.id) (omega arith)))
              (λ j _ z. last_snoc j rs r ∙ (rw (eqb-not r.id j (λ q. z (sym q))) refl))
              (point_skip t₁ 9728 2304 _ _ _ (omega arith) (point_skip t 9728 2304 _ _ _ (omega arith) m.tail));
          few = omega (arith, length-append rs (r ∷ []));
          params = m.params;
          sound = λ j x q. go j x q (ℕ_discrete j (length rs));
        }
      where
        one_more : fresh_in r.scope (rs ++ (r ∷ [])) ≡ fresh_in r.scope rs + 1
        one_more = omega (arith, fresh_at rs r)

        w₁ : List ℕ
        w₁ = set w (2048 + k) (pair_word r.scope r.name)

        long_w₁ : length w₁ ≡ length w
        long_w₁ = length-set w (2048 + k) (pair_word r.scope r.name)

        t₁ : List ℕ
        t₁ = set t (16640 + k) r.num

        long_t₁ : length t₁ ≡ length t
        long_t₁ = length-set t (16640 + k) r.num

        t₂ : List ℕ
        t₂ = set t₁ (12544 + k) (get_or t (9728 + r.id) 0)

        long_t₂ : length t₂ ≡ length t₁
        long_t₂ = length-set t₁ (12544 + k) (get_or t (9728 + r.id) 0)

        go : (j : ℕ) (x : Slot) → get_elem? (rs ++ (r ∷ [])) j ≡ some x → Dec (j ≡ length rs) → (x.scope < 256) × (x.num < 4096) × (x.name < 65536)
        go j x q (yes z) = let p : r ≡ x = cc (at_end rs r) in rw (← p) (s, omega (arith, fresh_few r.scope rs), a)
        go j x q (no z) = m.sound j x (sym (at_others rs r j z) ∙ q)
