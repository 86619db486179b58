-- Sections of a working list: what a store does to them, inside and outside; a section that holds the elements of a list in order.
use Rattle.std.specs.Prelude.{ℕ, zero, suc, ◌+◌, ◌<◌, ◌≤◌, ◌≡◌, refl, List, [], ◌∷◌, ◌++◌, length, get_or, set, replicate}
use Rattle.std.proofs.Common.{sym, ◌∙◌, arith, get_or-set_same, get_or-set_other}
use Rattle.std.proofs.Math.Path.{ap}
use Rattle.std.proofs.Math.Option.{none, some}
use Rattle.std.proofs.Math.Decide.{ℕ_discrete}
use Rattle.std.proofs.Math.ListN.{get_elem?}
use Rattle.lexical.specs.Lists.{none-some}
use Rattle.lexical.specs.Places.{at_end}
use Rattle.store.specs.Sections.{Point, word_at, or_zero}

-- place j is none of the n places from base on; `omega arith` proves it
abbrev pub Off : ℕ → ℕ → ℕ → Type 0
Off j base n = (i : ℕ) → i < n → base + i ≡ j → ⊥

-- all zeros
abbrev pub Zeros : List ℕ → Type 0
Zeros l = (i : ℕ) → get_or l i 0 ≡ 0

pub zeros : (n : ℕ) → Zeros (replicate n 0)
zeros zero i = refl
zeros (suc n) zero = refl
zeros (suc n) (suc i) = zeros n i

-- a store elsewhere
pub point_skip : (l : List ℕ) (base n : ℕ) (f : ℕ → ℕ) (j v : ℕ) → Off j base n → Point l base n f → Point (set l j v) base n f
point_skip l base n f j v h p i b = get_or-set_other l j (base + i) v 0 (h i b) ∙ p i b

-- a store at place j, which is k in the section
pub point_set : (l : List ℕ) (base n : ℕ) (f f' : ℕ → ℕ) (j k v : ℕ) → j ≡ base + k → j < length l → f' k ≡ v → ((i : ℕ) → i < n → (i ≡ k → ⊥) → f' i ≡ f i) → Point l base n f → Point (set l j v) base n f'
point_set l base n f f' j k v a h e o p i b =
    elim (ℕ_discrete i k) [
      | yes q ↦ let x : base + i ≡ j = omega arith in rw (x, q) (get_or-set_same l j v 0 h ∙ sym e)
      | no q ↦ get_or-set_other l j (base + i) v 0 (omega arith) ∙ p i b ∙ sym (o i b q)
    ]

-- another function with the same values
pub point_same : (l : List ℕ) (base n : ℕ) (f f' : ℕ → ℕ) → ((i : ℕ) → i < n → f i ≡ f' i) → Point l base n f → Point l base n f'
point_same l base n f f' e p i b = p i b ∙ e i b

-- ---- a section that holds a list

-- xs' is xs with a at place k
pub record Replaced {A : Type 0} (k : ℕ) (a : A) (xs xs' : List A) : Type 0 where
  pub here : get_elem? xs' k ≡ some a
  pub other : (i : ℕ) → (i ≡ k → ⊥) → get_elem? xs' i ≡ get_elem? xs i

module _ {A : Type 0} where
  pub past : (xs : List A) (i : ℕ) → length xs ≤ i → get_elem? xs i ≡ none
  past [] i h = refl
  past (x ∷ xs) zero h = absurd (omega arith)
  past (x ∷ xs) (suc i) h = past xs i (omega arith)

  pub at_others : (xs : List A) (a : A) (i : ℕ) → (i ≡ length xs → ⊥) → get_elem? (xs ++ (a ∷ [])) i ≡ get_elem? xs i
  at_others [] a zero h = absurd (h refl)
  at_others [] a (suc i) h = refl
  at_others (x ∷ xs) a zero h = refl
  at_others (x ∷ xs) a (suc i) h = at_others xs a i (omega arith)

  pub absent_past : (xs : List A) (i : ℕ) → get_elem? xs i ≡ none → length xs ≤ i
  absent_past [] i e = omega arith
  absent_past (x ∷ xs) zero e = absurd (none-some e refl)
  absent_past (x ∷ xs) (suc i) e = omega (arith, absent_past xs i e)

  pub replaced_long : {k : ℕ} {a : A} {xs xs' : List A} → Replaced k a xs xs' → k < length xs → length xs' ≤ length xs
  replaced_long {k} {a} {xs} {xs'} r h = absent_past xs' (length xs) (r.other (length xs) (omega arith) ∙ past xs (length xs) (omega arith))

module _ {A : Type 0} (f : A → ℕ) where
  -- no element: all zeros
  pub point_none : (l : List ℕ) (base n : ℕ) → Zeros l → Point l base n (word_at f [])
  unfolding or_zero
  point_none l base n z i b = z (base + i)

  pub word_at_lem : (xs : List A) (i : ℕ) (a : A) → get_elem? xs i ≡ some a → word_at f xs i ≡ f a
  unfolding or_zero
  word_at_lem xs i a e = ap (or_zero f) e

  -- one element more
  pub point_push : (l : List ℕ) (base n : ℕ) (xs : List A) (a : A) (j v : ℕ) → j ≡ base + length xs → j < length l → v ≡ f a → Point l base n (word_at f xs) → Point (set l j v) base n (word_at f (xs ++ (a ∷ [])))
  point_push l base n xs a j v e h q p =
      point_set l base n (word_at f xs) (word_at f (xs ++ (a ∷ []))) j (length xs) v e h
      (word_at_lem (xs ++ (a ∷ [])) (length xs) a (at_end xs a) ∙ sym q) (λ i b o. ap (or_zero f) (at_others xs a i o)) p

  -- element k replaced
  pub point_replaced : (l : List ℕ) (base n : ℕ) (xs xs' : List A) (j k : ℕ) (a : A) (v : ℕ) → Replaced k a xs xs' → j ≡ base + k → j < length l → v ≡ f a → Point l base n (word_at f xs) → Point (set l j v) base n (word_at f xs')
  point_replaced l base n xs xs' j k a v r e h q p =
      point_set l base n (word_at f xs) (word_at f xs') j k v e h (word_at_lem xs' k a r.here ∙ sym q) (λ i b o. ap (or_zero f) (r.other i o)) p

  -- element k replaced by one with the same number
  pub point_kept : (l : List ℕ) (base n : ℕ) (xs xs' : List A) (k : ℕ) (a b : A) → Replaced k a xs xs' → get_elem? xs k ≡ some b → f b ≡ f a → Point l base n (word_at f xs) → Point l base n (word_at f xs')
  point_kept l base n xs xs' k a b r e q p i h =
      p i h ∙ elim (ℕ_discrete i k) [ yes z ↦ rw z (word_at_lem xs k b e ∙ q ∙ sym (word_at_lem xs' k a r.here)) | no z ↦ ap (or_zero f) (sym (r.other i z)) ]
