-- A section of a working list while it is filled: in the order of its places, or by names, each of which gets the number of its first place in a list.
use Prim.Native.Nat.{ℕ, ◌+◌, ◌≤◌, ◌<◌}
use mathlib.Core.Path.{◌≡◌, refl, sym, ap, ◌∙◌}
use mathlib.Core.List.{List, [], ◌∷◌, ◌++◌}
use mathlib.Core.Option.{Option, none, some}
use native.Mathlib.Omega.{arith}
use native.Mathlib.Decide.{ℕ_discrete, dec_lt}
use borrow.Author.Tests.{ne_eqb}
use lib.ListN.{length, get_or, set, length-set}
use lib.Seq.{get_or-set_same, get_or-set_other}
use Rattle.lexical.specs.Lists.{place, or_else, or_else_none, eqb_self, eqb-not}
use Rattle.store.specs.Sections.{plus}
use Rattle.store.proofs.Laws.Points.{point_set}
use Rattle.store.proofs.Laws.Names.{place_snoc}
use Rattle.note.specs.Filled.{Filled, Blank}
use Rattle.note.specs.Noted.{NumbersNoted, unless_noted}

pub filled_none : (base : ℕ) (f : ℕ → ℕ) (t : List ℕ) → Filled base 0 f t t
filled_none base f t = record { long = refl; here = λ i b. absurd (omega arith); other = λ i h. refl }

module _ {base n : ℕ} {f : ℕ → ℕ} {t t' : List ℕ} (p : Filled base n f t t') where
  -- the next place
  pub filled_push : (v : ℕ) → base + n < length t → v ≡ f n → Filled base (n + 1) f t (set t' (base + n) v)
  filled_push v l e = record {
    long = length-set t' (base + n) v ∙ p.long;
    here = λ i b. elim (ℕ_discrete i n) [
      | yes q ↦ rw q (get_or-set_same t' (base + n) v 0 (omega (arith, p.long)) ∙ e)
      | no q ↦ get_or-set_other t' (base + n) (base + i) v 0 (omega arith) ∙ p.here i (omega arith)
    ];
    other = λ i h. get_or-set_other t' (base + n) i v 0 (λ z. h n (omega arith) (sym z)) ∙ p.other i (λ j c. h j (omega arith));
  }

  -- the places that are left hold what they should already
  pub filled_wide : (m : ℕ) → n ≤ m → ((i : ℕ) → n ≤ i → i < m → get_or t (base + i) 0 ≡ f i) → Filled base m f t t'
  filled_wide m l z = record {
    long = p.long;
    here = λ i b. elim (dec_lt i n) [ yes q ↦ p.here i q | no q ↦ p.other (base + i) (λ j c. omega arith) ∙ z i (omega arith) b ];
    other = λ i h. p.other i (λ j c. h j (omega arith));
  }

  -- place k, and what is to stand at the others is as before
  pub filled_set : (f' : ℕ → ℕ) (k v : ℕ) → k < n → base + n ≤ length t → f' k ≡ v → ((i : ℕ) → i < n → (i ≡ k → ⊥) → f' i ≡ f i) → Filled base n f' t (set t' (base + k) v)
  filled_set f' k v b l e o = record {
    long = length-set t' (base + k) v ∙ p.long;
    here = point_set t' base n f f' (base + k) k v refl (omega (arith, p.long)) e o p.here;
    other = λ i h. get_or-set_other t' (base + k) i v 0 (λ z. h k b (sym z)) ∙ p.other i h;
  }

-- ---- by names

pub numbers-none : (base : ℕ) (t : List ℕ) → Blank base 1024 t → NumbersNoted base [] t t
numbers-none base t z = filled_wide (filled_none base _ t) 1024 (omega arith) (λ i _ b. z i b ∙ (unfold place plus in refl))

-- a name gets the number after the last, unless it has one
first_stays : (o : Option ℕ) (m : ℕ) → plus (or_else o (some m)) ≡ unless_noted (plus o) (m + 1)
unfolding plus or_else
first_stays none m = refl
first_stays (some j) m = rw (ne_eqb (j + 1) 0 (omega arith)) refl

pub numbers_more : {base : ℕ} {t t' : List ℕ} (xs : List ℕ) (x v : ℕ) → NumbersNoted base xs t t' → x < 1024 → base + 1024 ≤ length t → v ≡ unless_noted (plus (place x xs)) (length xs + 1)
    → NumbersNoted base (xs ++ (x ∷ [])) t (set t' (base + x) v)
numbers_more {base} {t} {t'} xs x v p h l e =
    filled_set p (λ n. plus (place n (xs ++ (x ∷ [])))) x v h l (rw (place_snoc x x xs, eqb_self x) (first_stays (place x xs) (length xs) ∙ sym e))
    (λ i _ z. rw (place_snoc i x xs, eqb-not x i (λ q. z (sym q))) (ap plus (or_else_none (place i xs))))
