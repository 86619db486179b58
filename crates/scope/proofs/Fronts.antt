-- From the working lists to the buffers: what is copied out of them is the packed records, and then zeros.
use Prim.Native.Nat.{ℕ, ◌+◌, ◌<◌, ◌≤◌}
use mathlib.Core.Path.{◌≡◌, sym, ◌∙◌}
use mathlib.Core.List.{List, map, map-map}
use native.Mathlib.Omega.{arith}
use native.Mathlib.Decide.{dec_lt}
use lib.ListN.{length, get_or, length-map}
use Rattle.store.specs.Sections.{Point, word_at}
use Rattle.store.proofs.Laws.Points.{Zeros}
use Rattle.target.specs.Alike.{map_like}
use Rattle.answer.specs.Buffers.{Front}
use Rattle.scope.specs.Filled.{Filled}
use Rattle.scope.specs.Laws.Front.{get_past, front-is, word_get}

-- a buffer that was all zeros
module _ {f : ℕ → ℕ} {n : ℕ} {old new : List ℕ} (m : Filled f n old new) (z : Zeros old) where
  pub filled_front : (xs : List ℕ) → length xs ≤ n → length xs ≤ length old → ((j : ℕ) → j < n → f j ≡ get_or xs j 0) → Front new (length old) xs
  filled_front xs a b h = front-is new (length old) xs m.long b (λ j _. elim (dec_lt j n) [ yes l ↦ m.front j l ∙ h j l | no l ↦ m.rest j (omega arith) ∙ z j ∙ sym (get_past xs j (omega arith)) ])

-- a section of w that holds a list
pub section_front : {A : Type 0} (g : A → ℕ) (w : List ℕ) (base cap : ℕ) (ys : List A) → Point w base cap (word_at g ys) → length ys ≤ cap → (n : ℕ) → n ≡ length ys
    → {old new : List ℕ} → Filled (λ j. get_or w (base + j) 0) n old new → Zeros old → length ys ≤ length old → Front new (length old) (map g ys)
section_front g w base cap ys p few n e m z long =
    let l : length (map g ys) ≡ length ys = length-map ys g in
    filled_front m z (map g ys) (omega arith) (omega arith) (λ j h. p j (omega arith) ∙ word_get g ys j)

-- two ways to the same numbers
pub map_words : {A : Type 0} (g : A → ℕ) (r : A → List ℕ) (h : List ℕ → ℕ) → ((a : A) → g a ≡ h (r a)) → (ys : List A) → map g ys ≡ map h (map r ys)
map_words g r h e ys = map_like g (λ (a : _). h (r a)) ys (λ j a _. e a) ∙ sym (map-map h r ys)
