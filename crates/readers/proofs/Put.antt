-- A list of numbers that are put from its front, one after the other.
use Prim.Native.Nat.{ℕ, ◌+◌, ◌≤◌, ◌<◌}
use mathlib.Core.Path.{◌≡◌, refl, sym, ◌∙◌}
use mathlib.Core.List.{List}
use native.Mathlib.Omega.{arith}
use native.Mathlib.Decide.{ℕ_discrete}
use lib.ListN.{length, get_or, set, length-set}
use lib.Seq.{get_or-set_same, get_or-set_other, ext_get_or}
use Rattle.base.specs.UpTo.{up_to, up_to_length, up_to_get}

-- the first n of a list of this length are f 0, f 1, ..
pub record Put (f : ℕ → ℕ) (n long : ℕ) (l : List ℕ) : Type 0 where
  pub as_long : length l ≡ long
  pub front : (j : ℕ) → j < n → get_or l j 0 ≡ f j

pub put_none : (f : ℕ → ℕ) (l : List ℕ) → Put f 0 (length l) l
put_none f l = record { as_long = refl; front = λ j h. absurd (omega arith) }

pub put_more : {f : ℕ → ℕ} {n long : ℕ} {l : List ℕ} {x : ℕ} → Put f n long l → n < length l → x ≡ f n → Put f (n + 1) long (set l n x)
put_more {f} {n} {long} {l} {x} m h e = record {
  as_long = length-set l n x ∙ m.as_long;
  front = λ j a. elim (ℕ_discrete j n) [ yes z ↦ rw z (get_or-set_same l n x 0 h ∙ e) | no z ↦ get_or-set_other l n j x 0 z ∙ m.front j (omega arith) ];
}

pub put_all : {f : ℕ → ℕ} {n long : ℕ} {l : List ℕ} → Put f n long l → long ≤ n → l ≡ up_to f long
put_all {f} {n} {long} {l} m h = ext_get_or 0 l (up_to f long) (m.as_long ∙ sym (up_to_length f long)) (λ j a. m.front j (omega (arith, m.as_long)) ∙ sym (up_to_get f long j 0 (omega (arith, m.as_long))))
