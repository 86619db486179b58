-- Parts of a list, as `take` and `drop` give them.
--     cut, part-from         `&s[a..a + k]` and `&s[a..]`, as the check has them
--     drop-take              what is left of a part is a part
--     part_length            how long a part is that the list holds whole
--     part_past, part_rest   a part from past the end, and one that goes to the end
use Rattle.std.specs.Prelude.{ℕ, zero, suc, ◌+◌, ◌-◌, ◌≤◌, ◌≡◌, List, [], ◌∷◌, length, take, drop}
use Rattle.std.proofs.Common.{sym, ap, ◌∙◌, arith, length-take, length-drop, drop_of_length-le, take_all}
use Rattle.std.proofs.Math.Nat.{sub-zero, zero-sub, suc-sub-suc, add-sub_cancel_left, min-eq_left}
use Rattle.std.proofs.Math.Seq.{take-nil}

module _ {A : Type 0} where
  pub cut : (s : List A) (a k : ℕ) → take (a + k - a) (drop a s) ≡ take k (drop a s)
  cut s a k = ap (λ (x : ℕ). take x (drop a s)) (add-sub_cancel_left a k)

  pub part-from : (s : List A) (a : ℕ) → take (length s - a) (drop a s) ≡ drop a s
  part-from s a = take_all (length s - a) (drop a s) (omega (arith, length-drop a s))

  pub drop-take : (k n : ℕ) (s : List A) → drop k (take n s) ≡ take (n - k) (drop k s)
  drop-take zero n s = rw sub-zero
  drop-take (suc k) zero s = rw zero-sub
  drop-take (suc k) (suc n) [] = sym (take-nil (suc n - suc k))
  drop-take (suc k) (suc n) (x ∷ s) = rw suc-sub-suc (drop-take k n s)

  pub part_length : (s : List A) (a k : ℕ) → a + k ≤ length s → length (take k (drop a s)) ≡ k
  part_length s a k h = length-take k (drop a s) ∙ min-eq_left (omega (arith, length-drop a s))

  pub part_past : (s : List A) (a k : ℕ) → length s ≤ a → take k (drop a s) ≡ []
  part_past s a k h = ap (take k) (drop_of_length-le s h) ∙ take-nil k

  pub part_rest : (s : List A) (a k : ℕ) → length s - a ≤ k → take k (drop a s) ≡ drop a s
  part_rest s a k h = take_all k (drop a s) (omega (arith, length-drop a s))
