-- A number cut at a binary digit: what is above the cut, and what is below it.
--     join_lt            a digits over b digits are a + b digits
--     bit_high, bit-low  a digit above or below the cut, of two numbers that are equal there
--     splice             a number with n of its digits replaced, and what each of its parts is then
use Rattle.std.specs.Prelude.{ℕ, ◌+◌, ◌-◌, ◌*◌, ◌/◌, ◌%◌, ◌^◌, ◌≤◌, ◌<◌, ◌≡◌}
use Rattle.std.proofs.Math.Path.{sym, ap}
use Rattle.std.proofs.Common.{◌∙◌, subst, arith, mod-lt, pow_pos, pow-add, shr_lt, shr-shr}
use Rattle.std.proofs.Math.Arith.{digits_lt}
use Rattle.std.proofs.Math.Pow.{high, low, field, mod-mod-pow}

pub join_lt : (q r a b : ℕ) → q < 2 ^ a → r < 2 ^ b → q * 2 ^ b + r < 2 ^ (a + b)
join_lt q r a b h l = subst (λ (x : ℕ). q * 2 ^ b + r < x) (sym (pow-add 2 a b)) (digits_lt h l)

pub bit_high : (x y t m : ℕ) → x / 2 ^ t ≡ y / 2 ^ t → t ≤ m → x / 2 ^ m % 2 ≡ y / 2 ^ m % 2
bit_high x y t m e h =
    let d : t + (m - t) ≡ m = omega arith in
    let s : (z : ℕ) → z / 2 ^ m ≡ z / 2 ^ t / 2 ^ (m - t) = λ z. sym (shr-shr z t (m - t) ∙ ap (λ (k : ℕ). z / 2 ^ k) d) in
    ap (λ (z : ℕ). z % 2) (s x ∙ ap (λ (z : ℕ). z / 2 ^ (m - t)) e ∙ sym (s y))

pub bit-low : (x y t m : ℕ) → x % 2 ^ t ≡ y % 2 ^ t → m < t → x / 2 ^ m % 2 ≡ y / 2 ^ m % 2
bit-low x y t m e h =
    let d : (t - (1 + m)) + (1 + m) ≡ t = omega arith in
    let s : (z : ℕ) → z / 2 ^ m % 2 ≡ z % 2 ^ t % 2 ^ (1 + m) / 2 ^ m =
    λ z. sym (ap (λ (k : ℕ). z % 2 ^ k % 2 ^ (1 + m) / 2 ^ m) (sym d) ∙ ap (λ (k : ℕ). k / 2 ^ m) (mod-mod-pow z (t - (1 + m)) (1 + m)) ∙ field z 1 m) in
    s x ∙ ap (λ (z : ℕ). z % 2 ^ (1 + m) / 2 ^ m) e ∙ sym (s y)

-- x, with the n digits that have j digits below them replaced by the last n digits of v
unfoldable pub splice : ℕ → ℕ → ℕ → ℕ → ℕ
splice x n j v = x / 2 ^ (n + j) * 2 ^ (n + j) + (v % 2 ^ n * 2 ^ j + x % 2 ^ j)

module _ (x n j v : ℕ) where
  lower_lt : v % 2 ^ n * 2 ^ j + x % 2 ^ j < 2 ^ (n + j)
  lower_lt = join_lt (v % 2 ^ n) (x % 2 ^ j) n j (mod-lt v (pow_pos n)) (mod-lt x (pow_pos j))

  pub splice_above : splice x n j v / 2 ^ (n + j) ≡ x / 2 ^ (n + j)
  unfolding splice
  splice_above = high (x / 2 ^ (n + j)) (n + j) lower_lt

  pub splice_in : splice x n j v / 2 ^ j % 2 ^ n ≡ v % 2 ^ n
  unfolding splice
  splice_in =
      sym (field (splice x n j v) n j)
      ∙ ap (λ (z : ℕ). z / 2 ^ j) (low (x / 2 ^ (n + j)) (n + j) lower_lt)
      ∙ high (v % 2 ^ n) j (mod-lt x (pow_pos j))

  pub splice-below : splice x n j v % 2 ^ j ≡ x % 2 ^ j
  unfolding splice
  splice-below =
      sym (mod-mod-pow (splice x n j v) n j)
      ∙ ap (λ (z : ℕ). z % 2 ^ j) (low (x / 2 ^ (n + j)) (n + j) lower_lt)
      ∙ low (v % 2 ^ n) j (mod-lt x (pow_pos j))

  pub splice_lt : (k : ℕ) → x < 2 ^ (k + (n + j)) → splice x n j v < 2 ^ (k + (n + j))
  unfolding splice
  splice_lt k h = join_lt (x / 2 ^ (n + j)) (v % 2 ^ n * 2 ^ j + x % 2 ^ j) k (n + j) (shr_lt k (n + j) h) lower_lt

  -- of a byte, a byte
  pub splice_byte : n + j ≤ 8 → x < 256 → splice x n j v < 256
  splice_byte h l =
      let e : 8 - (n + j) + (n + j) ≡ 8 = omega arith in
      subst (λ (k : ℕ). splice x n j v < 2 ^ k) e (splice_lt (8 - (n + j)) (subst (λ (k : ℕ). x < 2 ^ k) (sym e) l))
