-- The laws of a packed field, each stated once over the width.
--     bit_lt, field_lt            a bit is below 2, a field of w bits below 2 ^ w
--     field-split                 v + w bits are v bits, then w bits
--     field-inner                 a field inside a longer one: a shift and a remainder
--     field-bit                   each bit of a field is a bit of the bytes
--     field_same                  equal bits make equal fields
--     field-drop, field_record, field-take, field_past   a field of a part of the bytes, of a record, and past their end
--     field-set                   a field that does not touch the byte that is changed
--     field_in_byte, field_8, field_more, field_16, field_24   a field inside one byte, and of whole bytes
--     field_is, field_wide, field_read     a reader's answer
use Rattle.std.specs.Prelude.{ℕ, zero, suc, ◌+◌, ◌-◌, ◌*◌, ◌/◌, ◌%◌, ◌^◌, ◌≤◌, ◌<◌, ◌≡◌, refl, List, ◌⊎◌, length, get_or, take, drop, set}
use Rattle.std.proofs.Common.{sym, ap, ap₂, ◌∙◌, subst, inl, inr, arith, mod-lt, pow-suc, mul_assoc, add-zero, add-suc, add_assoc, zero-lt-suc, mul-suc, div-one, mod-eq_of_lt, lt_of_lt_of_le, add-one, le-leb, pow_pos, pow_mono, get_or-drop, get_or-take, get_or-set_other}
use Rattle.std.proofs.Math.Nat.{div-div-eq-div-mul, mod-one, zero-div}
use Rattle.std.proofs.lemmas.Bool.{lt-leb}
use Rattle.std.proofs.Math.Pow.{high, low}
use Rattle.std.proofs.lemmas.Nat.{mod-pow-add}
use Rattle.std.proofs.Math.ListN.{get_or-eq_default}
use Rattle.bits.specs.Field.{bit_of, field_of, Field}

pub bit_lt : (bs : List ℕ) (i : ℕ) → bit_of bs i < 2
unfolding bit_of
bit_lt bs i = mod-lt (get_or bs (i / 8) 0 / 2 ^ (7 - i % 8)) (zero-lt-suc 1)

pub field_lt : (bs : List ℕ) (at w : ℕ) → field_of bs at w < 2 ^ w
unfolding field_of
field_lt bs at zero = omega arith
field_lt bs at (suc w) = omega (arith, pow-suc 2 w, field_lt bs at w, bit_lt bs (at + w))

-- the bound as a number, for the widths that a reader takes
pub field_lt_32 : (bs : List ℕ) (at w : ℕ) → w ≤ 32 → field_of bs at w < 4294967296
field_lt_32 bs at w h = lt_of_lt_of_le (field_lt bs at w) (pow_mono {j = 32} h)

pub field-split : (bs : List ℕ) (at v w : ℕ) → field_of bs at (v + w) ≡ field_of bs at v * 2 ^ w + field_of bs (at + v) w
unfolding field_of
field-split bs at v zero = let e : v + 0 ≡ v = add-zero v in rw e (omega arith)
field-split bs at v (suc w) =
    rw (add-suc v w, pow-suc 2 w, ← mul_assoc (field_of bs at v) (2 ^ w) 2, add_assoc at v w) (omega (arith, field-split bs at v w))

-- the w bits that stand u bits into u + w + v bits
pub field-inner : (bs : List ℕ) (at u w v : ℕ) → field_of bs (at + u) w ≡ field_of bs at (u + w + v) / 2 ^ v % 2 ^ w
field-inner bs at u w v =
    sym
    (ap (λ (x : ℕ). x / 2 ^ v % 2 ^ w) (field-split bs at (u + w) v)
    ∙ ap (λ (x : ℕ). x % 2 ^ w) (high (field_of bs at (u + w)) v (field_lt bs (at + (u + w)) v))
    ∙ ap (λ (x : ℕ). x % 2 ^ w) (field-split bs at u w)
    ∙ low (field_of bs at u) w (field_lt bs (at + u) w))

-- ---- a field and its bits

-- the bit with u bits of the field before it and v after it
pub field-bit : (bs : List ℕ) (at u v : ℕ) → bit_of bs (at + u) ≡ field_of bs at (u + 1 + v) / 2 ^ v % 2
unfolding field_of
field-bit bs at u v = omega (arith, field-inner bs at u 1 v, ap (bit_of bs) (add-zero (at + u)))

pub field_same : (bs cs : List ℕ) (a b w : ℕ) → ((k : ℕ) → k < w → bit_of bs (a + k) ≡ bit_of cs (b + k)) → field_of bs a w ≡ field_of cs b w
unfolding field_of
field_same bs cs a b zero h = refl
field_same bs cs a b (suc w) h = ap₂ (λ (x y : ℕ). x * 2 + y) (field_same bs cs a b w (λ k l. h k (omega arith))) (h w (omega arith))

-- ---- parts of the bytes, and a byte changed

pub bit-drop : (bs : List ℕ) (a i : ℕ) → bit_of (drop a bs) i ≡ bit_of bs (8 * a + i)
unfolding bit_of
bit-drop bs a i =
    let p : (8 * a + i) / 8 ≡ a + i / 8 = omega arith in
    let q : (8 * a + i) % 8 ≡ i % 8 = omega arith in
    rw (p, q, get_or-drop)

pub bit-take : (bs : List ℕ) (n i : ℕ) → i < 8 * n → bit_of (take n bs) i ≡ bit_of bs i
unfolding bit_of
bit-take bs n i h =
    let p : i / 8 < n = omega arith in
    rw get_or-take

pub bit_past : (bs : List ℕ) (i : ℕ) → 8 * length bs ≤ i → bit_of bs i ≡ 0
unfolding bit_of
bit_past bs i h =
    let p : get_or bs (i / 8) 0 ≡ 0 = get_or-eq_default bs 0 (omega arith) in
    rw p (ap (λ (x : ℕ). x % 2) (zero-div (2 ^ (7 - i % 8))))

pub bit-set : (bs : List ℕ) (a x i : ℕ) → (i / 8 ≡ a → ⊥) → bit_of (set bs a x) i ≡ bit_of bs i
unfolding bit_of
bit-set bs a x i h = ap (λ (y : ℕ). y / 2 ^ (7 - i % 8) % 2) (get_or-set_other bs a (i / 8) x 0 h)

pub field-drop : (bs : List ℕ) (a at w : ℕ) → field_of (drop a bs) at w ≡ field_of bs (8 * a + at) w
field-drop bs a at w = field_same (drop a bs) bs at (8 * a + at) w (λ k h. bit-drop bs a (at + k) ∙ ap (bit_of bs) (sym (add_assoc (8 * a) at k)))

-- a field of record k, in a list of records of n bytes
pub field_record : (bs : List ℕ) (n k at w : ℕ) → field_of (drop (n * k) bs) at w ≡ field_of bs (8 * n * k + at) w
field_record bs n k at w = field-drop bs (n * k) at w ∙ ap (λ (x : ℕ). field_of bs (x + at) w) (sym (mul_assoc 8 n k))

pub field-take : (bs : List ℕ) (n at w : ℕ) → at + w ≤ 8 * n → field_of (take n bs) at w ≡ field_of bs at w
field-take bs n at w h = field_same (take n bs) bs at at w (λ k l. bit-take bs n (at + k) (omega arith))

pub field_past : (bs : List ℕ) (at w : ℕ) → 8 * length bs ≤ at → field_of bs at w ≡ 0
unfolding field_of
field_past bs at zero h = refl
field_past bs at (suc w) h = rw (field_past bs at w h, bit_past bs (at + w) (omega arith))

pub field-set : (bs : List ℕ) (a x at w : ℕ) → (at + w ≤ 8 * a) ⊎ (8 * a + 8 ≤ at) → field_of (set bs a x) at w ≡ field_of bs at w
field-set bs a x at w (inl h) = field_same (set bs a x) bs at at w (λ k l. bit-set bs a x (at + k) (λ e. omega arith))
field-set bs a x at w (inr h) = field_same (set bs a x) bs at at w (λ k l. bit-set bs a x (at + k) (λ e. omega arith))

-- ---- inside one byte, and whole bytes

pub bit_in_byte : (bs : List ℕ) (a k j : ℕ) → k + j ≡ 7 → bit_of bs (8 * a + k) ≡ get_or bs a 0 / 2 ^ j % 2
unfolding bit_of
bit_in_byte bs a k j h =
    let p : (8 * a + k) / 8 ≡ a = omega arith in
    let q : 7 - (8 * a + k) % 8 ≡ j = omega arith in
    rw (p, q)

-- the w bits that stand k bits into byte a, with j bits of the byte after them
pub field_in_byte : (bs : List ℕ) (a k w j : ℕ) → k + w + j ≡ 8 → field_of bs (8 * a + k) w ≡ get_or bs a 0 / 2 ^ j % 2 ^ w
unfolding field_of
field_in_byte bs a k zero j h = sym (mod-one (get_or bs a 0 / 2 ^ j))
field_in_byte bs a k (suc w) j h =
    let x = get_or bs a 0 in
    let e : field_of bs (8 * a + k) w ≡ x / 2 ^ suc j % 2 ^ w = field_in_byte bs a k w (suc j) (omega arith) in
    let b : bit_of bs (8 * a + k + w) ≡ x / 2 ^ j % 2 = rw add_assoc (bit_in_byte bs a (k + w) j (omega arith)) in
    let d : x / 2 ^ j / 2 ≡ x / 2 ^ suc j = div-div-eq-div-mul x (2 ^ j) 2 ∙ ap (λ (y : ℕ). x / y) (sym (pow-suc 2 j)) in
    ap₂ (λ (y z : ℕ). y * 2 + z) (e ∙ ap (λ (y : ℕ). y % 2 ^ w) (sym d)) b
    ∙ sym (ap (λ (n : ℕ). x / 2 ^ j % 2 ^ n) (sym (add-one w)) ∙ mod-pow-add (x / 2 ^ j) w 1)

-- a whole byte
pub field_8 : (bs : List ℕ) (a : ℕ) → get_or bs a 0 < 256 → field_of bs (8 * a) 8 ≡ get_or bs a 0
field_8 bs a h =
    ap (λ (n : ℕ). field_of bs n 8) (sym (add-zero (8 * a))) ∙ field_in_byte bs a 0 8 0 refl
    ∙ ap (λ (x : ℕ). x % 256) (div-one (get_or bs a 0)) ∙ mod-eq_of_lt h

-- one byte more
pub field_more : (bs : List ℕ) (a n : ℕ) → get_or bs (a + n) 0 < 256 → field_of bs (8 * a) (8 * suc n) ≡ field_of bs (8 * a) (8 * n) * 256 + get_or bs (a + n) 0
field_more bs a n h =
    let e : 8 * a + 8 * n ≡ 8 * (a + n) = omega arith in
    rw (mul-suc 8 n, field-split bs (8 * a) (8 * n) 8, e, field_8 bs (a + n) h)

pub field_16 : (bs : List ℕ) (a : ℕ) → get_or bs a 0 < 256 → get_or bs (a + 1) 0 < 256 → field_of bs (8 * a) 16 ≡ get_or bs a 0 * 256 + get_or bs (a + 1) 0
field_16 bs a h₀ h₁ = rw (field_more bs a 1 h₁, field_8 bs a h₀)

pub field_24 : (bs : List ℕ) (a : ℕ) → get_or bs a 0 < 256 → get_or bs (a + 1) 0 < 256 → get_or bs (a + 2) 0 < 256
    → field_of bs (8 * a) 24 ≡ (get_or bs a 0 * 256 + get_or bs (a + 1) 0) * 256 + get_or bs (a + 2) 0
field_24 bs a h₀ h₁ h₂ = rw (field_more bs a 2 h₂, field_16 bs a h₀ h₁)

-- ---- a reader's answer, at a width that it takes and at one that it does not

pub field_is : (bs : List ℕ) (at w r : ℕ) → w ≤ 32 → r ≡ field_of bs at w → Field bs at w r
field_is bs at w r h e = record { is = rw (le-leb w 32 h) e; below = subst (λ (x : ℕ). x < 2 ^ w) (sym e) (field_lt bs at w) }

pub field_wide : (bs : List ℕ) (at w : ℕ) → 32 < w → Field bs at w 0
field_wide bs at w h = record { is = rw (lt-leb w 32 h) refl; below = pow_pos w }

-- the answer, where the width is not written out
pub field_read : {bs : List ℕ} {at w r : ℕ} → w ≤ 32 → Field bs at w r → r ≡ field_of bs at w
field_read {bs} {at} {w} h f = rw (le-leb w 32 h) at f.is
