-- The laws of writing a packed field.
--     written_none, written_more, written_byte   nothing written; one piece before another; a piece inside one byte
--     written_fits       a value that fits reads back as it is
--     written_apart      a field beside the one that is written reads as before; written-part: so does a part of the bytes
--     written_pair       two fields side by side are one
--     written_one        no second list of bytes is left
use Rattle.std.specs.Prelude.{ℕ, ◌+◌, ◌-◌, ◌*◌, ◌/◌, ◌%◌, ◌^◌, ◌≤◌, ◌<◌, min, ◌≡◌, refl, ◌⊎◌, List, length, get_or, take, drop, set}
use Rattle.std.proofs.Math.Path.{sym, ap, subst}
use Rattle.std.proofs.Common.{ap₂, ◌∙◌, mod-eq_of_lt, length-take, length-drop, get_or-take, get_or-drop, get_or-set_same, ext_get_or}
use Rattle.std.proofs.Math.Logic.{inl, inr, ⊎_elim}
use native.Mathlib.Omega.{arith}
use Rattle.std.proofs.Math.Nat.{mod-one}
use Rattle.std.proofs.Math.Decide.{dec_lt, ℕ_discrete}
use Rattle.std.proofs.Math.Pow.{high, low}
use Rattle.std.proofs.lemmas.Nat.{mod-pow-add}
use Rattle.std.proofs.Math.ListN.{length-set}
use Rattle.bits.specs.Field.{bit_of, field_of}
use Rattle.bits.proofs.FieldLaws.{field-split, field_same, field-bit, field_in_byte, field_8, bit_in_byte, bit-set}
use Rattle.bits.specs.Digits.{bit_high, bit-low, splice, splice_above, splice_in, splice-below}
use Rattle.bits.specs.Put.{Written}

pub written_none : (s : List ℕ) (at x : ℕ) → Written s at 0 x s
unfolding field_of
written_none s at x = record { long = refl; field = sym (mod-one x); other = λ i h. refl }

pub written_fits : {s t : List ℕ} {at w x : ℕ} → Written s at w x t → x < 2 ^ w → field_of t at w ≡ x
written_fits p h = p.field ∙ mod-eq_of_lt h

pub written_apart : {s t : List ℕ} {at w x : ℕ} → Written s at w x t → (a v : ℕ) → (a + v ≤ at) ⊎ (at + w ≤ a) → field_of t a v ≡ field_of s a v
written_apart {s} {t} p a v (inl h) = field_same t s a a v (λ k l. p.other (a + k) (inl (omega arith)))
written_apart {s} {t} p a v (inr h) = field_same t s a a v (λ k l. p.other (a + k) (inr (omega arith)))

-- the last w bits of x, and then the v bits of x before them
pub written_more : {s t u : List ℕ} {at v w x : ℕ} → Written s (at + v) w x t → Written t at v (x / 2 ^ w) u → Written s at (v + w) x u
written_more {s} {t} {u} {at} {v} {w} {x} p q =
    record {
      long = q.long ∙ p.long;
      field = field-split u at v w ∙ ap₂ (λ (y z : ℕ). y * 2 ^ w + z) q.field (written_apart q (at + v) w (inr (omega arith)) ∙ p.field) ∙ sym (mod-pow-add x v w);
      other = λ i h. ⊎_elim
          (λ l. q.other i (inl l) ∙ p.other i (inl (omega arith)))
          (λ l. q.other i (inr (omega arith)) ∙ p.other i (inr (omega arith)))
          h;
    }

-- two fields that stand side by side, the first one written first
pub written_pair : {s t u : List ℕ} {at v w x y : ℕ} → Written s at v x t → Written t (at + v) w y u → y < 2 ^ w → Written s at (v + w) (x * 2 ^ w + y) u
written_pair {s} {t} {u} {at} {v} {w} {x} {y} p q h =
    let z = x * 2 ^ w + y in
    let e : field_of u at v ≡ z / 2 ^ w % 2 ^ v = written_apart q at v (inl (omega arith)) ∙ p.field ∙ ap (λ (n : ℕ). n % 2 ^ v) (sym (high x w h)) in
    let d : field_of u (at + v) w ≡ z % 2 ^ w = q.field ∙ mod-eq_of_lt h ∙ sym (low x w h) in
    record {
      long = q.long ∙ p.long;
      field = field-split u at v w ∙ ap₂ (λ (m n : ℕ). m * 2 ^ w + n) e d ∙ sym (mod-pow-add z v w);
      other = λ i l. ⊎_elim
          (λ a. q.other i (inl (omega arith)) ∙ p.other i (inl a))
          (λ a. q.other i (inr (omega arith)) ∙ p.other i (inr (omega arith)))
          l;
    }

-- n bits inside byte b, k bits before them and j after
module _ (s : List ℕ) (b k n j v : ℕ) (fit : k + n + j ≡ 8) (in_List : b < length s) where
  new : ℕ
  new = splice (get_or s b 0) n j v

  new-at : get_or (set s b new) b 0 ≡ new
  new-at = get_or-set_same s b new 0 in_List

  -- a bit of byte b, before or after the n bits
  bit_kept : (i : ℕ) → i < 8 → (i < k) ⊎ (k + n ≤ i) → bit_of (set s b new) (8 * b + i) ≡ bit_of s (8 * b + i)
  unfolding new
  bit_kept i l h =
      bit_in_byte (set s b new) b i (7 - i) (omega arith)
      ∙ ap (λ (y : ℕ). y / 2 ^ (7 - i) % 2) new-at
      ∙ ⊎_elim
      (λ a. bit_high new (get_or s b 0) (n + j) (7 - i) (splice_above (get_or s b 0) n j v) (omega arith))
      (λ a. bit-low new (get_or s b 0) j (7 - i) (splice-below (get_or s b 0) n j v) (omega arith))
      h
      ∙ sym (bit_in_byte s b i (7 - i) (omega arith))

  pub written_byte : Written s (8 * b + k) n v (set s b (splice (get_or s b 0) n j v))
  unfolding new
  written_byte =
      record {
        long = length-set s b new;
        field = field_in_byte (set s b new) b k n j fit ∙ ap (λ (y : ℕ). y / 2 ^ j % 2 ^ n) new-at ∙ splice_in (get_or s b 0) n j v;
        other = λ i h. elim (ℕ_discrete (i / 8) b) [
          | no a ↦ bit-set s b new i a
          | yes a ↦ let e : 8 * b + i % 8 ≡ i = omega arith in
              subst (λ (y : ℕ). bit_of (set s b new) y ≡ bit_of s y) e
              (bit_kept (i % 8) (omega arith) (⊎_elim (λ l. inl (omega arith)) (λ l. inr (omega arith)) h))
        ];
      }

-- one turn of the writer, from the last bits to the first: w bits are left, and the n before bit at + w go into byte b
pub written_turn : {s t : List ℕ} {x : ℕ} (at width w n b j v : ℕ) → w ≤ width → n ≤ w → n + j ≤ 8 → 8 * b + 8 ≡ at + w + j → b < length t
    → v ≡ x / 2 ^ (width - w) → Written s (at + w) (width - w) x t → Written s (at + (w - n)) (width - (w - n)) x (set t b (splice (get_or t b 0) n j v))
written_turn {s} {t} {x} at width w n b j v h l m e i q p =
    let u = set t b (splice (get_or t b 0) n j v) in
    let a : at + (w - n) + n ≡ at + w = omega arith in
    let c : n + (width - w) ≡ width - (w - n) = omega arith in
    let d : 8 * b + (8 - n - j) ≡ at + (w - n) = omega arith in
    let one : Written t (at + (w - n)) n (x / 2 ^ (width - w)) u =
    subst (λ (y : ℕ). Written t (at + (w - n)) n y u) q
    (subst (λ (y : ℕ). Written t y n v u) d (written_byte t b (8 - n - j) n j v (omega arith) i)) in
    subst (λ (y : ℕ). Written s (at + (w - n)) y x u) c
    (written_more (subst (λ (y : ℕ). Written s y (width - w) x t) (sym a) p) one)

-- ---- no second list is left

abbrev pub Bytes : List ℕ → Type 0
Bytes s = (i : ℕ) → get_or s i 0 < 256

-- bytes with equal bits are equal
pub bytes_same : (s t : List ℕ) → Bytes s → Bytes t → length s ≡ length t → ((i : ℕ) → bit_of s i ≡ bit_of t i) → s ≡ t
bytes_same s t bs bt l h =
    ext_get_or 0 s t l (λ i _. sym (field_8 s i (bs i)) ∙ field_same s t (8 * i) (8 * i) 8 (λ k _. h (8 * i + k)) ∙ field_8 t i (bt i))

-- bytes that the field does not touch are as before
pub written_part : {s t : List ℕ} {at w x : ℕ} → Bytes s → Bytes t → Written s at w x t → (a k : ℕ) → (8 * (a + k) ≤ at) ⊎ (at + w ≤ 8 * a) → take k (drop a t) ≡ take k (drop a s)
written_part {s} {t} {at} {w} {x} bs bt p a k h =
    let l : length (take k (drop a t)) ≡ length (take k (drop a s)) =
    length-take k (drop a t) ∙ ap (min k) (length-drop a t ∙ ap (λ (n : ℕ). n - a) p.long ∙ sym (length-drop a s)) ∙ sym (length-take k (drop a s)) in
    let byte : (i : ℕ) → i < k → get_or t (a + i) 0 ≡ get_or s (a + i) 0 =
    λ i m. sym (field_8 t (a + i) (bt (a + i)))
    ∙ written_apart p (8 * (a + i)) 8 (⊎_elim (λ d. inl (omega arith)) (λ d. inr (omega arith)) h)
    ∙ field_8 s (a + i) (bs (a + i)) in
    ext_get_or 0 (take k (drop a t)) (take k (drop a s)) l (λ i m.
    let n : i < k = omega (arith, length-take k (drop a t)) in
    rw (get_or-take k (drop a t) i 0 n, get_or-take k (drop a s) i 0 n, get_or-drop a t i 0, get_or-drop a s i 0) (byte i n))

pub written_one : {s t u : List ℕ} {at w x : ℕ} → Bytes t → Bytes u → Written s at w x t → Written s at w x u → t ≡ u
written_one {s} {t} {u} {at} {w} {x} bt bu p q =
    bytes_same t u bt bu (p.long ∙ sym q.long) (λ i. elim (dec_lt i at) [
      | yes a ↦ p.other i (inl a) ∙ sym (q.other i (inl a))
      | no a ↦ elim (dec_lt i (at + w)) [
        | yes d ↦ let e : at + (i - at) ≡ i = omega arith in
            let f : i - at + 1 + (w - (i - at) - 1) ≡ w = omega arith in
            let bit : (l : List ℕ) → bit_of l i ≡ field_of l at w / 2 ^ (w - (i - at) - 1) % 2 =
            λ l. ap (bit_of l) (sym e) ∙ field-bit l at (i - at) (w - (i - at) - 1) ∙ ap (λ (y : ℕ). field_of l at y / 2 ^ (w - (i - at) - 1) % 2) f in
            bit t ∙ ap (λ (y : ℕ). y / 2 ^ (w - (i - at) - 1) % 2) (p.field ∙ sym q.field) ∙ sym (bit u)
        | no d ↦ p.other i (inr (omega arith)) ∙ sym (q.other i (inr (omega arith)))
      ]
    ])
