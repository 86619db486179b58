-- The laws of packed numbers, each once over the fields.
--     pack_lt, unpack-pack, pack_one     the number fits, reading gives the values back, no other values give the same number
--     pack-unpack                        packing what was read gives the number back
--     fields-unpack                      fields of bytes are those of the number that the bytes are
--     bytes_word, bytes_fields           the bytes of a packed number, read as bytes, give the values
--     written_pack, written_fields       fields written one after the other are the packed number, and read back as they were
use Rattle.std.specs.Prelude.{ℕ, zero, suc, ◌+◌, ◌*◌, ◌/◌, ◌%◌, ◌^◌, ◌<◌, ◌≡◌, refl, List, [], ◌∷◌, length}
use Rattle.std.proofs.Common.{sym, ap, ap₂, ◌∙◌, arith, mod-lt, mod-eq_of_lt, mul_assoc, add_comm, zero-lt-suc, pow_pos, pow-add}
use Rattle.std.proofs.Math.Nat.{mod-one, add-mul-div_right, mul-add-mod_self_right}
use Rattle.std.proofs.Math.Pow.{high}
use Rattle.std.proofs.lemmas.Nat.{mod-pow-add}
use Rattle.bits.specs.Field.{field_of}
use Rattle.bits.proofs.FieldLaws.{field_lt, field-split, field_8, field-drop}
use Rattle.bits.specs.Digits.{join_lt}
use Rattle.bits.specs.Put.{Written}
use Rattle.bits.proofs.PutLaws.{written_pair, written_fits}
use Rattle.bits.specs.Pack.{widths, values, total, Narrow, pack, unpack, fields_of, bytes_of}

pub pack_lt : (fs : List (ℕ × ℕ)) → Narrow fs → pack fs < 2 ^ total (widths fs)
pack_lt [] h = omega arith
pack_lt (f ∷ fs) h = join_lt f.1 (pack fs) f.0 (total (widths fs)) h.0 (pack_lt fs h.1)

-- what stands above the fields does not matter
pub unpack-low : (ws : List ℕ) (q x : ℕ) → unpack ws (q * 2 ^ total ws + x) ≡ unpack ws x
unpack-low [] q x = refl
unpack-low (w ∷ ws) q x =
    let s = total ws in
    let e : q * 2 ^ (w + s) ≡ q * 2 ^ w * 2 ^ s = ap (λ (y : ℕ). q * y) (pow-add 2 w s) ∙ sym (mul_assoc q (2 ^ w) (2 ^ s)) in
    ap₂ ◌∷◌
    (ap (λ (y : ℕ). (y + x) / 2 ^ s % 2 ^ w) e ∙ ap (λ (y : ℕ). y / 2 ^ s % 2 ^ w) (add_comm (q * 2 ^ w * 2 ^ s) x)
    ∙ ap (λ (y : ℕ). y % 2 ^ w) (add-mul-div_right x (q * 2 ^ w) (pow_pos s) ∙ add_comm (x / 2 ^ s) (q * 2 ^ w))
    ∙ mul-add-mod_self_right q (2 ^ w) (x / 2 ^ s))
    (ap (λ (y : ℕ). unpack ws (y + x)) e ∙ unpack-low ws (q * 2 ^ w) x)

pub unpack-pack : (fs : List (ℕ × ℕ)) → Narrow fs → unpack (widths fs) (pack fs) ≡ values fs
unpack-pack [] h = refl
unpack-pack (f ∷ fs) h =
    ap₂ ◌∷◌
    (ap (λ (y : ℕ). y % 2 ^ f.0) (high f.1 (total (widths fs)) (pack_lt fs h.1)) ∙ mod-eq_of_lt h.0)
    (unpack-low (widths fs) f.1 (pack fs) ∙ unpack-pack fs h.1)

-- two records of the same widths that give one number have the same values
pub pack_one : (fs gs : List (ℕ × ℕ)) → widths fs ≡ widths gs → Narrow fs → Narrow gs → pack fs ≡ pack gs → values fs ≡ values gs
pack_one fs gs e h l p = sym (unpack-pack fs h) ∙ ap₂ unpack e p ∙ unpack-pack gs l

-- widths and values side by side
abbrev pub fields : List ℕ → List ℕ → List (ℕ × ℕ)
fields [] xs = []
fields (w ∷ ws) [] = []
fields (w ∷ ws) (x ∷ xs) = (w, x) ∷ fields ws xs

widths-unpack : (ws : List ℕ) (x : ℕ) → widths (fields ws (unpack ws x)) ≡ ws
widths-unpack [] x = refl
widths-unpack (w ∷ ws) x = ap (◌∷◌ w) (widths-unpack ws x)

pub pack-unpack : (ws : List ℕ) (x : ℕ) → pack (fields ws (unpack ws x)) ≡ x % 2 ^ total ws
pack-unpack [] x = sym (mod-one x)
pack-unpack (w ∷ ws) x =
    ap₂ (λ (y z : ℕ). x / 2 ^ total ws % 2 ^ w * 2 ^ y + z) (ap total (widths-unpack ws x)) (pack-unpack ws x)
    ∙ sym (mod-pow-add x w (total ws))

-- ---- in bytes

pub fields-unpack : (bs : List ℕ) (at : ℕ) (ws : List ℕ) → fields_of bs at ws ≡ unpack ws (field_of bs at (total ws))
fields-unpack bs at [] = refl
fields-unpack bs at (w ∷ ws) =
    let s = total ws in
    let e = field-split bs at w s in
    ap₂ ◌∷◌
    (sym (ap (λ (y : ℕ). y / 2 ^ s % 2 ^ w) e ∙ ap (λ (y : ℕ). y % 2 ^ w) (high (field_of bs at w) s (field_lt bs (at + w) s)) ∙ mod-eq_of_lt (field_lt bs at w)))
    (fields-unpack bs (at + w) ws ∙ sym (ap (unpack ws) e ∙ unpack-low ws (field_of bs at w) (field_of bs (at + w) s)))

pub bytes_length : (n x : ℕ) → length (bytes_of n x) ≡ n
bytes_length zero x = refl
bytes_length (suc n) x = ap suc (bytes_length n x)

pub bytes_word : (n x : ℕ) → field_of (bytes_of n x) 0 (8 * n) ≡ x % 2 ^ (8 * n)
unfolding field_of
bytes_word zero x = sym (mod-one x)
bytes_word (suc n) x =
    let b = x / 2 ^ (8 * n) % 256 in
    let l = b ∷ bytes_of n x in
    let e : 8 * suc n ≡ 8 + 8 * n = omega arith in
    ap (field_of l 0) e ∙ field-split l 0 8 (8 * n)
    ∙ ap₂ (λ (y z : ℕ). y * 2 ^ (8 * n) + z) (field_8 l 0 (mod-lt (x / 2 ^ (8 * n)) (zero-lt-suc 255))) (sym (field-drop l 1 0 (8 * n)) ∙ bytes_word n x)
    ∙ sym (mod-pow-add x 8 (8 * n)) ∙ ap (λ (y : ℕ). x % 2 ^ y) (sym e)

pub bytes_fields : (n : ℕ) (fs : List (ℕ × ℕ)) → Narrow fs → total (widths fs) ≡ 8 * n → fields_of (bytes_of n (pack fs)) 0 (widths fs) ≡ values fs
bytes_fields n fs h e =
    fields-unpack (bytes_of n (pack fs)) 0 (widths fs)
    ∙ ap (unpack (widths fs))
    (ap (field_of (bytes_of n (pack fs)) 0) e ∙ bytes_word n (pack fs) ∙ ap (λ (y : ℕ). pack fs % 2 ^ y) (sym e) ∙ mod-eq_of_lt (pack_lt fs h))
    ∙ unpack-pack fs h

-- ---- written into bytes

-- the first field, and then the others: that is the packed number
pub written_pack : {s t u : List ℕ} {at w v : ℕ} (fs : List (ℕ × ℕ)) → Narrow fs → Written s at w v t → Written t (at + w) (total (widths fs)) (pack fs) u
    → Written s at (total (widths ((w, v) ∷ fs))) (pack ((w, v) ∷ fs)) u
written_pack fs h p q = written_pair p q (pack_lt fs h)

-- reading what was written gives the values again
pub written_fields : {s t : List ℕ} {at : ℕ} (fs : List (ℕ × ℕ)) → Narrow fs → Written s at (total (widths fs)) (pack fs) t → fields_of t at (widths fs) ≡ values fs
written_fields {s} {t} {at} fs h p = fields-unpack t at (widths fs) ∙ ap (unpack (widths fs)) (written_fits p (pack_lt fs h)) ∙ unpack-pack fs h
