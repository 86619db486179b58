-- The laws of a record's fields, each once over the widths and the place of the field.
--     unpack-packed, part-packed     reading what was packed gives it back
--     part-changed, part_other       reading a replaced field gives the value, and every other field stays
--     changed-packed                 a packed row with a field replaced is the row with that value, packed
--     changed-sum, changed-is        replacing a field moves the number by the values' difference, times the field's weight
--     part_lt, cut_fits              a field is below its width; a row that fits is not cut
use Rattle.std.specs.Prelude.{ℕ, zero, suc, ◌+◌, ◌*◌, ◌/◌, ◌%◌, ◌^◌, ◌<◌, ◌≡◌, refl, List, [], ◌∷◌, length, get_or, set}
use Rattle.std.proofs.Common.{sym, ap, ap₂, ◌∙◌, subst, arith, mod-lt, mod-eq_of_lt, pow_pos, get_or-set_same, get_or-set_other}
use Rattle.bits.specs.Pack.{widths, values, total, Narrow, pack, unpack}
use Rattle.bits.proofs.PackLaws.{unpack-pack, pack-unpack}
use Rattle.bits.proofs.PackLaws as bits
use Rattle.answer.specs.Fields.{fields, packed, cut, part, changed, after}

fields-widths : (ws row : List ℕ) → widths (fields ws row) ≡ ws
fields-widths [] row = refl
fields-widths (w ∷ ws) [] = ap (◌∷◌ w) (fields-widths ws [])
fields-widths (w ∷ ws) (x ∷ row) = ap (◌∷◌ w) (fields-widths ws row)

-- a field that a row does not have is 0
none_get : (ws : List ℕ) (k : ℕ) → get_or (values (fields ws [])) k 0 ≡ 0
none_get [] k = refl
none_get (w ∷ ws) zero = refl
none_get (w ∷ ws) (suc k) = none_get ws k

values_get : (ws row : List ℕ) (k : ℕ) → k < length ws → get_or (values (fields ws row)) k 0 ≡ get_or row k 0
values_get [] row k h = absurd (omega arith)
values_get (w ∷ ws) [] k h = none_get (w ∷ ws) k
values_get (w ∷ ws) (x ∷ row) zero h = refl
values_get (w ∷ ws) (x ∷ row) (suc k) h = values_get ws row k (omega arith)

-- the values of a row, one of them replaced
fields-set : (ws row : List ℕ) (k v : ℕ) → k < length row → fields ws (set (values (fields ws row)) k v) ≡ fields ws (set row k v)
fields-set [] row k v h = refl
fields-set (w ∷ ws) [] k v h = absurd (omega arith)
fields-set (w ∷ ws) (x ∷ row) zero v h = ap (◌∷◌ (w, v)) (fields-again ws row)
  where
    fields-none : (ws : List ℕ) → fields ws (values (fields ws [])) ≡ fields ws []
    fields-none [] = refl
    fields-none (w ∷ ws) = ap (◌∷◌ (w, 0)) (fields-none ws)

    fields-again : (ws row : List ℕ) → fields ws (values (fields ws row)) ≡ fields ws row
    fields-again [] row = refl
    fields-again (w ∷ ws) [] = fields-none (w ∷ ws)
    fields-again (w ∷ ws) (x ∷ row) = ap (◌∷◌ (w, x)) (fields-again ws row)
fields-set (w ∷ ws) (x ∷ row) (suc k) v h = ap (◌∷◌ (w, x)) (fields-set ws row k v (omega arith))

-- ---- packed, then read

module _ (ws row : List ℕ) (h : Narrow (fields ws row)) where
  pub unpack-packed : unpack ws (packed ws row) ≡ values (fields ws row)
  unpack-packed = subst (λ (l : List ℕ). unpack l (packed ws row) ≡ values (fields ws row)) (fields-widths ws row) (unpack-pack (fields ws row) h)

  pub part-packed : (k : ℕ) → k < length ws → part ws k (packed ws row) ≡ get_or row k 0
  part-packed k l = ap (λ (x : List ℕ). get_or x k 0) unpack-packed ∙ values_get ws row k l

  pub changed-packed : (k v : ℕ) → k < length row → changed ws k v (packed ws row) ≡ packed ws (set row k (v % 2 ^ get_or ws k 0))
  changed-packed k v l = ap (λ (x : List ℕ). packed ws (set x k (v % 2 ^ get_or ws k 0))) unpack-packed ∙ ap pack (fields-set ws row k (v % 2 ^ get_or ws k 0) l)

-- ---- read, and replaced

unpack_long : (ws : List ℕ) (r : ℕ) → length (unpack ws r) ≡ length ws
unpack_long [] r = refl
unpack_long (w ∷ ws) r = ap suc (unpack_long ws r)

unpack-fields : (ws : List ℕ) (r : ℕ) → fields ws (unpack ws r) ≡ bits.fields ws (unpack ws r)
unpack-fields [] r = refl
unpack-fields (w ∷ ws) r = ap (◌∷◌ (w, r / 2 ^ total ws % 2 ^ w)) (unpack-fields ws r)

pub packed-unpack : (ws : List ℕ) (r : ℕ) → packed ws (unpack ws r) ≡ r % 2 ^ total ws
packed-unpack ws r = ap pack (unpack-fields ws r) ∙ pack-unpack ws r

pub part_lt : (ws : List ℕ) (k r : ℕ) → part ws k r < 2 ^ get_or ws k 0
part_lt [] k r = omega arith
part_lt (w ∷ ws) zero r = mod-lt (r / 2 ^ total ws) (pow_pos w)
part_lt (w ∷ ws) (suc k) r = part_lt ws k r

unpack_narrow : (ws : List ℕ) (r : ℕ) → Narrow (fields ws (unpack ws r))
unpack_narrow [] r = tt
unpack_narrow (w ∷ ws) r = (mod-lt (r / 2 ^ total ws) (pow_pos w), unpack_narrow ws r)

set_narrow : (ws row : List ℕ) (k v : ℕ) → Narrow (fields ws row) → v < 2 ^ get_or ws k 0 → Narrow (fields ws (set row k v))
set_narrow [] row k v h l = tt
set_narrow (w ∷ ws) [] k v h l = h
set_narrow (w ∷ ws) (x ∷ row) zero v h l = (l, h.1)
set_narrow (w ∷ ws) (x ∷ row) (suc k) v h l = (h.0, set_narrow ws row k v h.1 l)

set_sum : (ws row : List ℕ) (k v : ℕ) → length row ≡ length ws → k < length ws → packed ws (set row k v) + get_or row k 0 * 2 ^ after ws k ≡ packed ws row + v * 2 ^ after ws k
set_sum [] row k v e h = absurd (omega arith)
set_sum (w ∷ ws) [] k v e h = absurd (omega arith)
set_sum (w ∷ ws) (x ∷ row) zero v e h = rw (fields-widths ws row) (omega arith)
set_sum (w ∷ ws) (x ∷ row) (suc k) v e h = rw (fields-widths ws row, fields-widths ws (set row k v)) (omega (arith, set_sum ws row k v (omega arith) (omega arith)))

module _ (ws : List ℕ) (k v r : ℕ) (h : k < length ws) where
  abbrev fit : ℕ
  fit = v % 2 ^ get_or ws k 0

  pub changed-sum : changed ws k v r + part ws k r * 2 ^ after ws k ≡ r % 2 ^ total ws + fit * 2 ^ after ws k
  changed-sum = set_sum ws (unpack ws r) k fit (unpack_long ws r) h ∙ ap (λ (x : ℕ). x + fit * 2 ^ after ws k) (packed-unpack ws r)

  -- a writer: the field's part of the number goes, the value's comes
  pub changed-is : (x y : ℕ) → y ≡ part ws k r → r < 2 ^ total ws → x + y * 2 ^ after ws k ≡ r + fit * 2 ^ after ws k → x ≡ changed ws k v r
  changed-is x y e l q = omega (arith, (rw e at q) ∙ sym (changed-sum ∙ ap (λ (z : ℕ). z + fit * 2 ^ after ws k) (mod-eq_of_lt l)))

  narrow : Narrow (fields ws (set (unpack ws r) k fit))
  narrow = set_narrow ws (unpack ws r) k fit (unpack_narrow ws r) (mod-lt v (pow_pos (get_or ws k 0)))

  pub part-changed : part ws k (changed ws k v r) ≡ fit
  part-changed = part-packed ws (set (unpack ws r) k fit) narrow k h ∙ get_or-set_same (unpack ws r) k fit 0 (omega (arith, unpack_long ws r))

  pub part_other : (i : ℕ) → i < length ws → (i ≡ k → ⊥) → part ws i (changed ws k v r) ≡ part ws i r
  part_other i l n = part-packed ws (set (unpack ws r) k fit) narrow i l ∙ get_or-set_other (unpack ws r) k i fit 0 n

-- ---- a row that fits

pub cut_fits : (ws row : List ℕ) → Narrow (fields ws row) → packed ws (cut ws row) ≡ packed ws row
cut_fits ws row h = ap pack (go ws row h)
  where
    go : (ws row : List ℕ) → Narrow (fields ws row) → fields ws (cut ws row) ≡ fields ws row
    go [] row h = refl
    go (w ∷ ws) [] h = refl
    go (w ∷ ws) (x ∷ row) h = ap₂ (λ (y : ℕ) (fs : List (ℕ × ℕ)). (w, y) ∷ fs) (mod-eq_of_lt h.0) (go ws row h.1)
