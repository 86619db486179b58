-- `field` reads the bits from the byte on in which the field starts. Where the bytes end before the field, zeros follow.
use Prim.Native.Nat.{ℕ, ◌+◌, ◌*◌, ◌-◌, ◌/◌, ◌%◌, ◌^◌, ◌≤◌}
use mathlib.Core.Path.{◌≡◌, sym, ap, ◌∙◌}
use mathlib.Core.List.{List}
use native.Mathlib.Omega.{arith}
use native.Mathlib.Nat.{add-zero, mod-eq_of_lt}
use lib.ListN.{length, drop}
use Rattle.base.specs.Parts.{part-from}
use Rattle.bits.specs.Field.{field_of}
use Rattle.bits.proofs.FieldLaws.{field_is, field_lt_32, field-split, field_past, field-drop}
use Rattle.bits.proofs.field.Goals as goal

-- a field counted from the byte in which it starts
from_first : (s : List ℕ) (at w : ℕ) → field_of (drop (at / 8) s) (at % 8) w ≡ field_of s at w
from_first s at w =
    let e : 8 * (at / 8) + at % 8 ≡ at = omega arith in
    field-drop s (at / 8) (at % 8) w ∙ ap (λ (x : ℕ). field_of s x w) e

-- where the list ends after the first n bits of a field, zeros follow them
cut_off : (s : List ℕ) (at n w : ℕ) → n ≤ w → 8 * length s ≤ at + n → field_of s at w ≡ field_of s at n * 2 ^ (w - n)
cut_off s at n w h e =
    let d : n + (w - n) ≡ w = omega arith in
    ap (field_of s at) (sym d)
    ∙ field-split s at n (w - n)
    ∙ ap (λ (x : ℕ). field_of s at n * 2 ^ (w - n) + x) (field_past s (at + n) (w - n) e)
    ∙ add-zero (field_of s at n * 2 ^ (w - n))

pub returns-then-reach-s : goal.returns-then-reach-s
returns-then-reach-s c =
    let a = c.args in
    let p = part-from a.s.now (a.at / 8) in
    field_is a.s.now a.at a.width _ (omega arith)
    (c.read.ensures ∙ ap (λ (t : List ℕ). field_of t (a.at % 8) a.width) p ∙ from_first a.s.now a.at a.width)

pub returns-then-s-first : goal.returns-then-s-first
returns-then-s-first c =
    let a = c.args in
    field_is a.s.now a.at a.width _ (omega arith) (sym (field_past a.s.now a.at a.width (omega arith)))

pub returns : goal.returns
returns c =
    let a = c.args in
    let s = a.s.now in
    let n = 8 * (length s - a.at / 8) - a.at % 8 in
    let p = part-from s (a.at / 8) in
    let e = c.read-2.ensures ∙ ap (λ (t : List ℕ). field_of t (a.at % 8) n) p ∙ from_first s a.at n in
    let z = cut_off s a.at n a.width (omega arith) (omega arith) in
    field_is s a.at a.width _ (omega arith)
    (rw (e, ← z) (mod-eq_of_lt (omega (arith, field_lt_32 s a.at a.width (omega arith)))))
