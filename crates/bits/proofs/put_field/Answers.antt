-- `put_field` goes from the last bits of the field to the first, one byte at a time.
use Prim.Native.Nat.{ℕ, ◌+◌, ◌*◌, ◌-◌, ◌/◌, ◌%◌, ◌^◌}
use mathlib.Core.Path.{◌≡◌, sym, ap, ◌∙◌}
use native.Mathlib.Omega.{arith}
use native.Mathlib.Nat.{div-one}
use lib.Pow.{shr-shr}
use Rattle.bits.proofs.PutLaws.{written_none, written_turn}
use Rattle.bits.proofs.put_field.Goals as goal

pub loop-w-init : goal.loop-w-init
loop-w-init c =
    let a = c.args in
    let e : a.width - a.width ≡ 0 = omega arith in
    (omega arith, rw (e) (sym (div-one a.value)), rw e (written_none a.s.now (a.at + a.width) a.value))

pub loop-w-preserved : goal.loop-w-preserved
loop-w-preserved c =
    let l = c.loop-w in
    let a = c.args in
    let n = c.min-n.result in
    let last = (a.at % 8 + l.w - 1) / 8 in
    let e : a.width - l.w + n ≡ a.width - (l.w - n) = omega arith in (
      omega arith,
      rw (c.power-v.ensures, l.invariant.1) (shr-shr a.value (a.width - l.w) n ∙ ap (λ (y : ℕ). a.value / 2 ^ y) e),
      rw c.spliced.ensures
          (written_turn a.at a.width l.w n (a.at / 8 + last) (8 * last + 8 - (a.at % 8 + l.w)) l.v
          (omega arith) (omega arith) (omega arith) (omega arith) (omega (arith, l.invariant.2.long)) l.invariant.1 l.invariant.2),
    )
