-- `read` has read a field of k bits when it has gone through k of them.
use Prim.Native.Nat.{◌+◌, ◌<◌}
use mathlib.Core.Path.{refl}
use native.Mathlib.Omega.{arith}
use native.Mathlib.Numerals.{add-one}
use Rattle.bits.specs.Field.{field_of}
use Rattle.bits.proofs.FieldLaws.{bit_lt, field_lt_32}
use Rattle.bits.proofs.read.Goals as goal

-- what has been read so far fits 32 bits
below : (c : goal.In-loop-k) → c.loop-k.acc < 4294967296
below c = rw c.loop-k.invariant.1 (field_lt_32 _ _ _ (omega arith))

pub loop-k-init : goal.loop-k-init
unfolding field_of
loop-k-init c = (omega arith, refl)

pub overflow_mul-acc : goal.overflow_mul-acc
overflow_mul-acc c = omega (arith, below c)

pub overflow_add-acc : goal.overflow_add-acc
overflow_add-acc c =
    let a = c.args in
    omega (arith, field_lt_32 a.s.now a.at c.loop-k.k (omega arith), c.loop-k.invariant.1, c.bit.ensures, bit_lt a.s.now (a.at + c.loop-k.k))

pub loop-k-preserved : goal.loop-k-preserved
unfolding field_of
loop-k-preserved c = (omega arith, rw (add-one, c.loop-k.invariant.1, c.bit.ensures) refl)
