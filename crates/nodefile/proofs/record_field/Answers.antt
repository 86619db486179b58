-- The field of a record: past the end of the list it is 0, like the field that stands there.
use Prim.Native.Nat.{◌*◌, ◌<◌}
use mathlib.Core.Path.{sym, ◌∙◌}
use native.Mathlib.Omega.{arith}
use native.Mathlib.Nat.{div-lt_iff_lt-mul, mul_assoc, mul_comm}
use lib.Pow.{pow_pos}
use lib.ListN.{length}
use Rattle.base.specs.Parts.{part-from}
use Rattle.bits.proofs.FieldLaws.{field_record, field_past, field_read}
use Rattle.nodefile.proofs.record_field.Goals as goal

pub returns-then-k-list : goal.returns-then-k-list
returns-then-k-list c =
    let a = c.args in
    let h : length a.list.now < a.bytes * a.k = rw (mul_comm a.bytes a.k) ((div-lt_iff_lt-mul c.requires.0).0 c.if-k-list.true) in
    record { is = sym (field_past a.list.now _ a.width (rw (mul_assoc 8 a.bytes a.k) (omega arith))); below = pow_pos a.width }

pub returns : goal.returns
returns c =
    let a = c.args in
    record { is = field_read (omega arith) (rw part-from at c.field.ensures) ∙ field_record a.list.now a.bytes a.k a.at a.width; below = c.field.ensures.below }
