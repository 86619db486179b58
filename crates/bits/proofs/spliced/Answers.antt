-- `spliced` replaces bits of a byte, and what comes out is a byte.
use native.Mathlib.Omega.{arith}
use Rattle.bits.specs.Digits.{splice, splice_byte}
use Rattle.bits.proofs.spliced.Goals as goal

pub overflow_cast-result : goal.overflow_cast-result
unfolding splice
overflow_cast-result c = rw (c.from-x.ensures, c.power.ensures, c.power-low.ensures, c.power-top.ensures) (omega (arith, splice_byte c.args.b c.args.n c.args.j c.args.v (omega arith) (omega arith)))

pub returns : goal.returns
unfolding splice
returns c = rw (c.from-x.ensures, c.power.ensures, c.power-low.ensures, c.power-top.ensures)
