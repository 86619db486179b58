-- `target::bind_again` meets its contract (Renewed).
use mathlib.Core.Path.{refl, ap}
use native.Mathlib.Omega.{arith}
use lib.ListN.{length, length-set}
use Rattle.target.proofs.Renewed.{again_few, again-done}
use Rattle.target.proofs.bind_again.Goals as goal

pub bind_again-requires : goal.bind_again-requires
bind_again-requires c = omega (arith, again_few c.requires.1)

pub slot_of-requires : goal.slot_of-requires
slot_of-requires c = omega (arith, again_few c.requires.1, simp length-set at (ap length c.bind_again.ensures))

pub put_answer-requires : goal.put_answer-requires
put_answer-requires c = let g = c.requires.1 in omega (arith, again_few g, g.node)

pub returns : goal.returns
returns c =
    let n = c.slot_of in
    (refl, again-done _ n.result c.requires.0 c.told-w c.bind_again.ensures c.class.ensures n.ensures.0 c.put_answer.ensures)
