-- `sheet::put`: after so many turns so many elements are laid down.
use mathlib.Core.Path.{ap, ◌∙◌}
use Rattle.sheet.proofs.Turn.{turn}
use Rattle.sheet.proofs.put.Goals as goal

pub loop-x-preserved : goal.loop-x-preserved
loop-x-preserved g c =
    rw c.WIDTH-bit.ensures (turn g.T.Word.number c.args.list.now c.loop-x.invariant.0 c.loop-x.invariant.1 (rw c.WIDTH.ensures at c.put_field.ensures) g.met.T.Word.narrow c.loop-x-test.true c.requires.0 c.x-item.result (c.number.ensures.is ∙ ap g.T.Word.number c.x-item.is) c.number.ensures.below)
