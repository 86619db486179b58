-- `get_module` meets its contract: at level 0 no function is around.
use mathlib.Core.Path.{refl}
use native.Mathlib.Omega.{arith}
use Rattle.lookup.proofs.Outward.{module_few, module_outside, module_inside}
use Rattle.lookup.proofs.name.get_module.Goals as goal

pub slot_of-slot-requires : goal.slot_of-slot-requires
slot_of-slot-requires c = omega (arith, module_few c.requires.1, c.requires.0)

pub returns-then-st-eq0 : goal.returns-then-st-eq0
returns-then-st-eq0 c = module_outside c.slot_of-slot.ensures.0 c.args.id refl c.if-st-eq0.true

pub set_captured-requires : goal.set_captured-requires
set_captured-requires c = omega (arith, module_few c.requires.1, c.requires.0)

pub returns : goal.returns
returns c = module_inside c.slot_of-slot.ensures.0 c.args.id refl c.if-st-eq0.false c.requires.0 c.set_captured.ensures
