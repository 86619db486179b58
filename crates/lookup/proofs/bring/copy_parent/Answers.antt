-- `copy_parent` meets its contract: no room, or the stores of Copies.
use native.Mathlib.Omega.{arith}
use Rattle.lookup.proofs.Copies.{copy_fits, copy_full, copy_done}
use Rattle.lookup.proofs.bring.copy_parent.Goals as goal

pub returns-then-k-ge-SLOTS : goal.returns-then-k-ge-SLOTS
returns-then-k-ge-SLOTS c = copy_full c.if-k-ge-SLOTS.true

pub name_of-name-requires : goal.name_of-name-requires
name_of-name-requires c = omega (arith, copy_fits (omega arith) c.requires.1, c.requires.0.binds)

pub put_copy-requires : goal.put_copy-requires
put_copy-requires c = let f = copy_fits (omega arith) c.requires.1 in (omega arith, f.scope_small, c.requires.1.parent_small, omega (arith, c.fresh_slot-child.ensures.0))

pub link_slot-requires : goal.link_slot-requires
link_slot-requires c = let f = copy_fits (omega arith) c.requires.1 in (omega arith, f.id_small, omega (arith, c.fresh_slot-child.ensures.0))

pub returns : goal.returns
returns c = copy_done c.told-w c.told-t (omega arith) c.fresh_slot-child.ensures.0 c.name_of-name.ensures.0 c.put_copy.ensures c.put_slot.ensures c.link_slot.ensures
