-- `put_resolution` meets its contract: each outcome has its row, in Keeps.
use native.Mathlib.Omega.{arith}
use Rattle.lookup.proofs.Keeps.{row_as, fits_as, kept_answer, kept_error}
use Rattle.lookup.proofs.name.put_resolution.Goals as goal

pub put_slot-requires : goal.put_slot-requires
put_slot-requires c = let f = fits_as _ c.in-Slot.is c.requires in (c.requires.node, f.0, f.1)

pub put_answer-requires : goal.put_answer-requires
put_answer-requires c = (c.requires.node, fits_as _ c.in-Global.is c.requires, omega arith)

pub returns-in-Slot : goal.returns-in-Slot
returns-in-Slot c = kept_answer c.told-w (row_as _ c.in-Slot.is) c.put_slot.ensures

pub returns-in-Global : goal.returns-in-Global
returns-in-Global c = kept_answer c.told-w (row_as _ c.in-Global.is) c.put_answer.ensures

pub returns-in-NotFound : goal.returns-in-NotFound
returns-in-NotFound c = kept_error c.told-w (row_as _ c.in-NotFound.is) c.add_error.ensures

pub returns-in-LocalInType : goal.returns-in-LocalInType
returns-in-LocalInType c = kept_error c.told-w (row_as _ c.in-LocalInType.is) c.add_error-in-LocalInType.ensures
