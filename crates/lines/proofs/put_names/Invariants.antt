-- `lines::put_names` meets its contract: the names of the slots below the index that are the scope's.
-- Assumes nothing.
use Prim.Native.Nat.{ℕ}
use lib.ListN.{get_or}
use Rattle.text.specs.Window.{Rows}
use Rattle.lines.specs.Lines.{slot_name}
use Rattle.lines.proofs.put_names.Given as goal

abbrev pub invariant-loop-r : goal.invariant-loop-r
invariant-loop-r l = Rows (λ (j : ℕ). slot_name l.file l.scope (get_or l.slots j 0)) l.r-index l.initial.k l.initial.out l.k l.out
