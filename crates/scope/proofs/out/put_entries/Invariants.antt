-- `scope::out::put_entries` meets its contract: the entries before `i` are put. Assumes nothing.
use lib.ListN.{get_or}
use Rattle.answer.specs.Records.{entry_from}
use Rattle.scope.specs.Filled.{Filled}
use Rattle.scope.proofs.out.put_entries.Given as goal

abbrev pub invariant-loop-i : goal.invariant-loop-i
invariant-loop-i l = Filled (λ j. entry_from (get_or l.binds j 0)) l.i l.initial.to l.to
