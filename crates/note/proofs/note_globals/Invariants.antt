-- `note_globals` meets its contract: the first k globals are noted.
use Rattle.note.specs.Noted.{NumbersNoted, globals_up_to}
use Rattle.note.proofs.note_globals.Given as goal

abbrev pub invariant-loop-k : goal.invariant-loop-k
invariant-loop-k l = NumbersNoted 2048 (globals_up_to l.file l.k) l.initial.t l.t
