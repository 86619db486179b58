-- `note_hidden` meets its contract: the names before the k-th are noted; a name past the file's has an empty spelling, and its place is 0 already.
use Rattle.lexical.specs.Records.{bit}
use Rattle.nodefile.specs.FileOf.{name_rules}
use Rattle.note.specs.Filled.{Filled}
use Rattle.note.proofs.note_hidden.Given as goal

abbrev pub invariant-loop-k : goal.invariant-loop-k
invariant-loop-k l = Filled 3072 l.k (λ i. bit ((name_rules l.file).hidden i)) l.initial.t l.t
