-- The level falls at each call.
use Rattle.lookup.proofs.bring.+bring.Given as goal

abbrev pub decreases-bring : goal.decreases-bring
decreases-bring l = l.level
