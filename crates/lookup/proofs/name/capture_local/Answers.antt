-- `capture_local` meets its contract: the owner's place and the innermost scope's say what `lexical` asks.
use native.Mathlib.Omega.{arith}
use Rattle.lookup.proofs.Captures.{noted, unnoted, capturing_id}
use Rattle.lookup.proofs.name.capture_local.Goals as goal

pub owner-requires : goal.owner-requires
owner-requires c = capturing_id c.requires.1

pub set_captured-requires : goal.set_captured-requires
set_captured-requires c = omega (arith, capturing_id c.requires.1, c.requires.0)

pub returns-then-owner-scope_at_level : goal.returns-then-owner-scope_at_level
returns-then-owner-scope_at_level c = noted c.owner.ensures.0 c.scope_at_level.ensures.0 c.requires.0 c.if-owner-scope_at_level.true c.set_captured.ensures

pub returns-else-owner-scope_at_level : goal.returns-else-owner-scope_at_level
returns-else-owner-scope_at_level c = unnoted c.owner.ensures.0 c.scope_at_level.ensures.0 c.if-owner-scope_at_level.false
