-- `lines::pieces::put_name` meets its contract: the spelling.
-- Assumes nothing.
use Prim.Native.Nat.{ℕ}
use mathlib.Core.Path.{ap₂, ◌∙◌}
use mathlib.Core.List.{List}
use Rattle.text.specs.Laws.{puts_is}
use Rattle.lines.specs.Lines.{name_text}
use Rattle.nodefile.specs.Lists.{spelled}
use Rattle.lines.proofs.pieces.put_name.Goals as goal

pub returns : goal.returns
unfolding name_text
returns c =
    puts_is c.put_bytes.ensures (c.spelled-s.ensures ∙ ap₂ (λ (nm pool : List ℕ). spelled nm pool c.args.name) c.names.ensures c.pool.ensures)
