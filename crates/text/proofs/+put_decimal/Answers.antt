-- `text::put_decimal` meets its contract: the digits before the last, then the last. Assumes nothing.
use mathlib.Core.Path.{sym}
use Rattle.text.specs.Bytes.{decimal-small, decimal_step}
use Rattle.text.specs.Laws.{puts_then, puts_text}
use Rattle.text.proofs.+put_decimal.Goals as goal

pub returns-then-n-lt10 : goal.returns-then-n-lt10
returns-then-n-lt10 t c = puts_text c.put.ensures (sym (decimal-small c.args.n c.if-n-lt10.true))

pub returns : goal.returns
returns t c = puts_text (puts_then c.put_decimal-k.ensures c.put-2.ensures) (sym (decimal_step c.args.n c.if-n-lt10.false))
