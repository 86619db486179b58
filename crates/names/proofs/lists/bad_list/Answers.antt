-- Number 6 of one list: the marks are those of the lines passed.
use Rattle.std.proofs.Common.{arith}
use Rattle.names.proofs.Lines.{lines_none, lines_more, lines_twice, lines_all, lines_unknown}
use Rattle.names.proofs.lists.bad_list.Goals as goal

pub loop-k-init : goal.loop-k-init
loop-k-init g c = λ f h. lines_none _ _

pub returns-then-name-names : goal.returns-then-name-names
returns-then-name-names g c = λ f h. lines_unknown f c.loop-k.k _ (h _ _ c.loop-k-test.true c.name_of-name.ensures) c.loop-k-test.true c.if-name-names.true

pub returns-then-seen-v : goal.returns-then-seen-v
returns-then-seen-v g c = λ f h. lines_twice (c.loop-k.invariant f h) _ (h _ _ c.loop-k-test.true c.name_of-name.ensures) c.loop-k-test.true c.if-seen-v.true

pub loop-k-preserved : goal.loop-k-preserved
loop-k-preserved g c = λ f h. lines_more (c.loop-k.invariant f h) (h _ _ c.loop-k-test.true c.name_of-name.ensures) c.if-name-names.false c.requires.known c.if-seen-v.false

pub returns : goal.returns
returns g c = λ f h. lines_all (c.loop-k.invariant f h) _ (omega (arith, c.loop-k-test.false))
