-- Number 5: the names passed are good, and stand on their chains.
use Rattle.std.proofs.Common.{refl, sym, ap, ◌∙◌, arith}
use Rattle.base.specs.Says.{says-true, says-false}
use Rattle.names.specs.Names.{empty, past_pool}
use Rattle.names.specs.Inside.Chain.{hash_of, Met}
use Rattle.names.proofs.Chains.{chained_none, chained_met, chained_more, met_as}
use Rattle.names.proofs.names.bad_names.Goals as goal
use Rattle.names.proofs.names.bad_names.Goals.{then-length-eq0-via-then-length-eq0, then-length-eq0-via-else-length-eq0+then-offset-length}

pub loop-j-init : goal.loop-j-init
loop-j-init c = chained_none _ _

pub returns-then-length-eq0 : goal.returns-then-length-eq0
returns-then-length-eq0 c = elim c.then-length-eq0.branch [
  | then-length-eq0-via-then-length-eq0 w ↦ empty c.loop-j.j c.loop-j-test.true (omega (arith, w.if-length-eq0.true, c.name_length-length.ensures.is))
  | then-length-eq0-via-else-length-eq0+then-offset-length w ↦ past_pool c.loop-j.j c.loop-j-test.true (omega (arith, w.if-offset-length.true, c.name_offset-offset.ensures.is, c.name_length-length.ensures.is))
]

pub returns-then-met : goal.returns-then-met
returns-then-met c =
    chained_met c.loop-j.invariant c.hash-h.result (c.hash-h.ensures.0 ∙ ap hash_of c.spelled-s.ensures) c.hash-h.ensures.1 (omega arith) c.loop-j-test.true
    (met_as refl c.spelled-s.ensures (says-true {P = Met _ _ _ _ _} c.if-met.true c.met.ensures))

pub loop-j-preserved : goal.loop-j-preserved
loop-j-preserved c =
    chained_more c.loop-j.invariant c.hash-h.result (c.hash-h.ensures.0 ∙ ap hash_of c.spelled-s.ensures) c.hash-h.ensures.1 (omega arith)
    (omega (arith, c.name_length-length.ensures.is)) (omega (arith, c.name_offset-offset.ensures.is, c.name_length-length.ensures.is))
    (λ m. says-false {P = Met _ _ _ _ _} c.if-met.false c.met.ensures (met_as refl (sym c.spelled-s.ensures) m))
