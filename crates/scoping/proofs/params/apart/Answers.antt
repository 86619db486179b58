-- The Params of one function.
use Rattle.std.proofs.Common.{sym, ap, ◌∙◌, arith}
use Rattle.base.specs.Parts.{part-from}
use Rattle.nodefile.specs.Node.{value_of}
use Rattle.scoping.proofs.Naming.{naming_end, naming_skip, naming_known, naming-again, naming_more}
use Rattle.scoping.proofs.params.apart.Goals.{then-is_named_param+else-marks-v, else-is_named_param}
use Rattle.scoping.proofs.params.apart.Goals as goal

pub bounds-marks-v : goal.bounds-marks-v
bounds-marks-v c =
    let t = c.loop-t.t.now in
    omega (arith, naming_known c.loop-t.invariant (omega arith) c.size.ensures.is (sym c.is_named_param.ensures ∙ c.if-is_named_param.true) (c.value-v.ensures.is ∙ ap value_of (part-from t 8)) c.requires.0)

pub bounds-marks-v-then-is_named_param : goal.bounds-marks-v-then-is_named_param
bounds-marks-v-then-is_named_param c =
    let t = c.loop-t.t.now in
    omega (arith, naming_known c.loop-t.invariant (omega arith) c.size.ensures.is (sym c.is_named_param.ensures ∙ c.if-is_named_param.true) (c.value-v.ensures.is ∙ ap value_of (part-from t 8)) c.requires.0)

pub returns-then-marks-v : goal.returns-then-marks-v
returns-then-marks-v c =
    let n = c.loop-t.invariant in
    (naming-again n (omega arith) c.size.ensures.is (sym c.is_named_param.ensures ∙ c.if-is_named_param.true) (c.value-v.ensures.is ∙ ap value_of (part-from c.loop-t.t.now 8)) c.if-marks-v.true, n.fresh)

pub loop-t-preserved : goal.loop-t-preserved
loop-t-preserved c =
    let n = c.loop-t.invariant in
    let e = c.size.ensures.is in
    let named = sym c.is_named_param.ensures in
    elim c.if-is_named_param.branch [
      | then-is_named_param+else-marks-v w ↦
          let o = named ∙ w.if-is_named_param.true in
          let v = w.value-v.ensures.is ∙ ap value_of (part-from c.loop-t.t.now 8) in
          rw w.marks-is (naming_more n (omega arith) e o v (naming_known n (omega arith) e o v c.requires.0) w.if-marks-v.false)
      | else-is_named_param w ↦ rw w.marks-is (naming_skip n (omega arith) e (named ∙ w.if-is_named_param.false))
    ]

pub returns : goal.returns
returns c = (naming_end c.loop-t.invariant (omega arith), c.loop-t.invariant.fresh)
