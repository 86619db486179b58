-- The walk along a chain.
use Rattle.std.specs.Prelude.{ℕ, ◌<◌, Option, Some}
use Rattle.std.proofs.Common.{refl, sym, ap, ◌∙◌, subst, arith}
use Rattle.std.proofs.lemmas.Bool.{false≢true}
use Rattle.names.specs.Inside.Chain.{Below}
use Rattle.names.proofs.Chains.{below_up, met_none, met_here, met_there, met_next}
use Rattle.names.proofs.names.met.Goals as goal

pub returns-then-same : goal.returns-then-same
returns-then-same c =
    c.loop-next.invariant.1 (met_here c.from-j.result (c.in-Some.is ∙ ap Some (sym c.from-j.ensures)) (sym c.spelled.ensures ∙ c.same.ensures.0 c.if-same.true))

pub loop-next-preserved : goal.loop-next-preserved
loop-next-preserved c =
    let j = c.from-j.result in
    let e = c.in-Some.is ∙ ap Some (sym c.from-j.ensures) in
    let b : j < 1024 = subst (λ (o : Option ℕ). Below o 1024) e c.loop-next.invariant.0 in (
      below_up _ (c.requires.0.down j) (omega arith),
      λ m. c.loop-next.invariant.1 (met_there j e refl m),
      λ m. met_next j e refl (λ q. false≢true (sym c.if-same.false ∙ c.same.ensures.1 (c.spelled.ensures ∙ q))) (c.loop-next.invariant.2 m),
    )

pub returns : goal.returns
returns c = λ m. met_none c.in_default.is (c.loop-next.invariant.2 m)
