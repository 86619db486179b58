-- Number 8 of the whole list: the node at hand and its children.
use Rattle.std.proofs.Common.{arith, sym, ◌∙◌, ◌≡◌, subst}
use Rattle.nodefile.specs.Kids.{Fits}
use Rattle.nodefile.proofs.Laws.Fitting.{below-is}
use Rattle.lexical.specs.Table.{allowed}
use Rattle.shape.specs.Children.{other_children}
use Rattle.shape.proofs.Pass.{passed_inside, passed_more}
use Rattle.shape.proofs.Here.{node_here, kids_here}
use Rattle.shape.proofs.children.bad_children.Goals as goal

pub kids_allowed-requires : goal.kids_allowed-requires
kids_allowed-requires c = subst Fits (sym (below-is _ c.size.ensures.is)) (node_here c.requires c.loop-t.invariant (omega arith)).fits

pub returns-then-not-kids_allowed : goal.returns-then-not-kids_allowed
returns-then-not-kids_allowed c =
    let p = c.loop-t.invariant in
    let said = kids_here (λ k ks. c.kids_allowed.result ≡ allowed k ks) c.size.ensures.is (sym c.in-Some.ensures) p.part c.kids_allowed.ensures in
    let l = passed_inside p (omega arith) in
    let f = c.requires.fits p.here l in
    other_children p.here l f.0 f.1 (sym (said f.0 f.1) ∙ c.if-not-kids_allowed.true)

pub loop-t-preserved : goal.loop-t-preserved
loop-t-preserved c =
    let p = c.loop-t.invariant in
    let said = kids_here (λ k ks. c.kids_allowed.result ≡ allowed k ks) c.size.ensures.is (sym c.in-Some.ensures) p.part c.kids_allowed.ensures in
    passed_more p (λ ks m. sym (said ks m) ∙ c.if-not-kids_allowed.false)
