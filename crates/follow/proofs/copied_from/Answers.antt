-- `follow::copied_from` meets its contract. The loop: what the records from the index on give is what all of them give. Assumes nothing.
use mathlib.Core.Path.{sym, ap, ◌∙◌}
use native.Mathlib.Omega.{arith}
use Rattle.std.specs.Prelude.{ℕ, Some}
use Rattle.follow.specs.Place.{from_of}
use Rattle.follow.proofs.Copies.{from_next, from_here, from-none}
use Rattle.follow.proofs.copied_from.Goals as goal

pub returns-then-fills : goal.returns-then-fills
returns-then-fills c =
    let a = c.args in
    let l = c.loop-r in
    let e = from_here a.copies.now a.scope a.slot l.r-index (omega arith) (sym c.fills.ensures ∙ c.if-fills.true) in
    ap (λ (x : ℕ). Some (record { 0 = x })) c.parent.ensures.is ∙ sym (ap from_of (sym l.invariant ∙ e))

pub loop-r-preserved : goal.loop-r-preserved
loop-r-preserved c =
    let a = c.args in
    let l = c.loop-r in
    from_next a.copies.now a.scope a.slot l.r-index (omega arith) (sym c.fills.ensures ∙ c.if-fills.false) ∙ l.invariant

pub returns : goal.returns
returns c =
    let a = c.args in
    let l = c.loop-r in
    sym (ap from_of (sym l.invariant ∙ from-none a.copies.now a.scope a.slot l.r-index (omega arith)))
