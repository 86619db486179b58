-- `hand` meets its contract: the chain of a binding's slots is followed from its last one back.
use Prim.Native.Nat.{suc}
use Rattle.std.specs.Prelude.{◌≡◌, None}
use native.Mathlib.Omega.{arith}
use Rattle.store.specs.Hands.{Slotted}
use Rattle.store.proofs.Walked.{Led, led_start, led_on, led_end}
use Rattle.store.proofs.slots.hand.Goals as goal

pub loop-k-init : goal.loop-k-init
loop-k-init c =
    let led : (g : Slotted c.args.w.now c.args.t.now) → Led g.slots c.args.scope c.args.id _ None = λ g. led_start g.are c.args.scope c.args.id c.requires.0 in
    (omega (arith, (led c.requires.1).few, c.requires.1.are.few), led)

pub loop-k-smaller : goal.loop-k-smaller
loop-k-smaller c =
    let e : c.loop-k.c ≡ suc c.in-Some.k = omega (arith, c.in-Some.ensures) in
    let f = c.found-best.ensures in
    rw e ((led_on (record { here = f.0; other = f.1 }) (rw e at c.loop-k.invariant.1) c.requires.1).0)

pub loop-k-preserved : goal.loop-k-preserved
loop-k-preserved c =
    let e : c.loop-k.c ≡ suc c.in-Some.k = omega (arith, c.in-Some.ensures) in
    let f = c.found-best.ensures in
    let on = led_on (record { here = f.0; other = f.1 }) (rw e at c.loop-k.invariant.1) in
    (omega (arith, e, c.loop-k.invariant.0, (on c.requires.1).0), λ g. (on g).1)

pub returns : goal.returns
returns c = let e : c.loop-k.c ≡ 0 = omega (arith, c.in_default.ensures) in λ g. led_end (rw e at (c.loop-k.invariant.1 g))
