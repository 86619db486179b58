-- `unscope` meets its contract: each binding that goes out of reach is of the bindings lo to hi.
use Rattle.std.specs.Prelude.{◌≡◌, length}
use Rattle.std.proofs.Common.{length-set}
use native.Mathlib.Omega.{arith}
use Rattle.store.proofs.Reached.{closes-next, closes_end}
use Rattle.store.proofs.meanings.unscope.Goals as goal

pub name_of-requires : goal.name_of-requires
name_of-requires c =
    let l = c.loop-k in
    let g = c.requires.1 in
    omega (arith, c.requires.0, (closes-next g l.k 0 l.t (omega arith) (omega arith) (l.invariant g)).few)

pub pop-requires : goal.pop-requires
pop-requires c =
    let l = c.loop-k in
    let g = c.requires.1 in
    let f = closes-next g l.k c.name_of.result l.t (omega arith) (omega arith) (l.invariant g) in
    (f.small c.name_of.ensures.0, omega (arith, f.few))

pub loop-k-preserved : goal.loop-k-preserved
loop-k-preserved c =
    let l = c.loop-k in
    let n = c.name_of in
    let long : length l.t ≡ 20864 = simp length-set at (rw c.pop.ensures at c.pop.array_long) in
    λ g. rw c.pop.ensures ((closes-next g l.k n.result l.t (omega arith) (omega arith) (l.invariant g)).closes long n.ensures.0)

pub returns : goal.returns
returns c = record { right = λ g. closes_end g c.loop-k.k c.loop-k.t (omega arith) (c.loop-k.invariant g) }
