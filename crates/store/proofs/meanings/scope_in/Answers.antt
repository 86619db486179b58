-- `scope_in` meets its contract: each binding that comes into reach is of the bindings lo to hi.
use Rattle.std.specs.Prelude.{◌≡◌, length}
use Rattle.std.proofs.Common.{length-set}
use native.Mathlib.Omega.{arith}
use Rattle.store.proofs.Reached.{opens_few, opens-next}
use Rattle.store.proofs.meanings.scope_in.Goals as goal

pub push-requires : goal.push-requires
push-requires c =
    let g = c.requires.1 in
    ((opens-next g c.loop-k.k c.name_of.result c.loop-k.t (omega arith) (omega arith) c.name_of.ensures.0).small, omega (arith, opens_few g))

pub loop-k-preserved : goal.loop-k-preserved
loop-k-preserved c =
    let l = c.loop-k in
    let n = c.name_of in
    let long : length l.t ≡ 20864 = simp length-set at (rw c.push.ensures at c.push.array_long) in
    λ g. rw c.push.ensures ((opens-next g l.k n.result l.t (omega arith) (omega arith) n.ensures.0).opens long (l.invariant g))
