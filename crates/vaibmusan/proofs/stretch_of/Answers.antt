-- Where a spelling stands: the pool is the end of an accepted file.
use Prim.Native.Nat.{ℕ, ◌+◌, ◌-◌}
use mathlib.Core.Path.{ap, ap₂, ◌∙◌}
use mathlib.Core.List.{List}
use native.Mathlib.Omega.{arith}
use lib.ListN.{length}
use Rattle.nodefile.specs.Lists.{name_off}
use borrow.Author.Rules.{rules}
use Rattle.vaibmusan.proofs.Found.{found, stands, stands_nowhere}
use Rattle.vaibmusan.proofs.stretch_of.Goals as goal

pub returns-then-spelling-eq0 : goal.returns-then-spelling-eq0
returns-then-spelling-eq0 c = stands_nowhere c.spelling-spelling.ensures c.if-spelling-eq0.true

pub returns : goal.returns
returns c =
    let bs = c.args.file.now in
    let name = c.args.name in
    stands c.spelling-spelling.ensures c.if-spelling-eq0.false (ap₂ (λ (n o : ℕ). length bs - n + o) (ap length c.pool-pool.ensures) (c.name_offset-in_pool.ensures.is ∙ ap (λ (nm : List ℕ). name_off nm name) c.names-names.ensures))
