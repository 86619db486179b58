-- `around::outer` meets its contract: the table of the file's nodes.
use Rattle.std.specs.Prelude.{ℕ, List, length, replicate}
use Rattle.std.proofs.Common.{ap, ◌∙◌}
use Rattle.around.specs.Scopes.{counted}
use Rattle.around.specs.Outer.{outer_in, outers_of, levels, stored}
use Rattle.around.proofs.Read.{few_nodes}
use Rattle.around.proofs.outer.Goals as goal

pub all-requires : goal.all-requires
all-requires c = rw c.nodes.ensures (few_nodes c.args.file.now)

pub returns : goal.returns
unfolding outers_of
returns c =
    let a = c.args in
    c.all.ensures
    ∙ ap (λ (l : List ℕ). stored (outer_in (counted l) levels l 0 (counted l) 0 0) (replicate (length a.out.now) 0)) c.nodes.ensures
