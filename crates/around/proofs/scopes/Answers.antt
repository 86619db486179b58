-- `around::scopes` meets its contract: the way down, or no scopes and all zeros.
use Rattle.std.specs.Prelude.{ℕ, suc, ◌≤◌, ◌<◌, ◌≡◌, List, [], ◌∷◌, length, replicate}
use Rattle.std.proofs.Common.{sym, ap, ◌∙◌, refl, rules}
use Rattle.nodefile.specs.Layout.{nodes_of}
use Rattle.around.specs.Scopes.{counted, descend, scopes_at, Holds}
use Rattle.around.specs.Descent.{scopes_there, scopes_none}
use Rattle.around.proofs.Read.{few_nodes}
use Rattle.around.proofs.Fitted.{holds-none, holds_as}
use Rattle.around.proofs.scopes.Goals as goal

module _ (bs ns : List ℕ) (x : ℕ) (is : ns ≡ nodes_of bs) (old new : List ℕ) where
  absent : counted ns ≤ x → new ≡ replicate (length old) 0 → Holds (scopes_at bs x) 0 old new
  absent h z = rw (scopes_none bs x (rw is at h)) (holds-none old new z)

  present : (n : ℕ) → x < counted ns → Holds (0 ∷ descend (suc x) ns x 0 (counted ns) []) n old new → Holds (scopes_at bs x) n old new
  present n h p = holds_as p (ap (λ (l : List ℕ). 0 ∷ descend (suc x) l x 0 (counted l) []) is ∙ sym (scopes_there bs x (rw is at h))) refl

pub descend-requires : goal.descend-requires
descend-requires c = (c.if-node-ns.true, rw c.nodes-ns.ensures (few_nodes c.args.file.now))

pub returns-then-node-ns : goal.returns-then-node-ns
returns-then-node-ns c =
    let a = c.args in
    present a.file.now c.nodes-ns.result.now a.node c.nodes-ns.ensures a.out.now c.descend.new.out c.descend.result c.if-node-ns.true c.descend.ensures

pub returns : goal.returns
returns c =
    let a = c.args in
    absent a.file.now c.nodes-ns.result.now a.node c.nodes-ns.ensures a.out.now c.fill.new.self c.if-node-ns.false (search rules)
