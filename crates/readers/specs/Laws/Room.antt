-- An accepted file has room in buffers that are not too short: at most 2,048 nodes, 2,304 bindings and 256 globals.
use Rattle.std.specs.Prelude.{ℕ, ◌≤◌, ◌≡◌, List}
use Rattle.std.proofs.Common.{arith}
use Rattle.std.proofs.Math.ListN.{length-map}
use Rattle.lexical.specs.Tree.{Forest}
use Rattle.lexical.specs.Third.{resolved}
use Rattle.lexical.specs.Records as rec
use Rattle.nodefile.specs.Layout.{node_count, global_count, nodes_of}
use Rattle.nodefile.specs.Reads.{Reads}
use Rattle.nodefile.specs.FileOf.{file_of}
use Rattle.answer.specs.declared.Answer.{Answer}
use Rattle.answer.specs.Buffers.{Buffers}
use Rattle.scope.specs.Answer.{Resolves}
use Rattle.scope.specs.Laws.Accepts.{judged_tree}
use Rattle.scope.specs.Laws.Readies.{ready_made}
use Rattle.scope.specs.Laws.Zero.{zero_accepted, zero_ready}

module _ {bs : List ℕ} {b b' : Buffers} {a : Answer} (r : Resolves bs b a b') (z : a.number ≡ 0) where
  tree : (root : Forest) × Reads (nodes_of bs) 0 root
  tree = judged_tree (zero_accepted r z)

  pub few_nodes : node_count bs ≤ 2048
  few_nodes = (zero_ready r z tree.0 tree.1).nodes

  pub few_globals : global_count bs ≤ 256
  few_globals = (zero_ready r z tree.0 tree.1).lists.globals

  pub few_bindings : a.bindings ≤ 2304
  unfolding rec.records
  few_bindings =
      let F = file_of bs tree.0 in
      omega (arith, (r.given z tree.0 tree.1).bindings, length-map (resolved F).made (rec.binding_row (resolved F).log), ready_made (zero_ready r z tree.0 tree.1))
