-- What is known of the file that ready bytes stand for.
use Rattle.std.specs.Prelude.{ℕ, ◌*◌, ◌≤◌, ◌≡◌, List, length}
use Rattle.std.proofs.Common.{◌∙◌, arith}
use Rattle.lexical.specs.Places.{Distinct}
use Rattle.lexical.specs.Tree.{Forest, nodes_in}
use Rattle.lexical.specs.Table.{Headed}
use Rattle.lexical.specs.Claims.{Scoped}
use Rattle.lexical.specs.Third.{resolved}
use Rattle.lexical.specs.Records as rec
use Rattle.lexical.proofs.Theorems.{scoped}
use Rattle.lexical.proofs.Laws.Capacity.{made_capacity, names_idents_nodes, errors_nodes}
use Rattle.lexical.proofs.Theory.Tabled.{tabled_headed}
use Rattle.nodefile.specs.Layout.{node_count, nodes_of, nodes_length}
use Rattle.nodefile.specs.FileOf.{file_of}
use Rattle.nodefile.proofs.Laws.FileLaws.{entries_count, tree_count}
use Rattle.nodefile.proofs.Laws.Listed.{nodes_count, nodes_distinct}
use Rattle.scope.specs.Ready.{Ready}

module _ {bs : List ℕ} {root : Forest} (q : Ready bs root) where
  pub ready_scoped : Scoped (file_of bs root)
  ready_scoped = scoped (file_of bs root) q.once

  pub ready_headed : Headed root
  ready_headed = tabled_headed root q.tabled

  pub ready_distinct : Distinct (nodes_in root)
  ready_distinct = nodes_distinct root (nodes_of bs) 0 q.reads

  pub ready_length : length (nodes_of bs) ≡ 8 * node_count bs
  ready_length = nodes_length bs q.exact

  pub ready_nodes : length (nodes_in root) ≡ node_count bs
  ready_nodes = nodes_count root (nodes_of bs) 0 q.reads ∙ tree_count bs root q.exact q.reads

  -- the bindings fit, and so do the errors
  pub ready_made : length (resolved (file_of bs root)).made ≤ 2304
  ready_made = omega (arith, made_capacity (file_of bs root) ready_headed, entries_count bs root, q.lists.entries, names_idents_nodes root, ready_nodes, q.nodes)

  pub ready_errors : length (rec.errors (resolved (file_of bs root)).log) ≤ 2048
  ready_errors = omega (arith, errors_nodes (file_of bs root), ready_nodes, q.nodes)
