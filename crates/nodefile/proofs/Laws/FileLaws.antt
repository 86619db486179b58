-- What a file of the length that its header says stands for.
use Rattle.std.specs.Prelude.{ℕ, ◌<◌, ◌≡◌, List, length}
use Rattle.std.proofs.Math.Option.{some}
use Rattle.std.proofs.Common.{arith}
use Rattle.std.proofs.Math.ListN.{get_elem?}
use Rattle.base.specs.UpTo.{up_to_at, up_to_length}
use Rattle.lexical.specs.Places.{In}
use Rattle.lexical.specs.Tree.{Forest, nodes_in}
use Rattle.nodefile.specs.Layout.{node_count, entry_count, global_count, file_length, nodes_of, entries_of, globals_of, nodes_length}
use Rattle.nodefile.specs.Lists.{global_name}
use Rattle.nodefile.specs.Reads.{Reads, count_of}
use Rattle.nodefile.proofs.Laws.Reads.{reads_length}
use Rattle.nodefile.proofs.Laws.Listed.{nodes_below}
use Rattle.nodefile.specs.FileOf.{entry_of, file_of}

module _ (bs : List ℕ) (root : Forest) where
  pub entries_count : length (file_of bs root).entries ≡ entry_count bs
  entries_count = up_to_length (entry_of (entries_of bs)) (entry_count bs)

  pub entries_at : (k : ℕ) → k < entry_count bs → get_elem? (file_of bs root).entries k ≡ some (entry_of (entries_of bs) k)
  entries_at k h = up_to_at (entry_of (entries_of bs)) (entry_count bs) k h

  pub globals_count : length (file_of bs root).globals ≡ global_count bs
  globals_count = up_to_length (global_name (globals_of bs)) (global_count bs)

  pub globals_at_lem : (k : ℕ) → k < global_count bs → get_elem? (file_of bs root).globals k ≡ some (global_name (globals_of bs) k)
  globals_at_lem k h = up_to_at (global_name (globals_of bs)) (global_count bs) k h

  -- its tree has as many nodes as the header says, numbered from 0
  module _ (exact : length bs ≡ file_length bs) (r : Reads (nodes_of bs) 0 root) where
    pub tree_count : count_of root ≡ node_count bs
    tree_count = omega (arith, reads_length root (nodes_of bs) 0 r, nodes_length bs exact)

    pub tree_below : (x : ℕ) → In x (nodes_in root) → x < node_count bs
    tree_below x m = omega (arith, tree_count, nodes_below root (nodes_of bs) 0 r x m)
