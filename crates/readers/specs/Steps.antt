-- What the steps of `readers` say to each other.
use Rattle.std.specs.Prelude.{ℕ, ◌≤◌, List, length}
use Rattle.nodefile.specs.Layout.{node_count, global_count}
use Rattle.group.specs.Grouped.{Answers}
use Rattle.readers.specs.Keys.{binding_keys, global_keys}
use Rattle.readers.specs.Lists.{Lists, list_full}

-- the nodes of a file have room among the keys, and each has a record
pub record Kept (bs nodes : List ℕ) : Type 0 where
  pub few : node_count bs ≤ list_full
  pub held : list_full ≤ length nodes

-- both groups were asked for: of the bindings, and of the globals
pub record Listed (bs nodes : List ℕ) (bindings : ℕ) (l l' : Lists) : Type 0 where
  pub of_bindings : Answers (binding_keys bs nodes) bindings (length l.starts) (length l.counts) (length l.list) l'.starts l'.counts l'.list
  pub of_globals : Answers (global_keys bs nodes) (global_count bs) (length l.global_starts) (length l.global_counts) (length l.global_list) l'.global_starts l'.global_counts l'.global_list
