-- What a file that judging accepts has: its counts, its lists, and its tree with what each node keeps to (document 01, "The node file").
use Rattle.std.specs.Prelude.{ℕ, ◌≤◌, ◌<◌, ◌≡◌, true, false, List, length}
use Rattle.lexical.specs.Places.{In, Distinct}
use Rattle.lexical.specs.Tree.{Forest, nil, node, scopes_in}
use Rattle.lexical.specs.Table.{allowed, kinds, param_names}
use Rattle.nodefile.specs.Layout.{name_count, nodes_of, names_of, pool_of}
use Rattle.nodefile.specs.FileOf.{entry_names, global_names}
use Rattle.nodefile.specs.Reads.{Reads}
use Rattle.nodefile.specs.Order.{Spot}
use Rattle.header.specs.Header.{HeaderOk}
use Rattle.names.specs.Names.{NamesOk}
use Rattle.shape.specs.Nodes.{has_name, has_scope}
use Rattle.nodefile.specs.Height.{height}
use Rattle.scoping.specs.Scopes.{EachOnce}

-- a list of names: each is one of the file's, and none stands twice
pub record ListOk (names : ℕ) (xs : List ℕ) : Type 0 where
  pub known : (x : ℕ) → In x xs → x < names
  pub once : Distinct xs

-- one node of the tree
pub record NodeOk (names : ℕ) (s : Spot) : Type 0 where
  pub kind : s.kind ≤ 18
  pub children : allowed s.kind (kinds s.kids) ≡ true
  pub name : has_name s.kind ≡ true → s.value < names
  pub zero : has_name s.kind ≡ false → has_scope s.kind ≡ false → s.value ≡ 0
  pub params : has_scope s.kind ≡ true → Distinct (param_names s.kids)

-- every node of some trees
abbrev pub Each : (Spot → Type 0) → Forest → Type 0
Each P nil = Unit {0}
Each P (node a k v kids rest) = P (record { number = a; kind = k; value = v; kids = kids }) × Each P kids × Each P rest

-- one tree, whose root is a statement
pub record Root (f : Forest) : Type 0 where
  pub kind : ℕ
  pub value : ℕ
  pub kids : Forest
  pub is : f ≡ node 0 kind value kids nil
  pub statement : kind ≤ 7

pub record Accepted (bs : List ℕ) : Type 0 where
  pub header : HeaderOk bs
  pub names : NamesOk (name_count bs) (names_of bs) (pool_of bs)
  pub entries : ListOk (name_count bs) (entry_names bs)
  pub globals : ListOk (name_count bs) (global_names bs)
  pub tree : Forest
  pub reads : Reads (nodes_of bs) 0 tree
  pub root : Root tree
  pub nodes : Each (NodeOk (name_count bs)) tree
  pub shallow : height tree ≤ 64
  pub scopes : EachOnce (scopes_in tree)
  pub few : length (scopes_in tree) ≤ 255
