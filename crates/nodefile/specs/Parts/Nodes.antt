-- Parts of the node list that hold trees: the first node of a part and what follows it, and a part that is one node.
use Rattle.std.specs.Prelude.{ℕ, ◌+◌, ◌-◌, ◌*◌, ◌≤◌, ◌<◌, ◌≡◌, List, length, take, drop}
use Rattle.lexical.specs.Tree.{Forest, nil, node}
use Rattle.nodefile.specs.Node.{kind_of, size_of, value_of, below, after}
use Rattle.nodefile.specs.Reads.{Reads}
use Rattle.nodefile.specs.Valid.{NodeOk, Valid, Some}

-- the node that starts a part that reads f, by itself, and what follows it
abbrev pub alone : List ℕ → ℕ → Forest → Forest
alone t at kids = node at (kind_of t) (value_of t) kids nil

pub record Split (t : List ℕ) (at : ℕ) (f : Forest) : Type 0 where
  pub kids : Forest
  pub rest : Forest
  pub is : f ≡ node at (kind_of t) (value_of t) kids rest
  pub some : 0 < size_of t
  pub inside : 8 * size_of t ≤ length t
  pub under : Reads (below t) (at + 1) kids
  pub one : Reads (take (8 * size_of t) t) at (alone t at kids)
  pub after : Reads (after t) (at + size_of t) rest

pub record One (t : List ℕ) (at : ℕ) (f : Forest) : Type 0 where
  pub kids : Forest
  pub is : f ≡ alone t at kids
  pub under : Reads (take (length t - 8) (drop 8 t)) (at + 1) kids
  pub ok : NodeOk at (kind_of t) (value_of t) kids
  pub valid : Valid kids

-- a Name, and more after it: it has no children, so that it takes 8 bytes
pub record Named (t : List ℕ) (at : ℕ) (f : Forest) : Type 0 where
  pub rest : Forest
  pub is : f ≡ node at 8 (value_of t) nil rest
  pub number : at < 2048
  pub small : value_of t < 1024
  pub long : 8 ≤ length t
  pub after : Reads (drop 8 t) (at + 1) rest
  pub some : Some rest
  pub valid : Valid rest
