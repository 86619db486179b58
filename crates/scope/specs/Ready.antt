-- What judging leaves of a file and of the tree that its nodes hold, as far as the walks and their records need it (document 01, numbers 2 to 11).
use Rattle.std.specs.Prelude.{ℕ, ◌*◌, ◌<◌, ◌≤◌, ◌≡◌, List, length}
use Rattle.lexical.specs.Tree.{Forest, scopes_in}
use Rattle.lexical.specs.Table.{Tabled}
use Rattle.lexical.specs.Claims.{Once}
use Rattle.nodefile.specs.Layout.{node_count, file_length, nodes_of}
use Rattle.nodefile.specs.Node.{size_of}
use Rattle.nodefile.specs.Reads.{Reads}
use Rattle.nodefile.specs.Height.{height}
use Rattle.nodefile.specs.Valid.{Valid}
use Rattle.note.specs.Noted.{ListsOk}

pub record Ready (bs : List ℕ) (root : Forest) : Type 0 where
  pub exact : length bs ≡ file_length bs
  pub some : 0 < node_count bs
  pub nodes : node_count bs ≤ 2048
  pub lists : ListsOk bs
  pub reads : Reads (nodes_of bs) 0 root
  pub whole : 8 * size_of (nodes_of bs) ≡ length (nodes_of bs)
  pub valid : Valid root
  pub tabled : Tabled root
  pub shallow : height root ≤ 64
  pub once : Once (scopes_in root)
  pub few : length (scopes_in root) ≤ 255
