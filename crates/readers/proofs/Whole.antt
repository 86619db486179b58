-- The keys of a whole file, as the code has them: the list's nodes, in a part of an array that is long enough.
use Prim.Native.Nat.{ℕ, ◌-◌, ◌≤◌}
use mathlib.Core.Path.{◌≡◌, refl}
use mathlib.Core.Bool.{Bool}
use mathlib.Core.List.{List}
use native.Mathlib.Omega.{arith}
use lib.ListN.{length, take}
use lib.Seq.{length-take-le}
use Rattle.base.specs.UpTo.{up_to}
use Rattle.nodefile.specs.Layout.{node_count, nodes_of}
use Rattle.readers.specs.Keys.{key_at, keys_of}

pub whole : (globals : Bool) (bs nodes keys : List ℕ) {t : List ℕ} {n : ℕ} → t ≡ nodes_of bs → n ≡ node_count bs → n ≤ length keys → up_to (key_at globals t nodes) (length (take (n - 0) keys)) ≡ keys_of globals bs nodes
whole globals bs nodes keys {t} {n} e q h = let z : n - 0 ≡ n = omega arith in rw (z, length-take-le n keys h, e, q) refl
