-- How a byte string stands in a stream.
use Rattle.std.specs.Prelude.{◌≡◌, ℕ, List, ◌++◌, length, Option}
use Rattle.std.specs.Io.KnownBytes.{Consumes}
use Rattle.bits.specs.Field.{Field}

-- what was left began with four bytes, which as a number are n, and then with these bytes
pub record Framed (old new : Option (List ℕ)) (n : ℕ) (bytes : List ℕ) : Type 0 where
  pub head : List ℕ
  pub long : length head ≡ 4
  pub says : Field head 0 32 n
  pub taken : Consumes old new (head ++ bytes)
