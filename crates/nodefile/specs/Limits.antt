-- How much of each a file may have (document 01, number 3).
use Rattle.std.specs.Prelude.{ℕ}

abbrev pub many_nodes : ℕ
many_nodes = 2048

abbrev pub many_names : ℕ
many_names = 1024
