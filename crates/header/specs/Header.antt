-- Numbers 2, 3 and 4 of document 01: what the header says, and the length of the file.
use Rattle.std.specs.Prelude.{ℕ, ◌≤◌, ◌<◌, ◌≡◌, List, [], ◌∷◌, length}
use Rattle.std.proofs.Common.{arith}
use Rattle.base.specs.First.{Row, ◌when◌}
use Rattle.base.specs.Says.{unless, unless_not}
use Rattle.nodefile.specs.Layout.{version, head_zero, node_count, name_count, entry_count, global_count, pool_bytes, file_length}

-- 2: fewer than 12 bytes, version not 1, or zero bits set in the header
pub data BadHeader (bs : List ℕ) : Type 0 where
  short : length bs < 12 → BadHeader bs
  other_version : (version bs ≡ 1 → ⊥) → BadHeader bs
  zero_bits_set : (head_zero bs ≡ 0 → ⊥) → BadHeader bs

-- 3: nodes 0 or above 2,048; names above 1,024; module entries above 256; globals above 256; pool above 16,384
pub data BadCounts (bs : List ℕ) : Type 0 where
  no_nodes : node_count bs ≡ 0 → BadCounts bs
  too_many_nodes : 2048 < node_count bs → BadCounts bs
  too_many_names : 1024 < name_count bs → BadCounts bs
  too_many_entries : 256 < entry_count bs → BadCounts bs
  too_many_globals : 256 < global_count bs → BadCounts bs
  large_pool : 16384 < pool_bytes bs → BadCounts bs

-- 4: length is not exactly what the header says
pub data BadLength (bs : List ℕ) : Type 0 where
  other_length : (length bs ≡ file_length bs → ⊥) → BadLength bs

-- in the order in which they are asked
abbrev pub header_rows : List ℕ → List Row
header_rows bs =
    2 when BadHeader bs
    ∷ 3 when BadCounts bs
    ∷ 4 when BadLength bs
    ∷ []

-- what they leave of a file
pub record HeaderOk (bs : List ℕ) : Type 0 where
  pub version_1 : version bs ≡ 1
  pub some : 0 < node_count bs
  pub nodes : node_count bs ≤ 2048
  pub names : name_count bs ≤ 1024
  pub entries : entry_count bs ≤ 256
  pub globals : global_count bs ≤ 256
  pub pool : pool_bytes bs ≤ 16384
  pub total : length bs ≡ file_length bs

pub header_ok : (bs : List ℕ) → (BadHeader bs → ⊥) → (BadCounts bs → ⊥) → (BadLength bs → ⊥) → HeaderOk bs
header_ok bs two three four =
    record {
      version_1 = unless_not (version bs) 1 two other_version;
      some = unless 1 (node_count bs) three (λ h. no_nodes (omega arith));
      nodes = unless (node_count bs) 2048 three too_many_nodes;
      names = unless (name_count bs) 1024 three too_many_names;
      entries = unless (entry_count bs) 256 three too_many_entries;
      globals = unless (global_count bs) 256 three too_many_globals;
      pool = unless (pool_bytes bs) 16384 three large_pool;
      total = unless_not (length bs) (file_length bs) four other_length;
    }
