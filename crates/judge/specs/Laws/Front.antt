-- A file longer than any that is accepted: its answer goes by its first 12 bytes.
use Rattle.std.specs.Prelude.{ℕ, ◌≤◌, ◌<◌, ◌≡◌, List, length, take}
use Rattle.std.proofs.Common.{sym, ◌∙◌, arith, length-take}
use Rattle.base.specs.First.{here, later}
use Rattle.bits.proofs.FieldLaws.{field-take}
use Rattle.nodefile.specs.Layout.{version, head_zero, node_count, name_count, entry_count, global_count, pool_bytes}
use Rattle.base.specs.Says.{unless}
use Rattle.header.specs.Header.{BadHeader, short, other_version, zero_bits_set, BadCounts, no_nodes, too_many_nodes, too_many_names, too_many_entries, too_many_globals, large_pool, BadLength, other_length}
use Rattle.judge.specs.Cond.{Judged}

-- the first 12 bytes say the same
pub record Same (fs bs : List ℕ) : Type 0 where
  pub version' : version fs ≡ version bs
  pub zero : head_zero fs ≡ head_zero bs
  pub nodes : node_count fs ≡ node_count bs
  pub names : name_count fs ≡ name_count bs
  pub entries : entry_count fs ≡ entry_count bs
  pub globals : global_count fs ≡ global_count bs
  pub pool : pool_bytes fs ≡ pool_bytes bs
  pub long : 37388 < length fs

module _ {fs bs : List ℕ} (s : Same fs bs) (long : 37388 < length bs) where
  header : BadHeader fs → BadHeader bs
  header (short h) = absurd (omega (arith, s.long))
  header (other_version h) = other_version (λ e. h (s.version' ∙ e))
  header (zero_bits_set h) = zero_bits_set (λ e. h (s.zero ∙ e))

  counts : BadCounts fs → BadCounts bs
  counts (no_nodes h) = no_nodes (sym s.nodes ∙ h)
  counts (too_many_nodes h) = too_many_nodes (omega (arith, s.nodes))
  counts (too_many_names h) = too_many_names (omega (arith, s.names))
  counts (too_many_entries h) = too_many_entries (omega (arith, s.entries))
  counts (too_many_globals h) = too_many_globals (omega (arith, s.globals))
  counts (large_pool h) = large_pool (omega (arith, s.pool))

-- no file as long as this has the length that its header says
too_long : (bs : List ℕ) → 37388 < length bs → (BadCounts bs → ⊥) → BadLength bs
too_long bs h ok = other_length (λ e. omega (
  arith,
  unless (node_count bs) 2048 ok too_many_nodes,
  unless (name_count bs) 1024 ok too_many_names,
  unless (entry_count bs) 256 ok too_many_entries,
  unless (global_count bs) 256 ok too_many_globals,
  unless (pool_bytes bs) 16384 ok large_pool,
))

module _ {fs bs : List ℕ} (s : Same fs bs) (t : Same bs fs) where
  pub same_answer : {r : ℕ} → Judged fs r → Judged bs r
  same_answer (here two e) = here (header s t.long two) e
  same_answer (later two (here three e)) = later (λ h. two (header t s.long h)) (here (counts s t.long three) e)
  same_answer (later two (later three (here four e))) =
      let ok : BadCounts bs → ⊥ = λ h. three (counts t s.long h) in
      later (λ h. two (header t s.long h)) (later ok (here (too_long bs t.long ok) e))
  same_answer (later two (later three (later four f))) = absurd (four (too_long fs s.long three))

same_front : (bs : List ℕ) (n : ℕ) → 37388 < n → n ≤ length bs → Same (take n bs) bs
same_front bs n h l =
    record {
      version' = field-take bs n 0 4 (omega arith);
      zero = field-take bs n 5 3 (omega arith);
      nodes = field-take bs n 8 16 (omega arith);
      names = field-take bs n 24 16 (omega arith);
      entries = field-take bs n 40 16 (omega arith);
      globals = field-take bs n 56 16 (omega arith);
      pool = field-take bs n 72 24 (omega arith);
      long = omega (arith, length-take n bs);
    }

back : {fs bs : List ℕ} → 37388 < length bs → Same fs bs → Same bs fs
back l s =
    record {
      version' = sym s.version';
      zero = sym s.zero;
      nodes = sym s.nodes;
      names = sym s.names;
      entries = sym s.entries;
      globals = sym s.globals;
      pool = sym s.pool;
      long = l;
    }

pub front : (bs : List ℕ) (n r : ℕ) → 37388 < n → n ≤ length bs → Judged (take n bs) r → Judged bs r
front bs n r h l j = let s = same_front bs n h l in same_answer s (back (omega arith) s) j
