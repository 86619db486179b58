-- `text::put_bytes` meets its contract: all bytes come before the window, or behind it, or a byte for each number below the index is put.
-- Assumes nothing.
use Prim.Native.Nat.{ℕ}
use mathlib.Core.List.{[], ◌∷◌}
use lib.ListN.{get_or}
use Rattle.text.specs.Window.{Rows}
use Rattle.text.proofs.put_bytes.Given as goal

abbrev pub invariant-loop-byte : goal.invariant-loop-byte
invariant-loop-byte l = Rows (λ (j : ℕ). get_or l.bytes j 0 ∷ []) l.byte-index l.initial.k l.initial.out l.k l.out
