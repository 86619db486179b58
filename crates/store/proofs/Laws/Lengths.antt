-- The bindings' list after a call is as long as before; the working lists have their lengths from their types.
use Rattle.std.specs.Prelude.{◌≡◌, ◌≤◌, length}
use Rattle.std.proofs.Common.{◌∙◌, arith}
use Rattle.store.specs.Sections.{Mem, Long, many_bindings, w_length, t_length}

pub record Kept (m m' : Mem) : Type 0 where
  pub binds : length m'.binds ≡ length m.binds

pub long_kept : {m m' : Mem} → Long m → Kept m m' → Long m'
long_kept l k = record { binds = omega (arith, l.binds, k.binds) }

-- all three lengths
pub record Lent (m : Mem) : Type 0 where
  pub binds : many_bindings ≤ length m.binds
  pub w : length m.w ≡ w_length
  pub t : length m.t ≡ t_length

-- all three lists are as long as before
pub record AllKept (m m' : Mem) : Type 0 where
  pub binds : length m'.binds ≡ length m.binds
  pub w : length m'.w ≡ length m.w
  pub t : length m'.t ≡ length m.t

pub lent_kept : {m m' : Mem} → Lent m → AllKept m m' → Lent m'
lent_kept l k = record { binds = omega (arith, l.binds, k.binds); w = k.w ∙ l.w; t = k.t ∙ l.t }
