-- The groups of numbers, one after the other: what a group leaves of a file, and that its number is judging's where the groups before it refuse nothing.
use Rattle.std.specs.Prelude.{ℕ, ◌<◌, ◌≡◌, true, false, List, ◌++◌, Result, Ok, Err, refl}
use Rattle.std.specs.Result.{is_err}
use Rattle.std.proofs.Common.{sym, subst, arith, true≢false}
use Rattle.base.specs.First.{First, NoneHolds, none-at, first-none, first-front, first-after}
use Rattle.base.specs.Refusals.{number_of, answered}
use Rattle.base.specs.declared.refusal.Refusal.{Refusal}
use Rattle.base.specs.declared.refusal.Refusal.TheVariants as refusal
use Rattle.header.specs.Header.{header_rows, HeaderOk, header_ok}
use Rattle.names.specs.Rows.{name_rows}
use Rattle.shape.specs.Rows.{shape_rows}
use Rattle.scoping.specs.Rows.{scope_rows}
use Rattle.scoping.specs.Shaped.{Shaped}
use Rattle.judge.specs.Cond.{Judged}

-- ---- a refusal has a number, and what is accepted none

refused : (r : Refusal) → 0 < number_of r
refused refusal.ShortBuffer = omega arith
refused refusal.Header = omega arith
refused refusal.Counts = omega arith
refused refusal.Length = omega arith
refused refusal.Names = omega arith
refused refusal.Lists = omega arith
refused refusal.Nodes = omega arith
refused refusal.Children = omega arith
refused refusal.Depth = omega arith
refused refusal.Scopes = omega arith
refused refusal.Params = omega arith
refused refusal.ManySlots = omega arith
refused refusal.ShortList = omega arith

some : (r : Refusal) → number_of r ≡ 0 → ⊥
some r z = omega (arith, refused r)

pub err_some : (v : Result (Unit {0}) Refusal) → is_err v ≡ true → 0 < answered v
err_some (Ok t) e = absurd (true≢false (sym e))
err_some (Err r) e = refused r

pub ok_none : (v : Result (Unit {0}) Refusal) → is_err v ≡ false → answered v ≡ 0
ok_none (Ok t) e = refl
ok_none (Err r) e = absurd (true≢false e)

-- ---- the groups

module _ {bs : List ℕ} {r : Refusal} {v : Result (Unit {0}) Refusal} (e : v ≡ Err r) where
  judged : Judged bs (number_of r) → Judged bs (answered v)
  judged j = subst (λ (x : Result (Unit {0}) Refusal). Judged bs (answered x)) (sym e) j

  pub by_header : First (header_rows bs) (number_of r) → Judged bs (answered v)
  by_header f = judged (first-front (header_rows bs) (name_rows bs ++ (shape_rows bs ++ scope_rows bs)) (some r) f)

module _ {bs : List ℕ} (header : First (header_rows bs) 0) where
  no_header : NoneHolds (header_rows bs)
  no_header = first-none (header_rows bs) 0 tt refl header

  pub header_left : HeaderOk bs
  header_left = let n = none-at (header_rows bs) no_header in header_ok bs (n 2) (n 3) (n 4)

  pub by_names : {r : Refusal} {v : Result (Unit {0}) Refusal} → v ≡ Err r → First (name_rows bs) (number_of r) → Judged bs (answered v)
  by_names {r} e f = judged e (first-after (header_rows bs) (name_rows bs ++ (shape_rows bs ++ scope_rows bs)) (number_of r) no_header (first-front (name_rows bs) (shape_rows bs ++ scope_rows bs) (some r) f))

  module _ (names : First (name_rows bs) 0) where
    after_names : (n : ℕ) → First (shape_rows bs ++ scope_rows bs) n → Judged bs n
    after_names n f = first-after (header_rows bs) (name_rows bs ++ (shape_rows bs ++ scope_rows bs)) n no_header (first-after (name_rows bs) (shape_rows bs ++ scope_rows bs) n (first-none (name_rows bs) 0 tt refl names) f)

    pub by_shape : {r : Refusal} {v : Result (Unit {0}) Refusal} → v ≡ Err r → First (shape_rows bs) (number_of r) → Judged bs (answered v)
    by_shape {r} e f = judged e (after_names (number_of r) (first-front (shape_rows bs) (scope_rows bs) (some r) f))

    module _ (shape : First (shape_rows bs) 0) where
      no_shape : NoneHolds (shape_rows bs)
      no_shape = first-none (shape_rows bs) 0 tt refl shape

      pub shaped : Shaped bs
      shaped = let n = none-at (shape_rows bs) no_shape in record { header = header_left; nodes = n 7; children = n 8 }

      pub by_scopes : {n : ℕ} → First (scope_rows bs) n → Judged bs n
      by_scopes {n} f = after_names n (first-after (shape_rows bs) (scope_rows bs) n no_shape f)
