-- A node without children: an Ident is looked up (`Steps`' x-ident), any other comes to nothing.
use Prim.Native.Nat.{ℕ, ◌+◌, ◌-◌, ◌≤◌}
use mathlib.Core.Path.{◌≡◌}
use mathlib.Core.Bool.{Bool, true}
use mathlib.Core.List.{List}
use native.Mathlib.Omega.{arith}
use native.Mathlib.Decide.{ℕ_discrete}
use lib.ListN.{length, take, drop}
use Rattle.nodefile.specs.Node.{size_of, kind_of}
use Rattle.std.specs.Prelude.{Result}
use Rattle.store.specs.declared.ids.State.{State}
use Rattle.store.specs.declared.ids.Full.{Full}
use Rattle.store.specs.Sections.{Mem}
use Rattle.nodefile.specs.Valid.{Some}
use Rattle.nodefile.proofs.Laws.Parts.{some_long}
use Rattle.idents.specs.Cycle.{Pre1, Done}
use Rattle.idents.proofs.Steps.{k_start, k_end, any_done, x-one, x_kids_length, x_kids_pre, x_others, x_type}
use Rattle.idents.proofs.Functions.{name_some}

module _ {part : List ℕ} {at : ℕ} {s : Result State Full} {m : Mem} (p : Pre1 part at s m) (h : size_of part ≤ 1) where
  no_kids : length (take (length part - 8) (drop 8 part)) ≡ 0
  no_kids = omega (arith, x_kids_length p, p.whole, p.some)

  none : Some (x-one p p.pre.ghost).kids → ⊥
  none q =
      let o = x-one p p.pre.ghost in
      omega (arith, no_kids, some_long (take (length part - 8) (drop 8 part)) (at + 1) o.kids o.under q)

  nothing : (ty : Bool) → Done (take (length part - 8) (drop 8 part)) (at + 1) ty s m s m
  nothing ty = k_end (k_start ty (x_kids_pre p)) (omega (arith, no_kids))

  pub x_leaf : (kind_of part ≡ 11 → ⊥) → (ty : Bool) → Done part at ty s m s m
  x_leaf n ty =
      go
      (ℕ_discrete (kind_of part) 6)
      (ℕ_discrete (kind_of part) 12)
      (ℕ_discrete (kind_of part) 13)
      (ℕ_discrete (kind_of part) 15)
      (ℕ_discrete (kind_of part) 18)
    where
      go : Dec (kind_of part ≡ 6) → Dec (kind_of part ≡ 12) → Dec (kind_of part ≡ 13) → Dec (kind_of part ≡ 15) → Dec (kind_of part ≡ 18) → Done part at ty s m s m
      go (yes e) b c d f = absurd (none (name_some _ ((x-one p p.pre.ghost).ok.def e).1))
      go (no a) (yes e) c d f = absurd (none ((x-one p p.pre.ghost).ok.lambda e).1)
      go (no a) (no b) (yes e) d f = absurd (none ((x-one p p.pre.ghost).ok.compr e))
      go (no a) (no b) (no c) (yes e) f = absurd (none ((x-one p p.pre.ghost).ok.clause e))
      go (no a) (no b) (no c) (no d) (yes e) = any_done ty (x_type p e (nothing true))
      go (no a) (no b) (no c) (no d) (no f) = x_others p (a, n, b, c, d, f) (nothing ty)
