-- Number 8: a row of the table, and what a Param is let besides it.
use Rattle.std.specs.Prelude.{ℕ, ◌≡◌, refl, Bool, true, false, ◌&&◌, List, eqb, length}
use Rattle.std.proofs.Common.{sym, ap, ◌∙◌}
use Rattle.lexical.specs.Table.{Item, row, is_empty, matches, allowed}
use Rattle.nodefile.specs.Kinds.{number}
use Rattle.nodefile.specs.Kids.{Kids}
use Rattle.nodefile.specs.declared.kinds.Kind.{Kind}
use Rattle.nodefile.specs.declared.kinds.Kind.TheVariants as kind
use Rattle.shape.proofs.Filling.{none_left}

no_param : (k : Kind) → (k ≡ kind.Param → ⊥) → eqb (number k) 17 ≡ false
no_param kind.Block n = refl
no_param kind.Plain n = refl
no_param kind.Assign n = refl
no_param kind.Modify n = refl
no_param kind.If n = refl
no_param kind.For n = refl
no_param kind.Def n = refl
no_param kind.Load n = refl
no_param kind.Name n = refl
no_param kind.Tuple n = refl
no_param kind.Place n = refl
no_param kind.Ident n = refl
no_param kind.Lambda n = refl
no_param kind.Compr n = refl
no_param kind.Other n = refl
no_param kind.ForClause n = refl
no_param kind.IfClause n = refl
no_param kind.Param n = absurd (n refl)
no_param kind.Type n = refl

-- what is asked first: whether the node is a Param without children
module _ {k : Kind} {kids ks : List ℕ} (m : Kids kids ks) {bare : Bool} where
  pub bare_param : k ≡ kind.Param → bare ≡ eqb (length kids) 0 → bare ≡ (eqb (number k) 17 && is_empty ks)
  bare_param e b = rw (e, none_left m) b

  pub bare_other : (k ≡ kind.Param → ⊥) → bare ≡ false → bare ≡ (eqb (number k) 17 && is_empty ks)
  bare_other n b = rw (no_param k n) b

module _ (k : ℕ) (ks : List ℕ) {bare : Bool} (b : bare ≡ (eqb k 17 && is_empty ks)) where
  pub allowed_bare : bare ≡ true → bare ≡ allowed k ks
  unfolding allowed
  allowed_bare e = rw (sym b, e) refl

  pub allowed_row : bare ≡ false → {is : List Item} → is ≡ row k → {r : Bool} → r ≡ matches is ks → r ≡ allowed k ks
  unfolding allowed
  allowed_row e i m = rw (sym b, e) (m ∙ ap (λ (is : List Item). matches is ks) i)
