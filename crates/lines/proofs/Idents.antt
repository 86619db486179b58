-- The test for the kind Ident is the test for its number; a class that is not Nothing has another number than 0.
use mathlib.Core.Path.{◌≡◌, refl, sym, ap, ◌∙◌}
use Rattle.std.proofs.Math.Bool.{not}
use Rattle.std.proofs.lemmas.Bool.{not-true, not-false}
use Rattle.std.specs.Option.{option_eq}
use Rattle.std.specs.Prelude.{ℕ, eqb, Option, None, Some, ◌<◌}
use Rattle.std.proofs.Common.{true, false, arith}
use borrow.Author.Tests.{ne_eqb}
use Rattle.answer.specs.declared.node.NodeClass.{NodeClass}
use Rattle.answer.specs.declared.node.NodeClass.TheVariants as class
use Rattle.answer.specs.Classes.{class_number}
use Rattle.nodefile.specs.declared.kinds.Kind.{Kind}
use Rattle.nodefile.specs.declared.kinds.Kind.TheVariants as kind
use Rattle.nodefile.specs.contracts.kinds.KindPartialEq.TheImpl as same
use Rattle.nodefile.specs.Kinds.{number, KindIs}

ident-is : (n : ℕ) (o : Option Kind) → KindIs n o → option_eq same.eq-value.it o (Some kind.Ident) ≡ eqb n 11
ident-is n None h = rw (ne_eqb n 11 (λ e. omega (arith, e, h))) refl
ident-is n (Some k) h = rw h (go k)
  where
    go : (k : Kind) → option_eq same.eq-value.it (Some k) (Some kind.Ident) ≡ eqb (number k) 11
    go kind.Block = refl
    go kind.Plain = refl
    go kind.Assign = refl
    go kind.Modify = refl
    go kind.If = refl
    go kind.For = refl
    go kind.Def = refl
    go kind.Load = refl
    go kind.Name = refl
    go kind.Tuple = refl
    go kind.Place = refl
    go kind.Ident = refl
    go kind.Lambda = refl
    go kind.Compr = refl
    go kind.Other = refl
    go kind.ForClause = refl
    go kind.IfClause = refl
    go kind.Param = refl
    go kind.Type = refl

module _ (n : ℕ) (o : Option Kind) (h : KindIs n o) where
  pub other_kind : true ≡ not (option_eq same.eq-value.it o (Some kind.Ident)) → eqb n 11 ≡ false
  other_kind e = not-true _ (sym (e ∙ ap not (ident-is n o h)))

  pub ident_kind : false ≡ not (option_eq same.eq-value.it o (Some kind.Ident)) → eqb n 11 ≡ true
  ident_kind e = not-false _ (sym (e ∙ ap not (ident-is n o h)))

pub filled : (k : NodeClass) → (k ≡ class.Nothing → ⊥) → eqb (class_number k) 0 ≡ false
filled class.Nothing f = absurd (f refl)
filled class.Module f = refl
filled class.Local f = refl
filled class.Global f = refl
