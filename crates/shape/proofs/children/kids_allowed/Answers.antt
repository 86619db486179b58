-- A Param without children is let by; any other node goes by its row.
use Rattle.std.proofs.Common.{rules, ◌≡◌, ◌∙◌}
use Rattle.nodefile.specs.declared.kinds.Kind.TheVariants as kind
use Rattle.shape.proofs.Rows.{bare_param, bare_other, allowed_bare, allowed_row}
use Rattle.shape.proofs.children.kids_allowed.Goals.{then-eq, else-eq}
use Rattle.shape.proofs.children.kids_allowed.Goals as goal

pub returns-then-is_empty : goal.returns-then-is_empty
returns-then-is_empty c = λ ks m. elim c.if-eq.branch [
  | then-eq w ↦ let e : c.args.kind ≡ kind.Param = search rules in allowed_bare _ ks (bare_param m e (w.value-is ∙ w.is_empty.ensures)) c.if-is_empty.true
  | else-eq w ↦ let n : c.args.kind ≡ kind.Param → ⊥ = search rules in allowed_bare _ ks (bare_other m n (w.value-is ∙ w.if-eq.false)) c.if-is_empty.true
]

pub returns-else-is_empty : goal.returns-else-is_empty
returns-else-is_empty c = λ ks m. elim c.if-eq.branch [
  | then-eq w ↦ let e : c.args.kind ≡ kind.Param = search rules in allowed_row _ ks (bare_param m e (w.value-is ∙ w.is_empty.ensures)) c.if-is_empty.false c.row.ensures (c.matches.ensures ks m)
  | else-eq w ↦ let n : c.args.kind ≡ kind.Param → ⊥ = search rules in allowed_row _ ks (bare_other m n (w.value-is ∙ w.if-eq.false)) c.if-is_empty.false c.row.ensures (c.matches.ensures ks m)
]
