-- `lines::put_ident` meets its contract: by the kind and the class.
-- Assumes nothing.
use mathlib.Core.Path.{sym, ap, ◌∙◌}
use Rattle.answer.specs.Classes.{class_number}
use Rattle.text.specs.Laws.{puts_none, puts_then, puts_line}
use Rattle.lines.specs.Lines.{ident_line}
use Rattle.lines.proofs.Idents.{other_kind, ident_kind, filled}
use Rattle.lines.proofs.put_ident.Goals as goal

pub returns-then-ne : goal.returns-then-ne
unfolding ident_line
returns-then-ne c = rw (other_kind _ _ c.named_kind.ensures c.if-ne.ensures) (puts_line (puts_none _ _))

pub returns-in-Nothing : goal.returns-in-Nothing
unfolding ident_line
returns-in-Nothing c =
    rw (ident_kind _ _ c.named_kind.ensures c.if-ne.ensures, sym c.class.ensures.is ∙ ap class_number c.in-Nothing.is) (puts_line (puts_none _ _))

pub returns-in_default : goal.returns-in_default
unfolding ident_line
returns-in_default c =
    rw (ident_kind _ _ c.named_kind.ensures c.if-ne.ensures, sym c.class.ensures.is, filled _ c.in_default.not-Nothing) (puts_line (puts_then c.put_number-k.ensures c.put_resolution.ensures))
