-- `lines::put_resolution` meets its contract: by the class.
-- Assumes nothing.
use mathlib.Core.Path.{refl, sym, ap, ◌∙◌}
use mathlib.Core.Logic.{inl, inr}
use Rattle.answer.specs.Classes.{class_number}
use Rattle.text.specs.Laws.{puts_then, puts_text}
use Rattle.lines.specs.Lines.{resolution_text}
use Rattle.lines.proofs.put_resolution.Goals.{in-Module, in-Nothing}
use Rattle.lines.proofs.put_resolution.Goals as goal

pub returns-in-Global : goal.returns-in-Global
unfolding resolution_text
returns-in-Global c =
    rw (sym c.class.ensures.is ∙ ap class_number c.in-Global.is) (puts_text (puts_then c.put_number-g.ensures c.put_bytes.ensures) (rw c.slot.ensures.is refl))

pub returns : goal.returns
unfolding resolution_text
returns c =
    let p = puts_then c.put_bytes-k.ensures (puts_then c.put_decimal-k.ensures (puts_then c.put_number-k.ensures c.put_bytes-2.ensures)) in
    elim c.match-class.branch [
      | in-Module w ↦ rw (sym c.class.ensures.is ∙ ap class_number w.in-Module.is) (puts_text p (rw (w.word-is, c.slot-2.ensures.is, c.binding.ensures.is) refl))
      | in-Nothing w ↦ elim w.in-Nothing.is [
        | inl e ↦ rw (sym c.class.ensures.is ∙ ap class_number e) (puts_text p (rw (w.word-is, c.slot-2.ensures.is, c.binding.ensures.is) refl))
        | inr e ↦ rw (sym c.class.ensures.is ∙ ap class_number e) (puts_text p (rw (w.word-is, c.slot-2.ensures.is, c.binding.ensures.is) refl))
      ]
    ]
