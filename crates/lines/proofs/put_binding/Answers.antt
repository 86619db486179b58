-- `lines::put_binding` meets its contract: piece by piece.
-- Assumes nothing.
use Prim.Native.Nat.{ℕ}
use mathlib.Core.Path.{ap, ap₂}
use Rattle.lines.specs.Lines.{binding_line, name_text, choice, source_text}
use Rattle.text.specs.Bytes.{ascii, decimal}
use Rattle.text.specs.Laws.{puts_then, puts_line, puts_is}
use Rattle.lines.proofs.put_binding.Goals as goal

pub returns : goal.returns
unfolding binding_line
returns c =
    let file = c.args.file.now in
    let q1 = c.put_number-k.ensures in
    let q2 = c.put_bytes-k.ensures in
    let q3 = puts_is c.put_name-k.ensures (ap (name_text file) c.name.ensures.is) in
    let q4 = puts_is c.put_choice-k.ensures (ap (λ (x : ℕ). choice x (ascii " L ") (ascii " M ")) c.local.ensures.is) in
    let q5 = puts_is c.put_decimal-k.ensures (ap decimal c.slot.ensures.is) in
    let q6 = puts_is c.put_choice-k-2.ensures (ap (λ (x : ℕ). choice x (ascii " public") (ascii " private")) c.public.ensures.is) in
    let q7 = puts_is c.put_choice-k-3.ensures (ap (λ (x : ℕ). choice x (ascii " any") (ascii " once")) c.any.ensures.is) in
    let q8 = puts_is c.put_choice-k-4.ensures (ap (λ (x : ℕ). choice x (ascii " captured ") (ascii " free ")) c.captured.ensures.is) in
    let q9 = puts_is c.put_source-k.ensures (ap₂ source_text c.from_module.ensures.is c.source.ensures.is) in
    puts_line (puts_then q1 (puts_then q2 (puts_then q3 (puts_then q4 (puts_then q5 (puts_then q6 (puts_then q7 (puts_then q8 (puts_then q9 c.put_bytes.ensures)))))))))
