-- What a place of the working list t holds for code: one more than a number, or 0 for none.
use Rattle.std.specs.Prelude.{ℕ, zero, suc, Option, None, Some}
use Rattle.answer.specs.declared.ids.BindingId.{BindingId}

abbrev pub noted : ℕ → Option ℕ
noted zero = None
noted (suc n) = Some n

abbrev pub binding_noted : ℕ → Option BindingId
binding_noted zero = None
binding_noted (suc n) = Some (record { 0 = n })
