-- The rows of `lexical` as records of document 01's answer buffers.
use Rattle.std.specs.Prelude.{ℕ, ◌+◌, Bool, true, false, List, [], ◌∷◌, get_or}
use Rattle.lexical.specs.State.{Binding, Slot, Copy}
use Rattle.lexical.specs.Records.{bit}
use Rattle.answer.specs.Fields.{changed}
use Rattle.answer.specs.Records.{binding_widths, binding_of, pair_widths, pair_of, scope_slots, copy_of, node_of}

-- a row for a node: its number, class, slot, binding
abbrev pub row_node : List ℕ → ℕ
row_node row = get_or row 0 0

abbrev pub answer_word : ℕ → ℕ → ℕ → ℕ
answer_word class slot id = node_of (class ∷ slot ∷ id ∷ [])

abbrev pub row_word : List ℕ → ℕ
row_word row = answer_word (get_or row 1 0) (get_or row 2 0) (get_or row 3 0)

unfoldable pub binding_word : ℕ → ℕ → ℕ → ℕ → ℕ → ℕ → ℕ → ℕ → ℕ
binding_word name source entry public any captured local slot = binding_of (name ∷ source ∷ entry ∷ public ∷ any ∷ captured ∷ local ∷ slot ∷ [])

unfoldable pub bind_word : (ℕ → Bool) → Binding → ℕ
bind_word cap b = binding_word b.var.name b.var.source (bit b.var.entry) (bit b.var.public) (bit b.var.any) (bit (cap b.id)) (bit b.local) b.slot

-- a binding's record, captured
abbrev pub captured_word : ℕ → ℕ
captured_word r = changed binding_widths 5 1 r

-- the record of a name that is bound again
abbrev pub again_word : Bool → ℕ → ℕ
again_word true r = changed binding_widths 3 1 (changed binding_widths 4 1 r)
again_word false r = changed binding_widths 4 1 r

abbrev pub pair_word : ℕ → ℕ → ℕ
pair_word a b = pair_of (a ∷ b ∷ [])

-- a scope's record with another number of parameter variables, and with one slot more
abbrev pub params_word : ℕ → ℕ → ℕ
params_word n r = changed pair_widths 0 n r

abbrev pub more_word : ℕ → ℕ
more_word r = changed pair_widths 1 (scope_slots r + 1) r

unfoldable pub slot_word : Slot → ℕ
slot_word r = pair_word r.scope r.name

unfoldable pub error_word : List ℕ → ℕ
error_word row = pair_word (get_or row 0 0) (get_or row 1 0)

abbrev pub copied_word : ℕ → ℕ → ℕ → ℕ
copied_word scope parent child = copy_of (scope ∷ parent ∷ child ∷ [])

unfoldable pub copy_word : Copy → ℕ
copy_word c = copied_word c.scope c.parent c.child
