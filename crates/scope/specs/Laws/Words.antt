-- The numbers that the walks keep are the records of `lexical`'s rows.
use Rattle.std.specs.Prelude.{ℕ, ◌≡◌, refl, List, [], ◌∷◌, get_or}
use Rattle.std.proofs.Common.{ap}
use Rattle.std.proofs.Math.Option.{some}
use Rattle.bits.proofs.PackLaws.{unpack-pack}
use Rattle.lexical.specs.State.{Binding, Slot, Copy, St}
use Rattle.lexical.specs.Records.{binding_row, entry_row, slot_row, copy_row, captured}
use Rattle.answer.specs.Fields.{fields}
use Rattle.answer.specs.Records.{binding_widths, binding_of, entry_of, entry_from, pair_of, copy_of}
use Rattle.store.specs.Words.{row_word, binding_word, bind_word, slot_word, error_word, copy_word}
use Rattle.store.specs.Image.{Sound}
use Rattle.store.specs.Rel.{caps}
use Rattle.store.proofs.Laws.Made.{flags_narrow}
use Rattle.scope.specs.Nodes.{answer_of}

pub binding_word_lem : (st : St) (b : Binding) → bind_word (caps st) b ≡ binding_of (binding_row st.log b)
unfolding bind_word binding_word binding_row
binding_word_lem st b = refl

pub slot_word_lem : (r : Slot) → slot_word r ≡ pair_of (slot_row r)
unfolding slot_word
slot_word_lem r = refl

pub copy_word_lem : (c : Copy) → copy_word c ≡ copy_of (copy_row c)
unfolding copy_word
copy_word_lem c = refl

-- whatever the row
pub error_word_lem : (row : List ℕ) → error_word row ≡ pair_of row
unfolding error_word
error_word_lem [] = refl
error_word_lem (a ∷ []) = refl
error_word_lem (a ∷ b ∷ row) = refl

pub answer_word_lem : (row : List ℕ) → answer_of (some row) ≡ row_word row
unfolding answer_of
answer_word_lem row = refl

-- a module binding's entry, off its record
pub entry_word_lem : (st : St) {i : ℕ} {b : Binding} → Sound i b → entry_from (binding_of (binding_row st.log b)) ≡ entry_of (entry_row b)
unfolding binding_row entry_row
entry_word_lem st {i} {b} s =
    ap (λ (r : List ℕ). entry_of (get_or r 0 0 ∷ get_or r 3 0 ∷ get_or r 7 0 ∷ []))
    (unpack-pack (fields binding_widths (binding_row st.log b)) (flags_narrow s b.var.public b.var.any (captured b.id st.log)))
