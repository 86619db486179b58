-- The text of document 01's listing, of any bytes, any answer and any buffers; and a file's own.
use Rattle.std.specs.Prelude.{ℕ, suc, cond, List, [], ◌∷◌, eqb, get_or, take}
use Rattle.nodefile.specs.Layout.{node_count}
use Rattle.nodefile.specs.Listed.{scope_count}
use Rattle.answer.specs.declared.Answer.{Answer}
use Rattle.answer.specs.Buffers.{Buffers}
use Rattle.scope.specs.Answer.{Resolves}
use Rattle.scope.specs.Records.{fresh}
use Rattle.text.specs.Bytes.{joined, each}
use Rattle.text.specs.Window.{Window}
use Rattle.lines.specs.Lines.{rows, refusal_line, counts_line, binding_line, entry_line, scope_line, copy_line, ident_line, error_line}

-- the lines of each kind
abbrev pub binding_lines : List ℕ → List ℕ → List ℕ
binding_lines bs list = rows (binding_line bs) list

abbrev pub entry_lines : List ℕ → List ℕ → List ℕ
entry_lines bs list = rows (λ i r. entry_line bs r) list

abbrev pub scope_lines : List ℕ → List ℕ → List ℕ → List ℕ
scope_lines bs scopes slots = each (λ s. scope_line bs slots s (get_or scopes s 0)) (suc (scope_count bs))

abbrev pub copy_lines : List ℕ → List ℕ
copy_lines list = rows (λ i r. copy_line r) list

abbrev pub ident_lines : List ℕ → List ℕ → List ℕ
ident_lines bs nodes = each (λ i. ident_line bs i (get_or nodes i 0)) (node_count bs)

abbrev pub error_lines : List ℕ → List ℕ → List ℕ
error_lines bs list = rows (λ i r. error_line bs r) list

-- an accepted file: the counts, and a line for each record
abbrev pub accepted_text : List ℕ → Answer → Buffers → List ℕ
accepted_text bs a b = joined (
    counts_line a
    ∷ binding_lines bs (take a.bindings b.bindings)
    ∷ entry_lines bs (take a.module b.entries)
    ∷ scope_lines bs b.scopes (take a.slots b.slots)
    ∷ copy_lines (take a.copies b.copies)
    ∷ ident_lines bs b.nodes
    ∷ error_lines bs (take a.errors b.errors) ∷ [])

unfoldable pub text_of : List ℕ → Answer → Buffers → List ℕ
text_of bs a b = cond (eqb a.number 0) (accepted_text bs a b) (refusal_line a.number)

-- buffers of the full lengths
abbrev pub full : Buffers
full = fresh

-- out is the window from byte `from` on of the listing of what resolving answers
pub record Listed (bs : List ℕ) (from len : ℕ) (out : List ℕ) (n : ℕ) : Type 0 where
  pub answer : Answer
  pub held : Buffers
  pub resolves : Resolves bs full answer held
  pub window : Window (text_of bs answer held) from len out n
