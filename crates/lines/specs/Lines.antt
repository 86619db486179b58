-- The lines of document 01's listing ("One listing in full"): each as its pieces, in order.
-- A record's fields are read by their names (`answer`'s Records).
use Rattle.std.specs.Prelude.{ℕ, cond, List, [], ◌∷◌, eqb, length, get_or}
use Rattle.nodefile.specs.Layout.{nodes_of, names_of, pool_of}
use Rattle.nodefile.specs.Lists.{spelled}
use Rattle.nodefile.specs.Listed.{kind_at, value_at}
use Rattle.answer.specs.declared.Answer.{Answer}
use Rattle.answer.specs.Records as answer
use Rattle.text.specs.Bytes.{ascii, decimal, joined, each}

-- a name, as it is printed: its bytes
unfoldable pub name_text : List ℕ → ℕ → List ℕ
name_text bs k = spelled (names_of bs) (pool_of bs) k

-- one of two words, by a bit
abbrev pub choice : ℕ → List ℕ → List ℕ → List ℕ
choice bit one zero = cond (eqb bit 1) one zero

-- a text for each element of a list, in order; it may depend on the place
abbrev pub rows : (ℕ → ℕ → List ℕ) → List ℕ → List ℕ
rows line list = each (λ i. line i (get_or list i 0)) (length list)

-- a refusal's number
unfoldable pub refusal_line : ℕ → List ℕ
refusal_line number = joined (ascii "answer " ∷ decimal number ∷ ascii "\n" ∷ [])

-- number 0, and the counts
unfoldable pub counts_line : Answer → List ℕ
counts_line a = joined (
    ascii "answer 0 bindings " ∷ decimal a.bindings
    ∷ ascii " module " ∷ decimal a.module
    ∷ ascii " slots " ∷ decimal a.slots
    ∷ ascii " copies " ∷ decimal a.copies
    ∷ ascii " errors " ∷ decimal a.errors
    ∷ ascii "\n" ∷ [])

-- a binding's source node; `-` if it is from the module
unfoldable pub source_text : ℕ → ℕ → List ℕ
source_text from_module node = cond (eqb from_module 1) (ascii "-") (decimal node)

-- B: binding, name, M or L, slot, public/private, once/any, captured/free, source node
unfoldable pub binding_line : List ℕ → ℕ → ℕ → List ℕ
binding_line bs i r = joined (
    ascii "B " ∷ decimal i
    ∷ ascii " " ∷ name_text bs (answer.binding_name r)
    ∷ choice (answer.binding_local r) (ascii " L ") (ascii " M ") ∷ decimal (answer.binding_slot r)
    ∷ choice (answer.binding_public r) (ascii " public") (ascii " private")
    ∷ choice (answer.binding_any r) (ascii " any") (ascii " once")
    ∷ choice (answer.binding_captured r) (ascii " captured ") (ascii " free ")
    ∷ source_text (answer.binding_entry r) (answer.binding_source r)
    ∷ ascii "\n" ∷ [])

-- M: slot, name, visibility
unfoldable pub entry_line : List ℕ → ℕ → List ℕ
entry_line bs r = joined (
    ascii "M " ∷ decimal (answer.entry_slot r)
    ∷ ascii " " ∷ name_text bs (answer.entry_name r)
    ∷ choice (answer.entry_public r) (ascii " public\n") (ascii " private\n") ∷ [])

-- a slot's name, if the slot is the scope's
unfoldable pub slot_name : List ℕ → ℕ → ℕ → List ℕ
slot_name bs s r =
    cond (eqb (answer.slot_scope r) s) (joined (ascii " " ∷ name_text bs (answer.slot_name r) ∷ [])) []

abbrev pub scope_names : List ℕ → List ℕ → ℕ → List ℕ
scope_names bs slots s = rows (λ i r. slot_name bs s r) slots

-- S: scope, parameter variables, slot names
unfoldable pub scope_line : List ℕ → List ℕ → ℕ → ℕ → List ℕ
scope_line bs slots s r = joined (
    ascii "S " ∷ decimal s
    ∷ ascii " " ∷ decimal (answer.scope_params r)
    ∷ ascii ":" ∷ scope_names bs slots s
    ∷ ascii "\n" ∷ [])

-- C: scope, parent, child
unfoldable pub copy_line : ℕ → List ℕ
copy_line r = joined (
    ascii "C " ∷ decimal (answer.copy_scope r)
    ∷ ascii " " ∷ decimal (answer.copy_parent r)
    ∷ ascii " " ∷ decimal (answer.copy_child r)
    ∷ ascii "\n" ∷ [])

-- M, L or G, slot or global, binding (`-` for a global)
unfoldable pub resolution_text : ℕ → List ℕ
resolution_text r =
    cond (eqb (answer.node_class r) 3)
    (joined (ascii " G " ∷ decimal (answer.node_slot r) ∷ ascii " -\n" ∷ []))
    (joined (
    choice (answer.node_class r) (ascii " M ") (ascii " L ") ∷ decimal (answer.node_slot r)
    ∷ ascii " " ∷ decimal (answer.node_binding r)
    ∷ ascii "\n" ∷ []))

-- I: node, outcome; a line for an Ident whose record is filled, and none for any other node
unfoldable pub ident_line : List ℕ → ℕ → ℕ → List ℕ
ident_line bs i r =
    cond (eqb (kind_at (nodes_of bs) i) 11)
    (cond (eqb (answer.node_class r) 0) [] (joined (ascii "I " ∷ decimal i ∷ resolution_text r ∷ [])))
    []

-- E: node, code, name
unfoldable pub error_line : List ℕ → ℕ → List ℕ
error_line bs r = joined (
    ascii "E " ∷ decimal (answer.error_node r)
    ∷ ascii " " ∷ decimal (answer.error_code r)
    ∷ ascii " " ∷ name_text bs (value_at (nodes_of bs) (answer.error_node r))
    ∷ ascii "\n" ∷ [])
