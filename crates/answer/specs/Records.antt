-- The widths of document 01's records, and their fields by name. Nothing else knows them.
use Rattle.std.specs.Prelude.{ℕ, List, [], ◌∷◌}
use Rattle.answer.specs.Fields.{packed, part}

-- ---- a binding: name, source, from-module, public, any, captured, local, slot, zero

abbrev pub binding_widths : List ℕ
binding_widths = 16 ∷ 16 ∷ 1 ∷ 1 ∷ 1 ∷ 1 ∷ 1 ∷ 15 ∷ 12 ∷ []

abbrev pub binding_of : List ℕ → ℕ
binding_of = packed binding_widths

abbrev pub binding_name : ℕ → ℕ
binding_name = part binding_widths 0

abbrev pub binding_source : ℕ → ℕ
binding_source = part binding_widths 1

abbrev pub binding_entry : ℕ → ℕ
binding_entry = part binding_widths 2

abbrev pub binding_public : ℕ → ℕ
binding_public = part binding_widths 3

abbrev pub binding_any : ℕ → ℕ
binding_any = part binding_widths 4

abbrev pub binding_captured : ℕ → ℕ
binding_captured = part binding_widths 5

abbrev pub binding_local : ℕ → ℕ
binding_local = part binding_widths 6

abbrev pub binding_slot : ℕ → ℕ
binding_slot = part binding_widths 7

-- ---- a module entry: name, public, slot

abbrev pub entry_widths : List ℕ
entry_widths = 16 ∷ 1 ∷ 15 ∷ []

abbrev pub entry_of : List ℕ → ℕ
entry_of = packed entry_widths

abbrev pub entry_name : ℕ → ℕ
entry_name = part entry_widths 0

abbrev pub entry_public : ℕ → ℕ
entry_public = part entry_widths 1

abbrev pub entry_slot : ℕ → ℕ
entry_slot = part entry_widths 2

-- the module entry of a binding, off the binding's record
abbrev pub entry_from : ℕ → ℕ
entry_from r = entry_of (binding_name r ∷ binding_public r ∷ binding_slot r ∷ [])

-- ---- two fields of 16 bits: a scope's parameter variables and slots; a slot's scope and name; an error's node and code

abbrev pub pair_widths : List ℕ
pair_widths = 16 ∷ 16 ∷ []

abbrev pub pair_of : List ℕ → ℕ
pair_of = packed pair_widths

abbrev pub scope_params : ℕ → ℕ
scope_params = part pair_widths 0

abbrev pub scope_slots : ℕ → ℕ
scope_slots = part pair_widths 1

abbrev pub slot_scope : ℕ → ℕ
slot_scope = part pair_widths 0

abbrev pub slot_name : ℕ → ℕ
slot_name = part pair_widths 1

abbrev pub error_node : ℕ → ℕ
error_node = part pair_widths 0

abbrev pub error_code : ℕ → ℕ
error_code = part pair_widths 1

-- ---- a copy: scope, parent slot, child slot

abbrev pub copy_widths : List ℕ
copy_widths = 8 ∷ 12 ∷ 12 ∷ []

abbrev pub copy_of : List ℕ → ℕ
copy_of = packed copy_widths

abbrev pub copy_scope : ℕ → ℕ
copy_scope = part copy_widths 0

abbrev pub copy_parent : ℕ → ℕ
copy_parent = part copy_widths 1

abbrev pub copy_child : ℕ → ℕ
copy_child = part copy_widths 2

-- ---- a node: class (0 nothing, 1 module, 2 local, 3 global), slot or global, binding

abbrev pub node_widths : List ℕ
node_widths = 2 ∷ 15 ∷ 15 ∷ []

abbrev pub node_of : List ℕ → ℕ
node_of = packed node_widths

abbrev pub node_class : ℕ → ℕ
node_class = part node_widths 0

abbrev pub node_slot : ℕ → ℕ
node_slot = part node_widths 1

abbrev pub node_binding : ℕ → ℕ
node_binding = part node_widths 2
