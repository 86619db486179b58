-- The answer of document 01 ("Answer buffers") as rows of numbers, read off a file's last state.
use Rattle.std.specs.Prelude.{List, [], ◌∷◌, ◌++◌, map, Bool, true, false, cond, not, ◌&&◌, ◌||◌, ℕ, suc, eqb}
use Rattle.std.proofs.Math.Option.{Option, none, some}
use Rattle.std.proofs.Math.ListN.{get_elem?}
use Rattle.lexical.specs.Lists.{first, count, place, map_o}
use Rattle.lexical.specs.Tree.{listed, when, is_name, turn, is_compr, is_fn, is_look, empty, way, pick, after, params, params_in, top}
use Rattle.lexical.specs.Binders.{visible, load_shown, targets, merge, collect, unmarked, target, head_target, gather, looping, new_var, again, note}
use Rattle.lexical.specs.Module.{Outer, module', global, missing, outer, globally, beyond, File, entry_var, module_vars, outer_of}
use Rattle.lexical.specs.Meaning.{type_at}
use Rattle.lexical.specs.State.{Binding, Slot, Copy, Found, local, refused, outside, Event, Named}
use Rattle.lexical.specs.Block.{name_of, naming, block, in_scope, fresh_in, slot_for, new, add, bind, called}
use Rattle.lexical.specs.First.{module_binding, entry_slot, next_slot, module_bindings, start}
use Rattle.lexical.specs.Second.{declare_fn, declare, rows, declare_here, row_names, second}
use Rattle.lexical.specs.Third.{walk, holds, hand_in, copy_in, bring_to, bring, logged, look_found, inner, enter, typed, below, look_up, order, outermost, resolved}

-- captured: looked up from another scope; a module name, from inside a function
unfoldable pub in_function : List ℕ → Bool
in_function [] = false
in_function (s ∷ []) = false
in_function (s ∷ (t ∷ ss)) = true

unfoldable pub captures_outer : ℕ → List ℕ → Outer → Bool
captures_outer i ss (module' j) = eqb i j && in_function ss
captures_outer i ss (global g) = false
captures_outer i ss missing = false

unfoldable pub captures_found : ℕ → List ℕ → Found → Bool
captures_found i ss (local b k) = eqb i b.id && not (eqb b.owner (top ss))
captures_found i ss (refused b k) = eqb i b.id && not (eqb b.owner (top ss))
captures_found i ss (outside o) = captures_outer i ss o

unfoldable pub captured : ℕ → List Event → Bool
captured i [] = false
captured i (e ∷ es) = captures_found i e.scopes e.found || captured i es

-- the records, as rows of numbers
unfoldable pub bit : Bool → ℕ
bit true = 1
bit false = 0

-- a binding: name, source, from-module, public, any, captured, local, slot
unfoldable pub binding_row : List Event → Binding → List ℕ
binding_row es b = b.var.name ∷ b.var.source ∷ bit b.var.entry ∷ bit b.var.public ∷ bit b.var.any ∷ bit (captured b.id es) ∷ bit b.local ∷ b.slot ∷ []

-- a module entry afterwards: its name, its visibility, its slot
unfoldable pub entry_row : Binding → List ℕ
entry_row b = b.var.name ∷ bit b.var.public ∷ b.slot ∷ []

-- an Ident's answer: node, class, slot or global, binding; none where there is an error
unfoldable pub slot_of : Option Binding → ℕ
slot_of none = 0
slot_of (some b) = b.slot

unfoldable pub outer_row : List Binding → ℕ → Outer → List (List ℕ)
outer_row bs at (module' i) = (at ∷ 1 ∷ slot_of (get_elem? bs i) ∷ i ∷ []) ∷ []
outer_row bs at (global g) = (at ∷ 3 ∷ g ∷ 0 ∷ []) ∷ []
outer_row bs at missing = []

-- a Name's: its binding's
unfoldable pub name_row : ℕ → Option Binding → List ℕ
name_row at none = at ∷ 0 ∷ 0 ∷ 0 ∷ []
name_row at (some b) = at ∷ cond b.local 2 1 ∷ b.slot ∷ b.id ∷ []

unfoldable pub answer_row : List Binding → ℕ → Found → List (List ℕ)
answer_row bs at (local b k) = (at ∷ 2 ∷ k ∷ b.id ∷ []) ∷ []
answer_row bs at (refused b k) = []
answer_row bs at (outside o) = outer_row bs at o

-- an error: node, 1 not found, 2 local in a type
unfoldable pub outer_error : ℕ → Outer → List (List ℕ)
outer_error at (module' i) = []
outer_error at (global g) = []
outer_error at missing = (at ∷ 1 ∷ []) ∷ []

unfoldable pub error_row : ℕ → Found → List (List ℕ)
error_row at (local b k) = []
error_row at (refused b k) = (at ∷ 2 ∷ []) ∷ []
error_row at (outside o) = outer_error at o

unfoldable pub answers : List Binding → List Event → List (List ℕ)
answers bs [] = []
answers bs (e ∷ es) = answer_row bs e.node e.found ++ answers bs es

unfoldable pub errors : List Event → List (List ℕ)
errors [] = []
errors (e ∷ es) = error_row e.node e.found ++ errors es

-- a scope: parameter variables, slots; the rows from scope number s on, one for each of xs
unfoldable pub params_of : Option (ℕ × ℕ) → ℕ
params_of none = 0
params_of (some p) = p.1

unfoldable pub scope_rows : ℕ → List (ℕ × ℕ) → List (ℕ × ℕ) → List Slot → List (List ℕ)
scope_rows s [] ps rs = []
scope_rows s (x ∷ xs) ps rs = (params_of (first (λ p. eqb p.0 s) ps) ∷ fresh_in s rs ∷ []) ∷ scope_rows (suc s) xs ps rs

-- a slot: scope, name; a copy: scope, parent, child
abbrev pub slot_row : Slot → List ℕ
slot_row r = r.scope ∷ r.name ∷ []

abbrev pub copy_row : Copy → List ℕ
copy_row c = c.scope ∷ c.parent ∷ c.child ∷ []

abbrev pub title_row : Named → List ℕ
title_row x = name_row x.node x.of

-- bindings, module entries afterwards, scopes 0 to S, slots and copies in order of making; Names, Idents and errors in the order of the walks
pub record Records : Type 0 where
  pub bindings : List (List ℕ)
  pub entries : List (List ℕ)
  pub scopes : List (List ℕ)
  pub slots : List (List ℕ)
  pub copies : List (List ℕ)
  pub names : List (List ℕ)
  pub answers : List (List ℕ)
  pub errors : List (List ℕ)

unfoldable pub records : File → Records
unfolding first count place map_o empty way is_look is_fn is_compr turn pick is_name when listed load_shown visible target head_target gather collect unmarked looping after targets new_var again note merge in_scope fresh_in slot_for new add bind name_of naming block declare_fn declare_here declare row_names rows top called holds hand_in copy_in bring_to bring logged globally beyond outer look_found inner enter typed type_at below look_up order walk entry_var module_vars next_slot entry_slot module_binding module_bindings start outer_of second outermost resolved in_function captures_outer captures_found captured bit binding_row entry_row slot_of outer_row name_row answer_row outer_error error_row answers errors params params_in params_of scope_rows
records F = let st = resolved F in record {
  bindings = map (binding_row st.log) st.made;
  entries = map entry_row (start F).made;
  scopes = scope_rows 0 ((0, 0) ∷ params_in F.root) (params_in F.root) st.slots;
  slots = map slot_row st.slots;
  copies = map copy_row st.copies;
  names = map title_row st.named;
  answers = answers st.made st.log;
  errors = errors st.log;
}
