-- A block's variables become bindings: each the next number, and a fresh slot of the scope it belongs to (document 01: "from 0 upwards", "Slots are never used again").
use Rattle.std.specs.Prelude.{List, [], ◌∷◌, ◌++◌, map, Bool, true, ℕ, eqb, length}
use Rattle.lexical.specs.Lists.{first, count}
use Rattle.lexical.specs.Tree.{node}
use Rattle.lexical.specs.Binders.{Target, Var, merge}
use Rattle.lexical.specs.State.{Binding, Slot, local, Named, St}

-- a scope's next slot is the number of those it has
unfoldable pub in_scope : ℕ → Slot → Bool
in_scope s r = eqb r.scope s

unfoldable pub fresh_in : ℕ → List Slot → ℕ
fresh_in s rs = count (in_scope s) rs

abbrev pub fresh : ℕ → St → ℕ
fresh s st = fresh_in s st.slots

unfoldable pub slot_for : ℕ → ℕ → Binding → Slot
slot_for s k b = record { scope = s; num = k; name = b.var.name; id = b.id }

-- a fresh binding, and the state with it and its slot
unfoldable pub new : ℕ → Var → St → Binding
new s v st = record { id = length st.made; var = v; local = true; owner = s; slot = fresh s st }

unfoldable pub add : ℕ → Binding → St → St
add s b st = record { made = st.made ++ (b ∷ []); named = st.named; slots = st.slots ++ (slot_for s b.slot b ∷ []); copies = st.copies; log = st.log }

unfoldable pub bind : ℕ → List Var → St → List Binding × St
bind s [] st = ([], st)
bind s (v ∷ vs) st = let b = new s v st in let r = bind s vs (add s b st) in (b ∷ r.0, r.1)

-- a Name's binding is the one of its name
unfoldable pub called : ℕ → Binding → Bool
called n b = eqb b.var.name n

unfoldable pub name_of : List Binding → Target → Named
name_of bs t = record { node = t.node; of = first (called t.name) bs }

unfoldable pub naming : List Target → List Binding → St → St
naming ts bs st = record { made = st.made; named = st.named ++ map (name_of bs) ts; slots = st.slots; copies = st.copies; log = st.log }

-- a block: its variables get bindings and slots, its Names their bindings
unfoldable pub block : ℕ → List Target → St → List Binding × St
block s ts st = let r = bind s (merge [] ts) st in (r.0, naming ts r.0 r.1)
