-- Walk one: the module's bindings (document 01, "First, the module."). Each variable of the module list gets a number, its place there, and a module slot.
use Rattle.std.specs.Prelude.{List, [], ◌∷◌, map, false, ℕ, length, drop}
use Rattle.lexical.specs.Binders.{Var, collect, unmarked}
use Rattle.lexical.specs.Module.{Entry, File, module_vars}
use Rattle.lexical.specs.State.{Binding, St}
use Rattle.lexical.specs.Block.{name_of}

-- the slot of a new entry, by the slots that the list has so far: their number
unfoldable pub next_slot : List ℕ → ℕ
next_slot taken = length taken

-- an old entry keeps its slot, a new one takes the next
unfoldable pub entry_slot : List Entry → List ℕ → ℕ
entry_slot [] taken = next_slot taken
entry_slot (e ∷ es) taken = e.slot

unfoldable pub module_binding : ℕ → Var → ℕ → Binding
module_binding i v k = record { id = i; var = v; local = false; owner = 0; slot = k }

-- the bindings of the variables vs, of which the first are the entries es; `taken` are the slots before them, last first
unfoldable pub module_bindings : List ℕ → List Entry → List Var → List Binding
module_bindings taken es [] = []
module_bindings taken es (v ∷ vs) = let k = entry_slot es taken in module_binding (length taken) v k ∷ module_bindings (k ∷ taken) (drop 1 es) vs

-- the state after walk one: the bindings, and each Name of the module with its binding
unfoldable pub start : File → St
start F = let bs = module_bindings [] F.entries (module_vars F) in record {
  made = bs;
  named = map (name_of bs) (collect F.names unmarked F.root);
  slots = [];
  copies = [];
  log = [];
}
