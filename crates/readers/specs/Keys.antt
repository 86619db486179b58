-- The key of a node among the readers (request P1): "the Ident nodes resolved to it". An Ident's class says what it is resolved to (document 01, "Answer buffers"): 1 a module's binding, 2 a local one, 3 a global, 0 nothing.
use Rattle.std.specs.Prelude.{ℕ, ◌+◌, Bool, true, false, cond, List, eqb, get_or}
use Rattle.base.specs.UpTo.{up_to}
use Rattle.nodefile.specs.Layout.{node_count, nodes_of}
use Rattle.nodefile.specs.Listed.{kind_at}
use Rattle.answer.specs.Records.{node_class, node_slot, node_binding}

abbrev pub is_ident : ℕ → Bool
is_ident kind = eqb kind 11

-- a class that names a binding: module or local
abbrev pub of_binding : ℕ → Bool
of_binding class = cond (eqb class 1) true (eqb class 2)

abbrev pub of_global : ℕ → Bool
of_global class = eqb class 3

-- off the record of a node: 1 + its binding, where its class is module or local, else 0
abbrev pub binding_key : ℕ → ℕ
binding_key r = cond (of_binding (node_class r)) (node_binding r + 1) 0

-- 1 + its global, where its class is global, else 0
abbrev pub global_key : ℕ → ℕ
global_key r = cond (of_global (node_class r)) (node_slot r + 1) 0

-- the key of an Ident among the globals, or among the bindings; 0 for every node of another kind
abbrev pub key_of : Bool → ℕ → ℕ → ℕ
key_of globals kind r = cond (is_ident kind) (cond globals (global_key r) (binding_key r)) 0

-- of node i, by the node list and the nodes' records
abbrev pub key_at : Bool → List ℕ → List ℕ → ℕ → ℕ
key_at globals list nodes i = key_of globals (kind_at list i) (get_or nodes i 0)

-- of all nodes of a file
abbrev pub keys_of : Bool → List ℕ → List ℕ → List ℕ
keys_of globals bs nodes = up_to (key_at globals (nodes_of bs) nodes) (node_count bs)

abbrev pub binding_keys : List ℕ → List ℕ → List ℕ
binding_keys = keys_of false

abbrev pub global_keys : List ℕ → List ℕ → List ℕ
global_keys = keys_of true
