-- The words of the theorems: what they say of a lookup, of an Ident, of a Name, of a scheme of copies. Read with Theorems.
use Rattle.std.specs.Prelude.{◌≡◌, List, [], ◌∷◌, ◌++◌, map, Bool, true, false, cond, ◌≤◌, ℕ, eqb, length}
use Rattle.std.proofs.Math.Option.{Option, none, some}
use Rattle.std.proofs.Math.ListN.{get_elem?}
use Rattle.lexical.specs.Lists.{first, map_o, or_else}
use Rattle.lexical.specs.Places.{up_from, All, In, Distinct}
use Rattle.lexical.specs.Tree.{nodes_in, params, empty, Forest, Way, plain, top, scopes_in, nil, node, way}
use Rattle.lexical.specs.Table.{param_names}
use Rattle.lexical.specs.Binders.{merge, Names, Target, Var, collect, unmarked, targets}
use Rattle.lexical.specs.Module.{outer_of, global, missing, module_vars, Outer, File, entry_var, module'}
use Rattle.lexical.specs.Meaning.{Around, around, declares, declared, scopes_of, Meaning, local, refused, outside, Site, meaning}
use Rattle.lexical.specs.Order.{Step, steps, idents}
use Rattle.lexical.specs.State.{Binding, Found, Event, Named, St}
use Rattle.lexical.specs.Third.{resolved}
use Rattle.lexical.specs.Follow.{follow}
use Rattle.lexical.specs.Records.{error_row, answer_row, outer_error, in_function}

-- What is asked of a file: condition 10 gives it.
-- the scope numbers of the Defs and Lambdas are distinct and not 0
pub record Scoped (F : File) : Type 0 where
  pub distinct : Distinct (scopes_in F.root)
  pub positive : In 0 (scopes_in F.root) → ⊥

-- nodes are numbered in node order, parent first, as document 01 has them
abbrev pub Preorder : Forest → Type 0
Preorder f = nodes_in f ≡ up_from 0 (length (nodes_in f))

-- T1, the Idents.
-- the steps of resolving a file, and its Idents in that order
abbrev pub steps_of : File → List Step
steps_of F = steps F.names F.root plain 0 [] true []

abbrev pub sites_of : File → List Site
sites_of F = idents (steps_of F)

-- an event without its slots
unfoldable pub seen : Found → Meaning
seen (Found.local b k) = local (b.owner, b.var.source)
seen (Found.refused b k) = refused (b.owner, b.var.source)
seen (Found.outside o) = outside o

-- what a lookup says and what an Ident is told: node, name, the functions around it innermost first, meaning
unfoldable pub view : Event → ℕ × ℕ × List ℕ × Meaning
view e = (e.node, e.name, e.scopes, seen e.found)

unfoldable pub told : (ℕ → Outer) → Site → ℕ × ℕ × List ℕ × Meaning
told out s = (s.node, s.name, scopes_of s.above, meaning out s)

-- n is no name of the module, no global
abbrev pub NotModule : File → ℕ → Type 0
NotModule F n = In n (map (λ (v : Var). v.name) (module_vars F)) → ⊥

abbrev pub NotGlobal : File → ℕ → Type 0
NotGlobal F n = In n F.globals → ⊥

-- the source of the variable of a name
unfoldable pub source : ℕ → List Var → Option ℕ
source n vs = map_o (λ (v : Var). v.source) (first (λ v. eqb v.name n) vs)

-- the module binding of number i: of name n, declared by an entry or else by the first Name of the module
pub record ModuleBinding (F : File) (n i : ℕ) : Type 0 where
  pub binding : Binding
  pub stands : get_elem? (resolved F).made i ≡ some binding
  pub called_so : binding.var.name ≡ n
  pub numbered : binding.id ≡ i
  pub of_module_lem : binding.local ≡ false
  pub sourced : or_else (source n (map entry_var F.entries)) (declares n (collect F.names unmarked F.root)) ≡ some binding.var.source

-- the answer of an Ident that means the local which Name d of scope o declares: its binding, and a slot from which the copies lead to the binding's own
pub record LocalAnswer (F : File) (s : Site) (o d : ℕ) (answer : List (List ℕ)) : Type 0 where
  pub binding : Binding
  pub slot : ℕ
  pub known : get_elem? (resolved F).made binding.id ≡ some binding
  pub owner : binding.owner ≡ o
  pub source : binding.var.source ≡ d
  pub named : binding.var.name ≡ s.name
  pub is_local : binding.local ≡ true
  pub home : follow (resolved F).copies (scopes_of s.above) slot ≡ (o, binding.slot)
  pub answered : answer ≡ (s.node ∷ 2 ∷ slot ∷ binding.id ∷ []) ∷ []

-- document 01: "An identifier's outcome is a local or module slot, a global, or one of the two errors"
unfoldable pub Outcome : File → Site → Meaning → List (List ℕ) → List (List ℕ) → Type 0
Outcome F s (local d) answer error = LocalAnswer F s d.0 d.1 answer × (error ≡ [])
Outcome F s (refused d) answer error = (answer ≡ []) × (error ≡ (s.node ∷ 2 ∷ []) ∷ [])
Outcome F s (outside (module' i)) answer error = (m : ModuleBinding F s.name i) × (answer ≡ (s.node ∷ 1 ∷ m.binding.slot ∷ i ∷ []) ∷ []) × (error ≡ [])
Outcome F s (outside (global g)) answer error = ((get_elem? F.globals g ≡ some s.name) × NotModule F s.name) × (answer ≡ (s.node ∷ 3 ∷ g ∷ 0 ∷ []) ∷ []) × (error ≡ [])
Outcome F s (outside missing) answer error = (NotModule F s.name × NotGlobal F s.name) × (answer ≡ []) × (error ≡ (s.node ∷ 1 ∷ []) ∷ [])

-- a lookup of the Ident, whose rows are what the meaning says
pub record Answers (F : File) (s : Site) (e : Event) : Type 0 where
  pub told_so : view e ≡ told (outer_of F) s
  pub so : Outcome F s (meaning (outer_of F) s) (answer_row (resolved F).made e.node e.found) (error_row e.node e.found)

-- the errors of some meanings, in order
unfoldable pub meaning_error : ℕ → Meaning → List (List ℕ)
meaning_error at (local d) = []
meaning_error at (refused d) = (at ∷ 2 ∷ []) ∷ []
meaning_error at (outside o) = outer_error at o

unfoldable pub told_errors : List (ℕ × ℕ × List ℕ × Meaning) → List (List ℕ)
told_errors [] = []
told_errors (t ∷ ts) = meaning_error t.0 t.3 ++ told_errors ts

-- the nodes around node i, innermost first
unfoldable pub ancestors : Names → ℕ → Forest → Way → ℕ → List Target → Bool → List Around → Option (List Around)
ancestors N i nil w s ts f up = none
ancestors N i (node at k v kids rest) w s ts f up =
    let here = around w s ts f (empty rest) ∷ up in
    cond (eqb at i) (some here) (or_else (ancestors N i kids (way k) v (targets N k kids) true here) (ancestors N i rest w s ts false up))

-- T1, the Names.
-- the module's Names: an entry of that name, or else the first Name that declares it
unfoldable pub module_names : File → List (ℕ × Option ℕ)
module_names F = map (λ (t : Target). (t.node, or_else (source t.name (map entry_var F.entries)) (declares t.name (collect F.names unmarked F.root)))) (collect F.names unmarked F.root)

-- a Name without its binding's number and slot
unfoldable pub name_view : Named → ℕ × Option ℕ
name_view x = (x.node, map_o (λ (b : Binding). b.var.source) x.of)

-- the Names' bindings are among those made
abbrev pub Titled : St → List Named → Type 0
Titled st xs = All (λ (x : Named). (b : Binding) → x.of ≡ some b → get_elem? st.made b.id ≡ some b) xs

-- every Name of a tree of the table's shape has its row, and a binding in it
pub record NameRow (F : File) (x : ℕ) : Type 0 where
  pub place : ℕ
  pub row : Named
  pub stands : get_elem? (resolved F).named place ≡ some row
  pub of_node : row.node ≡ x
  pub binding : Binding
  pub bound : row.of ≡ some binding

-- Captured.
-- an Ident that means the local which Name d of scope o declares, from another scope
pub record Across (o d : ℕ) (s : Site) : Type 0 where
  pub means : declared s.name s.above ≡ some (o, d)
  pub apart : o ≡ top (scopes_of s.above) → ⊥

-- an Ident that means module binding i, from inside a function
pub record Inside (out : ℕ → Outer) (i : ℕ) (s : Site) : Type 0 where
  pub means : meaning out s ≡ outside (module' i)
  pub within : in_function (scopes_of s.above) ≡ true

-- T2.
-- what is asked of the local that a lookup found, refused in a type or not; nothing of what is from outside
abbrev pub OfLocal : (Binding → ℕ → Type 0) → Found → Type 0
OfLocal P (Found.local b k) = P b k
OfLocal P (Found.refused b k) = P b k
OfLocal P (Found.outside o) = Unit {0}

-- T2's: the copies lead from slot k, scope by scope outward, to the binding's own slot; it stands at its number and has the Ident's name
pub record Homeward (st : St) (e : Event) (b : Binding) (k : ℕ) : Type 0 where
  pub home : follow st.copies e.scopes k ≡ (b.owner, b.slot)
  pub known : get_elem? st.made b.id ≡ some b
  pub named : b.var.name ≡ e.name
  pub is_local : b.local ≡ true

-- Parameters.
-- the first variables of a function's block are its Params', as many as `params` counts
pub record ParamsFirst (N : Names) (k : ℕ) (kids : Forest) : Type 0 where
  pub others : List ℕ
  pub in_front : map (λ (v : Var). v.name) (merge [] (targets N k kids)) ≡ param_names kids ++ others
  pub as_many : length (param_names kids) ≡ params kids

-- Condition 10.
-- every number from 1 to their count is there
abbrev pub Filled : List ℕ → Type 0
Filled xs = (n : ℕ) → 1 ≤ n → n ≤ length xs → In n xs

-- no two are alike, and each is from 1 to their count
pub record Once (xs : List ℕ) : Type 0 where
  pub apart : Distinct xs
  pub low : (n : ℕ) → In n xs → 1 ≤ n
  pub high : (n : ℕ) → In n xs → n ≤ length xs
