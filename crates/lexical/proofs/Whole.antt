-- The theorems' second part, about every file F with `Scoped F`: what a reader of T1, T2 and T3 could still ask. Their words are in Blocks, Filled and Labels. Statements first: each proof cites the file that has it.
--     Names and bindings    T1-name, T1-local, T1-one, T1-own, scope-told, module-scope
--     slots and copies      own-unfilled, own-stops, filled-once, slots_apart, stops, T2-means
--     schemes of copies     T3-tree, T3-met
use Rattle.std.specs.Prelude.{◌≡◌, refl, List, [], ◌∷◌, map, true, false, ℕ, ◌≤◌, length}
use Rattle.std.proofs.Math.Option.{some}
use Rattle.std.proofs.Math.ListN.{get_elem?}
use Rattle.lexical.specs.Places.{Distinct}
use Rattle.lexical.specs.Tree.{nodes_in, scopes_in, params_in}
use Rattle.lexical.specs.Table.{Tabled}
use Rattle.lexical.specs.Module.{Entry, File}
use Rattle.lexical.specs.Meaning.{Around, Site, declared, scopes_of}
use Rattle.lexical.specs.State.{Binding, Copy}
use Rattle.lexical.specs.Block.{fresh}
use Rattle.lexical.specs.Third.{resolved}
use Rattle.lexical.specs.Follow.{follow}
use Rattle.lexical.specs.Records.{records}
use Rattle.lexical.specs.Claims.{Once, Scoped, sites_of}
use Rattle.lexical.specs.Blocks.{named_in, NameTold, ModuleTold}
use Rattle.lexical.specs.Filled.{Stops, SlotFor}
use Rattle.lexical.specs.Schemes.{copies_into, pairs}
use Rattle.lexical.specs.Labels.{Labelled, ServesTree, labelled}
use Rattle.lexical.proofs.Laws.Params as params
use Rattle.lexical.proofs.Theory.Captured.{source_unique}
use Rattle.lexical.proofs.Theory.Filled as slots
use Rattle.lexical.proofs.Theory.Labels.{labelled_least, labelled_serves}
use Rattle.lexical.proofs.Theory.Named.{every_name, every_local, every_module}

-- Names and bindings, in a tree of document 01's table in which no two nodes have one number.
module _ (F : File) (ok : Scoped F) (t : Tabled F.root) (d : Distinct (nodes_in F.root)) where
  -- T1, for every Name: the nodes around it say which block it belongs to; its binding is what that block makes of its name, and its record has the block's class (1 the module's, 2 local), the binding's slot and number.
  pub T1_name : (j x n : ℕ) → get_elem? (named_in F.root) j ≡ some (x, n) → NameTold F x n
  T1_name = every_name F ok t d

  -- Every local is the binding of the Name that declares it, so all that is said of a Name's binding is said of it;
  pub T1_local : (i : ℕ) (b : Binding) → get_elem? (resolved F).made i ≡ some b → b.local ≡ true → (t : NameTold F b.var.source b.var.name) × (t.binding ≡ b)
  T1_local = every_local F ok t d

-- and no other local has that Name.
pub T1_one : (F : File) → Distinct (nodes_in F.root) → (i j : ℕ) (b c : Binding) → get_elem? (resolved F).made i ≡ some b → get_elem? (resolved F).made j ≡ some c → b.local ≡ true → c.local ≡ true → b.var.source ≡ c.var.source → i ≡ j
T1_one = source_unique

-- Every module binding, where no two entries have one name (condition 6): what the module's block makes of its name; an entry keeps its slot, a new one gets the next.
pub T1_own : (F : File) → Distinct (map (λ (e : Entry). e.name) F.entries) → (i : ℕ) (b : Binding) → get_elem? (resolved F).made i ≡ some b → b.local ≡ false → ModuleTold F i b
T1_own = every_module

-- The scopes' records: each function's at its scope number, with as many parameter variables as it has named Params; the module's at 0, with none.
pub scope_told : (F : File) → Once (scopes_in F.root) → (j : ℕ) (p : ℕ × ℕ) → get_elem? (params_in F.root) j ≡ some p → get_elem? (records F).scopes p.0 ≡ some (p.1 ∷ fresh p.0 (resolved F) ∷ [])
scope_told = params.scope_told

pub module_scope : (F : File) → Scoped F → get_elem? (records F).scopes 0 ≡ some (0 ∷ fresh 0 (resolved F) ∷ [])
module_scope = params.module_scope

module _ (F : File) (ok : Scoped F) where
  -- T2, for bindings: no copy fills a binding's own slot,
  pub own_unfilled : (i : ℕ) (b : Binding) → get_elem? (resolved F).made i ≡ some b → b.local ≡ true → (j : ℕ) (c : Copy) → get_elem? (resolved F).copies j ≡ some c → c.scope ≡ b.owner → c.child ≡ b.slot → ⊥
  own_unfilled = slots.own_unfilled F ok

  -- so following from it ends at once, at that slot, in its owner's scope, whatever is around.
  pub own_stops : (i : ℕ) (b : Binding) → get_elem? (resolved F).made i ≡ some b → b.local ≡ true → (ss : List ℕ) → follow (resolved F).copies (b.owner ∷ ss) b.slot ≡ (b.owner, b.slot)
  own_stops = slots.own_stops F ok

  -- No slot of a scope is filled by two records; no two locals have one slot.
  pub filled_once : (i j : ℕ) (c d : Copy) → get_elem? (resolved F).copies i ≡ some c → get_elem? (resolved F).copies j ≡ some d → c.scope ≡ d.scope → c.child ≡ d.child → i ≡ j
  filled_once = slots.filled_once F ok

  pub slots_apart : (i j : ℕ) (b c : Binding) → get_elem? (resolved F).made i ≡ some b → get_elem? (resolved F).made j ≡ some c → b.local ≡ true → c.local ≡ true → b.owner ≡ c.owner → b.slot ≡ c.slot → i ≡ j
  slots_apart = slots.slots_apart F ok

  -- Following through the scopes around a place, from any slot, never runs out of scopes: it stops in one of them, at a slot that no copy fills.
  pub stops : (up : List Around) (k : ℕ) → Stops (resolved F).copies (scopes_of up) k
  stops = slots.stops F ok

  -- T2, by meaning: for every Ident that means a local, refused in a type or not, there is a slot of its scope from which the copies lead to that local's slot.
  pub T2_means : (j : ℕ) (s : Site) → get_elem? (sites_of F) j ≡ some s → (o d : ℕ) → declared s.name s.above ≡ some (o, d) → SlotFor F s o d
  T2_means = slots.slot_for_lem F ok

  -- T3, by the tree alone: any scheme of copies that has every local at hand where an Ident means it has in each scope at least as many copies;
  pub T3_tree : Distinct (nodes_in F.root) → (S : Labelled) → ServesTree F S → (t : ℕ) → copies_into t (resolved F).copies ≤ length (S.copies t)
  T3_tree d = labelled_least F ok d

  -- and the copies that are made are such a scheme, pair for pair.
  pub T3_met : (S : Labelled) × ServesTree F S × ((s : ℕ) → S.copies s ≡ pairs s (resolved F).copies)
  unfolding labelled
  T3_met = (labelled (resolved F), labelled_serves F ok, λ s. refl)
