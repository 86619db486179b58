-- Every Name and every binding: the theorems, from the rows that the walks make.
use Rattle.std.specs.Prelude.{◌≡◌, ◌⊎◌, true, false, cond, length}
use Rattle.std.proofs.Math.Path.{refl, ap}
use Rattle.std.proofs.Common.{sym, ◌∙◌, subst, inl, inr, arith}
use mathlib.Core.List.{List, [], ◌∷◌, map}
use Rattle.std.proofs.Math.Option.{none, some}
use Prim.Native.Nat.{ℕ, zero, suc, ◌+◌, ◌≤◌}
use Rattle.std.proofs.Math.ListN.{get_elem?}
use Rattle.lexical.specs.Lists.{first, map_o, either, eqb_self, none-some}
use Rattle.lexical.specs.Places.{In, at_in, at_either, map_at, Distinct}
use Rattle.lexical.specs.Sums.{total, one}
use Rattle.lexical.specs.Tree.{Forest, is_name, pick, when, names_in, nodes_in}
use Rattle.lexical.specs.Table.{Tabled}
use Rattle.lexical.specs.Binders.{Var}
use Rattle.lexical.specs.Module.{Entry, File, module_vars}
use Rattle.lexical.specs.State.{Binding, Named}
use Rattle.lexical.specs.Block.{called}
use Rattle.lexical.specs.First.{next_slot, entry_slot, module_binding, module_bindings, start}
use Rattle.lexical.specs.Third.{resolved}
use Rattle.lexical.specs.Records.{name_row}
use Rattle.lexical.specs.Claims.{Scoped, NameRow}
use Rattle.lexical.specs.Blocks.{named_in, Block, of_module, of_scope, block_of, class_of, entry_of, module_targets, Makes, BoundIn, NameTold, slots_before, ModuleTold}
use Rattle.lexical.proofs.Laws.Numbers.{Begun, made_start}
use Rattle.lexical.proofs.Laws.Rows.{named-every}
use Rattle.lexical.proofs.Theory.Apart.{start_distinct}
use Rattle.lexical.proofs.Theory.Captured.{one_once, total-one}
use Rattle.lexical.proofs.Theory.Last.{last}
use Rattle.lexical.proofs.Theory.Listed.{listed-apart, listed-map}
use Rattle.lexical.proofs.Theory.Makes.{makes_module}
use Rattle.lexical.proofs.Theory.Tabled.{tabled_tidy}
use Rattle.lexical.proofs.Theory.Titles.{RowTold, titled_so, module_var, first_own}

-- a Name stands once in the tree
named_node : (f : Forest) (j x n : ℕ) → get_elem? (named_in f) j ≡ some (x, n) → In x (names_in f)
named_node f j x n e =
    let z : map (λ (p : ℕ × ℕ). p.0) (named_in f) ≡ names_in f = (unfold named_in names_in in listed-map (λ k. is_name (pick k)) (λ at k v kids. (at, v)) (λ (p : ℕ × ℕ). p.0) f) in
    at_in (names_in f) j x (subst (λ l. get_elem? l j ≡ some x) z (map_at (λ (p : ℕ × ℕ). p.0) (named_in f) j (x, n) e))

named_most : (f : Forest) → Distinct (nodes_in f) → (x : ℕ) → total (λ (p : ℕ × ℕ). one x p.0) (named_in f) ≤ 1
unfolding named_in
named_most f d x = omega (
  arith,
  listed-apart (λ k. is_name (pick k)) (λ k. false) (λ at k v kids. (at, v)) (λ at k v kids. at) (λ (p : ℕ × ℕ). one x p.0) (λ y. 0) (one x)
      (λ at k v kids. unfold when total in either (is_name (pick k)) (λ b. total (λ (p : ℕ × ℕ). one x p.0) (when b (at, v)) + 0 ≤ one x at) (omega arith) (omega arith)) f,
  one_once x (nodes_in f) d,
)

named-one : (f : Forest) → Distinct (nodes_in f) → (i j x m n : ℕ) → get_elem? (named_in f) i ≡ some (x, m) → get_elem? (named_in f) j ≡ some (x, n) → m ≡ n
unfolding one
named-one f d i j x m n e q =
    let z : i ≡ j = total-one (λ (p : ℕ × ℕ). one x p.0) (named_in f) i j (x, m) (x, n) (named_most f d x) e q (rw (eqb_self x) refl) (rw (eqb_self x) refl) in
    let y : get_elem? (named_in f) j ≡ some (x, m) = subst (λ k. get_elem? (named_in f) k ≡ some (x, m)) z e in
    let w : ◌≡◌ {A = ℕ × ℕ} (x, m) (x, n) = cc in ap (λ (p : ℕ × ℕ). p.1) w

-- a block's class is its binding's
class_is : (F : File) (n : ℕ) (k : Block) (b : Binding) → BoundIn F n k b → cond b.local 2 1 ≡ class_of k
unfolding BoundIn class_of
class_is F n of_module b h = rw h.0 refl
class_is F n (of_scope s ts) b h = rw h.0 refl

named-is : (F : File) (n : ℕ) (k : Block) (b : Binding) → BoundIn F n k b → b.var.name ≡ n
unfolding BoundIn
named-is F n of_module b h = h.1.name_is
named-is F n (of_scope s ts) b h = h.2.name_is

module _ (F : File) (ok : Scoped F) (h : Tabled F.root) (d : Distinct (nodes_in F.root)) where
  -- from a row
  of_row : (j : ℕ) (y : Named) → get_elem? (resolved F).named j ≡ some y → (r : RowTold F y) → (x n : ℕ) → r.target.node ≡ x → r.target.name ≡ n → (t : NameTold F x n) × (t.binding ≡ r.binding)
  of_row j y e r x n p q = (
    record {
      up = r.spot.above;
      above = rw (← p) r.spot.around_it;
      binding = r.binding;
      known = (last F ok).titled j y e r.binding (ap (λ (z : Named). z.of) r.row_is);
      bound_so = so;
      place = j;
      row = e ∙ ap some (r.row_is ∙ ap (λ z. record { node = z; of = some r.binding }) p);
      answered = unfold name_row in ap (λ c. x ∷ c ∷ r.binding.slot ∷ r.binding.id ∷ []) (class_is F n (block_of r.spot.above) r.binding so);
    },
    refl,
  )
    where
      so : BoundIn F n (block_of r.spot.above) r.binding
      so = rw (r.spot.block-is, ← q) r.bound_so

  pub every_name : (j x n : ℕ) → get_elem? (named_in F.root) j ≡ some (x, n) → NameTold F x n
  every_name j x n e = go (named-every F ok (tabled_tidy F.root h) x (named_node F.root j x n e))
    where
      go : NameRow F x → NameTold F x n
      go r =
          let t = (titled_so F h d).rows r.place r.row r.stands in
          let p : t.target.node ≡ x = sym (ap (λ (z : Named). z.node) t.row_is) ∙ r.of_node in
          let s = t.spot.named in
          let m : get_elem? (named_in F.root) s.0 ≡ some (x, t.target.name) = s.2 ∙ ap some (s.3 ∙ ap (λ z. (z, t.target.name)) p) in
          (of_row r.place r.row r.stands t x n p (named-one F.root d s.0 j x t.target.name n m e)).0

  -- every local is the binding of the Name that declares it
  pub every_local : (i : ℕ) (b : Binding) → get_elem? (resolved F).made i ≡ some b → b.local ≡ true → (t : NameTold F b.var.source b.var.name) × (t.binding ≡ b)
  every_local i b e l = let q = (titled_so F h d).locals i b e l in go q.0 q.1 ((titled_so F h d).rows q.0 row q.1)
    where
      row : Named
      row = record { node = b.var.source; of = some b }

      same : (t : RowTold F row) → t.binding ≡ b
      same t = let z : some b ≡ some t.binding = ap (λ (y : Named). y.of) t.row_is in cc

      go : (j : ℕ) → get_elem? (resolved F).named j ≡ some row → RowTold F row → (t : NameTold F b.var.source b.var.name) × (t.binding ≡ b)
      go j q t =
          let r = of_row j row q t b.var.source b.var.name (sym (ap (λ (y : Named). y.node) t.row_is)) (sym (named-is F t.target.name t.block_of_lem t.binding t.bound_so) ∙ ap (λ (y : Binding). y.var.name) (same t)) in
          (r.0, r.1 ∙ same t)

-- the module's bindings: the names are distinct (condition 6), so each is what the module makes of its name
module _ (F : File) (d : Distinct (map (λ (e : Entry). e.name) F.entries)) where
  module_makes : (i : ℕ) (b : Binding) → get_elem? (start F).made i ≡ some b → Makes (entry_of b.var.name F.entries) (module_targets F) b.var.name b.var
  unfolding start module_vars map_o
  module_makes i b e =
      let f : first (called b.var.name) (start F).made ≡ some b = first_own (start F).made (start_distinct F d) i b e in
      makes_module b.var.name F.entries (module_targets F) b.var (sym (module_var b.var.name [] F.entries (module_vars F)) ∙ ap (map_o (λ (b : Binding). b.var)) f)

-- an entry keeps its slot, a new one takes the next
slot_kept : (taken : List ℕ) (es : List Entry) (vs : List Var) (i : ℕ) (b : Binding) → get_elem? (module_bindings taken es vs) i ≡ some b → (e : Entry) → get_elem? es i ≡ some e → b.slot ≡ e.slot
unfolding module_bindings module_binding entry_slot
slot_kept taken es [] i b q e p = absurd (none-some refl q)
slot_kept taken [] (v ∷ vs) i b q e p = absurd (none-some refl p)
slot_kept taken (x ∷ es) (v ∷ vs) zero b q e p = let z : module_binding (length taken) v x.slot ≡ b = cc in let y : x ≡ e = cc in sym (ap (λ (c : Binding). c.slot) z) ∙ ap (λ (c : Entry). c.slot) y
slot_kept taken (x ∷ es) (v ∷ vs) (suc i) b q e p = slot_kept (x.slot ∷ taken) es vs i b q e p

slot_next : (taken : List ℕ) (es : List Entry) (vs : List Var) (i : ℕ) (b : Binding) → get_elem? (module_bindings taken es vs) i ≡ some b → get_elem? es i ≡ none → b.slot ≡ next_slot (slots_before i (module_bindings taken es vs) taken)
unfolding module_bindings module_binding entry_slot slots_before
slot_next taken es [] i b q p = absurd (none-some refl q)
slot_next taken [] (v ∷ vs) zero b q p = let z : module_binding (length taken) v (next_slot taken) ≡ b = cc in sym (ap (λ (c : Binding). c.slot) z)
slot_next taken (x ∷ es) (v ∷ vs) zero b q p = absurd (none-some p refl)
slot_next taken [] (v ∷ vs) (suc i) b q p = slot_next (next_slot taken ∷ taken) [] vs i b q refl
slot_next taken (x ∷ es) (v ∷ vs) (suc i) b q p = slot_next (x.slot ∷ taken) es vs i b q p

pub every_module : (F : File) → Distinct (map (λ (e : Entry). e.name) F.entries) → (i : ℕ) (b : Binding) → get_elem? (resolved F).made i ≡ some b → b.local ≡ false → ModuleTold F i b
every_module F d i b e l = go (made_start F)
  where
    told : get_elem? (start F).made i ≡ some b → ModuleTold F i b
    told q = record { listed_so = q; makes = module_makes F d i b q; kept = slot_kept [] F.entries (module_vars F) i b (unfold start in q); next = unfold start in slot_next [] F.entries (module_vars F) i b q }

    go : Begun (start F).made (resolved F) → ModuleTold F i b
    go (more, q, a) = by (at_either (start F).made more i b (subst (λ m. get_elem? m i ≡ some b) q e))
      where
        by : (get_elem? (start F).made i ≡ some b) ⊎ ((k : ℕ) × (get_elem? more k ≡ some b)) → ModuleTold F i b
        by (inl z) = told z
        by (inr z) = absurd (let y : true ≡ false = sym (a z.0 b z.1) ∙ l in let x : ◌≡◌ {A = ℕ} 0 1 = cc in omega arith)
