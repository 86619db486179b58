-- An Ident's record against its meaning, off T1.
--     binding_known, global_known     what a record names is there
--     means_local, local_means        a record names a local binding exactly where the meaning is that binding's declaration
--     means_module, module_means      a module binding, where the meaning is that binding
--     means_global, global_means      a global, where the meaning is that global
use Rattle.std.specs.Prelude.{ℕ, ◌<◌, ◌≡◌, refl, Bool, true, false, List, [], ◌∷◌, get_or}
use Rattle.std.proofs.Math.Path.{sym, ap, subst}
use Rattle.std.proofs.Common.{◌∙◌, arith}
use Rattle.std.proofs.Math.Option.{some}
use Rattle.std.proofs.Math.ListN.{length-map}
use Rattle.base.specs.UpTo.{at_some, up_to_length}
use Rattle.lexical.specs.Places.{at-below}
use Rattle.lexical.specs.Tree.{Forest}
use Rattle.lexical.specs.Module.{File, module', global, missing, outer_of}
use Rattle.lexical.specs.Meaning.{Around, Site, Meaning, local, refused, outside, meaning}
use Rattle.lexical.specs.Third.{resolved}
use Rattle.lexical.specs.Records as rec
use Rattle.lexical.proofs.Whole.{T1_one}
use Rattle.nodefile.specs.Layout.{global_count, nodes_of, globals_of}
use Rattle.nodefile.specs.Lists.{global_name}
use Rattle.nodefile.specs.Reads.{Reads}
use Rattle.nodefile.specs.FileOf.{file_of}
use Rattle.nodefile.specs.Listed.{value_at}
use Rattle.answer.specs.declared.Answer.{Answer}
use Rattle.answer.specs.Buffers.{Buffers}
use Rattle.scope.specs.Answer.{Resolves}
use Rattle.scope.specs.Laws.Readies.{ready_distinct}
use Rattle.scope.specs.Laws.Zero.{zero_ready, zero_slots}
use Rattle.promise.specs.Shown.{node_fields, source_of, local_of, BindingShown, Shown, Told}
use Rattle.promise.proofs.Theorems.{T1}
use Rattle.promise.proofs.Laws.Records.{binding_read}
use Rattle.readers.specs.Keys.{of_binding, of_global}
use Rattle.readers.specs.Laws.Classes.{other}
use Rattle.readers.specs.Shown.{class_of, slot_of, binding_of, Ident, ToBinding, ToGlobal, Means}

bit-set : (l : Bool) → rec.bit l ≡ 1 → l ≡ true
unfolding rec.bit
bit-set true e = refl
bit-set false e = absurd (omega arith)

module _ {bs : List ℕ} {b b' : Buffers} {a : Answer} (r : Resolves bs b a b') (z : a.number ≡ 0) (root : Forest) (t : Reads (nodes_of bs) 0 root) where
  abbrev F : File
  F = file_of bs root

  told : (x : ℕ) → Ident bs x → Told F a b' x (value_at (nodes_of bs) x)
  told x i = T1 r z root t x i.known i.kind

  -- no two local bindings are declared by one Name
  one_local : (j k : ℕ) → j < a.bindings → k < a.bindings → local_of b' j ≡ 1 → local_of b' k ≡ 1 → source_of b' j ≡ source_of b' k → j ≡ k
  unfolding rec.records
  one_local j k h i l m s =
      let q = zero_ready r z root t in
      let few = zero_slots r z root t in
      let g = r.given z root t in
      let n = length-map (resolved F).made (rec.binding_row (resolved F).log) in
      let (x, e) = at_some (resolved F).made j (omega (arith, g.bindings, n)) in
      let (y, d) = at_some (resolved F).made k (omega (arith, g.bindings, n)) in
      let u = binding_read q few g j x e in
      let v = binding_read q few g k y d in
      T1_one F (ready_distinct q) j k x y e d (bit-set x.local (sym u.local_is ∙ l)) (bit-set y.local (sym v.local_is ∙ m)) (sym u.source_is ∙ s ∙ v.source_is)

  module _ (x : ℕ) (up : List Around) where
    abbrev site : Site
    site = record { node = x; name = value_at (nodes_of bs) x; above = up }

    -- the fields of a record
    module _ {c s k : ℕ} (e : node_fields b' x ≡ c ∷ s ∷ k ∷ []) where
      class_is : class_of b' x ≡ c
      class_is = ap (λ (l : List ℕ). get_or l 0 0) e

      slot_is : slot_of b' x ≡ s
      slot_is = ap (λ (l : List ℕ). get_or l 1 0) e

      binding_is : binding_of b' x ≡ k
      binding_is = ap (λ (l : List ℕ). get_or l 2 0) e

    -- what a binding that the record names says of the meaning
    data Bound (k : ℕ) (m : Meaning) : Type 0 where
      as_local : (o : ℕ) → k < a.bindings → local_of b' k ≡ 1 → m ≡ local (o, source_of b' k) → Bound k m
      as_module : k < a.bindings → local_of b' k ≡ 0 → m ≡ outside (module' k) → Bound k m

    bound : (k : ℕ) (m : Meaning) → Shown F a b' site m → of_binding (class_of b' x) ≡ true → binding_of b' x ≡ k → Bound k m
    unfolding Shown
    bound k (local d) h c e =
        let j : h.binding ≡ k = sym (binding_is h.answered) ∙ e in
        let w : BindingShown a b' k (value_at (nodes_of bs) x) d.1 1 h.own = subst (λ (i : ℕ). BindingShown a b' i (value_at (nodes_of bs) x) d.1 1 h.own) j h.shown in
        as_local d.0 w.known w.local_is (ap (λ (y : ℕ). local (d.0, y)) (sym w.source_is))
    bound k (refused d) h c e = other (ap of_binding (sym (class_is h.empty)) ∙ c)
    bound k (outside (module' i)) h c e =
        let j : i ≡ k = sym (binding_is h.answered) ∙ e in
        as_module (subst (λ (n : ℕ). n < a.bindings) j h.shown.known) (ap (local_of b') (sym j) ∙ h.shown.local_is) (ap (λ (n : ℕ). outside (module' n)) j)
    bound k (outside (global g)) h c e = other (ap of_binding (sym (class_is h.0)) ∙ c)
    bound k (outside missing) h c e = other (ap of_binding (sym (class_is h.0.empty)) ∙ c)

    -- and of a global
    named : (g : ℕ) (m : Meaning) → Shown F a b' site m → of_global (class_of b' x) ≡ true → slot_of b' x ≡ g → (m ≡ outside (global g)) × (g < global_count bs)
    unfolding Shown
    named g (local d) h c e = other (ap of_global (sym (class_is h.answered)) ∙ c)
    named g (refused d) h c e = other (ap of_global (sym (class_is h.empty)) ∙ c)
    named g (outside (module' i)) h c e = other (ap of_global (sym (class_is h.answered)) ∙ c)
    named g (outside (global i)) h c e =
        let j : i ≡ g = sym (slot_is h.0) ∙ e in
        (ap (λ (n : ℕ). outside (global n)) j, omega (arith, at-below F.globals i (value_at (nodes_of bs) x) h.1, up_to_length (global_name (globals_of bs)) (global_count bs)))
    named g (outside missing) h c e = other (ap of_global (sym (class_is h.0.empty)) ∙ c)

  -- an Ident whose meaning is said with the nodes around it
  meant : (m : Meaning) (x : ℕ) (w : Means bs F m x) → Shown F a b' (site x w.up) m
  meant m x w =
      let p = told x w.ident in
      let u : p.up ≡ w.up = let y : some p.up ≡ some w.up = sym p.above ∙ w.above in cc in
      subst (Shown F a b' (site x w.up)) w.means (subst (λ (l : List Around). Shown F a b' (site x l) (meaning (outer_of F) (site x l))) u p.shown)

  module _ (k x : ℕ) (w : ToBinding bs b' k x) where
    bound_to : Bound x (told x w.ident).up k (meaning (outer_of F) (site x (told x w.ident).up))
    bound_to = let p = told x w.ident in bound x p.up k (meaning (outer_of F) (site x p.up)) p.shown w.class w.binding

    pub binding_known : k < a.bindings
    binding_known = elim bound_to [ as_local o h l e ↦ h | as_module h l e ↦ h ]

    pub means_local : local_of b' k ≡ 1 → (o : ℕ) × Means bs F (local (o, source_of b' k)) x
    means_local i = let p = told x w.ident in elim bound_to [
      | as_local o h l e ↦ (o, record { ident = w.ident; up = p.up; above = p.above; means = e })
      | as_module h l e ↦ absurd (omega arith)
    ]

    pub means_module : local_of b' k ≡ 0 → Means bs F (outside (module' k)) x
    means_module i = let p = told x w.ident in elim bound_to [
      | as_local o h l e ↦ absurd (omega arith)
      | as_module h l e ↦ record { ident = w.ident; up = p.up; above = p.above; means = e }
    ]

  module _ (g x : ℕ) (w : ToGlobal bs b' g x) where
    global_so : (meaning (outer_of F) (site x (told x w.ident).up) ≡ outside (global g)) × (g < global_count bs)
    global_so = let p = told x w.ident in named x p.up g (meaning (outer_of F) (site x p.up)) p.shown w.class w.global

    pub global_known : g < global_count bs
    global_known = global_so.1

    pub means_global : Means bs F (outside (global g)) x
    means_global = let p = told x w.ident in record { ident = w.ident; up = p.up; above = p.above; means = global_so.0 }

  pub local_means : (k x o : ℕ) → k < a.bindings → local_of b' k ≡ 1 → Means bs F (local (o, source_of b' k)) x → ToBinding bs b' k x
  unfolding Shown
  local_means k x o h l w =
      let s = meant (local (o, source_of b' k)) x w in
      record {
        ident = w.ident;
        class = ap of_binding (class_is x w.up s.answered);
        binding = binding_is x w.up s.answered ∙ one_local s.binding k s.shown.known h s.shown.local_is l s.shown.source_is;
      }

  pub module_means : (k x : ℕ) → Means bs F (outside (module' k)) x → ToBinding bs b' k x
  unfolding Shown
  module_means k x w =
      let s = meant (outside (module' k)) x w in
      record { ident = w.ident; class = ap of_binding (class_is x w.up s.answered); binding = binding_is x w.up s.answered }

  pub global_means : (g x : ℕ) → Means bs F (outside (global g)) x → ToGlobal bs b' g x
  unfolding Shown
  global_means g x w =
      let s = meant (outside (global g)) x w in
      record { ident = w.ident; class = ap of_global (class_is x w.up s.0); global = slot_is x w.up s.0 }
