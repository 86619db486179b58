-- What `readers` promises of any bytes bs and any buffers b and l, off its contract `Readers bs b l a b' l'`. The words are in Shown; the proofs stand in Laws.
--     every answer        readers-one, number-smallest, resolves-too
--     whose list          of-binding, of-global, somewhere, in-no-list, in-one-list, one_place, one-global-place
--     by T1               of-local, of-module, of-outer
--     order and number    rising, global-rising, bindings-together, globals-together, together
use Rattle.std.specs.Prelude.{ℕ, ◌+◌, ◌<◌, ◌≡◌, refl, ◌↔◌, ◌⊎◌, List, get_or}
use Rattle.std.proofs.Common.{sym, ap, ◌∙◌, inl, inr, arith}
use Rattle.base.specs.Smallest.{Smallest, first_smallest}
use Rattle.base.specs.UpTo.{tally}
use Rattle.lexical.specs.Tree.{Forest}
use Rattle.lexical.specs.Module.{module', global}
use Rattle.lexical.specs.Meaning.{local, outside}
use Rattle.nodefile.specs.Layout.{node_count, global_count, nodes_of}
use Rattle.nodefile.specs.Reads.{Reads}
use Rattle.nodefile.specs.FileOf.{file_of}
use Rattle.answer.specs.declared.Answer.{Answer}
use Rattle.answer.specs.Buffers.{Buffers}
use Rattle.scope.specs.Answer.{Resolves}
use Rattle.group.specs.Sums.{sum}
use Rattle.promise.specs.Shown.{source_of, local_of}
use Rattle.promise.proofs.Theorems.{a_tree}
use Rattle.readers.specs.Keys.{of_binding, of_global}
use Rattle.readers.specs.Lists.{Lists}
use Rattle.readers.specs.Readers.{reading, Readers}
use Rattle.readers.specs.Shown.{OfBinding, OfGlobal, class_of, slot_of, binding_of, Ident, ToBinding, ToGlobal, Means, ident_with, resolved_class}
use Rattle.readers.specs.Laws.One as laws
use Rattle.readers.specs.Laws.Zero.{zero_resolves}
use Rattle.readers.specs.Laws.Listed.{listed-from, listed_to, listed_once, listed-rising}
use Rattle.readers.specs.Laws.Keyed.{keyed_binding, keyed_global, binding_keyed, global_keyed}
use Rattle.readers.specs.Laws.Classes.{other, apart, classed}
use Rattle.readers.specs.Laws.Meant as meant
use Rattle.readers.specs.Laws.Together as sums

-- No second answer fits, in its number, its counts or any element of any of the thirteen buffers.
pub readers_one : {bs : List ℕ} {b b₁ b₂ : Buffers} {l l₁ l₂ : Lists} {a c : Answer} → Readers bs b l a b₁ l₁ → Readers bs b l c b₂ l₂ → (a ≡ c) × (b₁ ≡ b₂) × (l₁ ≡ l₂)
readers_one = laws.readers_one

-- The number is the smallest whose condition holds.
pub number_smallest : {bs : List ℕ} {b b' : Buffers} {l l' : Lists} {a : Answer} → Readers bs b l a b' l' → Smallest (reading bs b l) a.number
number_smallest {bs} {b} {b'} {l} {l'} {a} r = first_smallest (reading bs b l) a.number tt r.number

-- An accepted file.
module _ {bs : List ℕ} {b b' : Buffers} {l l' : Lists} {a : Answer} (r : Readers bs b l a b' l') (z : a.number ≡ 0) where
  -- The answer is resolving's: all that is said of that one holds of this.
  pub resolves_too : Resolves bs b a b'
  resolves_too = zero_resolves r z

  root : Forest
  root = (a_tree resolves_too z).0

  reads : Reads (nodes_of bs) 0 root
  unfolding root
  reads = (a_tree resolves_too z).1

  -- ---- whose list a node stands in

  -- A binding's list has the Idents whose record names it, and no others.
  pub of_binding_lem : (k x : ℕ) → k < a.bindings → OfBinding l' k x ↔ ToBinding bs b' k x
  of_binding_lem k x h = (
    (λ s. let w = listed-from (r.of_bindings z) k x h s in keyed_binding bs b' k x w.0 w.1),
    λ t. let w = binding_keyed bs b' k x t in listed_to (r.of_bindings z) k x h w.0 w.1,
  )

  -- A global's list has the Idents whose record names it, and no others.
  pub of_global_lem : (g x : ℕ) → g < global_count bs → OfGlobal l' g x ↔ ToGlobal bs b' g x
  of_global_lem g x h = (
    (λ s. let w = listed-from (r.of_globals z) g x h s in keyed_global bs b' g x w.0 w.1),
    λ t. let w = global_keyed bs b' g x t in listed_to (r.of_globals z) g x h w.0 w.1,
  )

  -- Every Ident with a class stands in a list, its binding's or its global's;
  pub somewhere : (x : ℕ) → Ident bs x → (class_of b' x ≡ 0 → ⊥)
      → ((binding_of b' x < a.bindings) × OfBinding l' (binding_of b' x) x) ⊎ ((slot_of b' x < global_count bs) × OfGlobal l' (slot_of b' x) x)
  somewhere x i n = elim (classed b' x n) [
    | inl c ↦
        let t : ToBinding bs b' (binding_of b' x) x = record { ident = i; class = c; binding = refl } in
        let h = meant.binding_known resolves_too z root reads (binding_of b' x) x t in
        inl (h, (of_binding_lem (binding_of b' x) x h).1 t)
    | inr c ↦
        let t : ToGlobal bs b' (slot_of b' x) x = record { ident = i; class = c; global = refl } in
        let h = meant.global_known resolves_too z root reads (slot_of b' x) x t in
        inr (h, (of_global_lem (slot_of b' x) x h).1 t)
  ]

  -- one without a class in none;
  pub in_no_list : (x : ℕ) → class_of b' x ≡ 0 → ((k : ℕ) → k < a.bindings → OfBinding l' k x → ⊥) × ((g : ℕ) → g < global_count bs → OfGlobal l' g x → ⊥)
  in_no_list x e = (
    (λ k h s. other (ap of_binding (sym e) ∙ ((of_binding_lem k x h).0 s).class)),
    λ g h s. other (ap of_global (sym e) ∙ ((of_global_lem g x h).0 s).class),
  )

  -- no node stands in a binding's list and in a global's,
  pub in_one_list : (k g x : ℕ) → k < a.bindings → g < global_count bs → OfBinding l' k x → OfGlobal l' g x → ⊥
  in_one_list k g x h i s t = apart (class_of b' x) ((of_binding_lem k x h).0 s).class ((of_global_lem g x i).0 t).class

  -- and none stands in two bindings' lists or two globals', or twice in one.
  pub one_place : (j k x : ℕ) → j < a.bindings → k < a.bindings → (s : OfBinding l' j x) (t : OfBinding l' k x) → (j ≡ k) × (s.place ≡ t.place)
  one_place = listed_once (r.of_bindings z)

  pub one_global_place : (j k x : ℕ) → j < global_count bs → k < global_count bs → (s : OfGlobal l' j x) (t : OfGlobal l' k x) → (j ≡ k) × (s.place ≡ t.place)
  one_global_place = listed_once (r.of_globals z)

  -- ---- by T1: the lists against the definition of what a name means, with the tree that the nodes hold
  module _ (root : Forest) (t : Reads (nodes_of bs) 0 root) where
    -- The list of a local binding has the Idents whose meaning is its declaration, and no others: none that is refused in a type.
    pub of_local : (k x : ℕ) → k < a.bindings → local_of b' k ≡ 1 → OfBinding l' k x ↔ ((o : ℕ) × Means bs (file_of bs root) (local (o, source_of b' k)) x)
    of_local k x h e = (
      (λ s. meant.means_local resolves_too z root t k x ((of_binding_lem k x h).0 s) e),
      λ w. (of_binding_lem k x h).1 (meant.local_means resolves_too z root t k x w.0 h e w.1),
    )

    -- That of a module binding has the Idents that mean it.
    pub of_module_lem : (k x : ℕ) → k < a.bindings → local_of b' k ≡ 0 → OfBinding l' k x ↔ Means bs (file_of bs root) (outside (module' k)) x
    of_module_lem k x h e = (
      (λ s. meant.means_module resolves_too z root t k x ((of_binding_lem k x h).0 s) e),
      λ w. (of_binding_lem k x h).1 (meant.module_means resolves_too z root t k x w),
    )

    -- That of a global has the Idents that mean it.
    pub of_outer : (g x : ℕ) → g < global_count bs → OfGlobal l' g x ↔ Means bs (file_of bs root) (outside (global g)) x
    of_outer g x h = (
      (λ s. meant.means_global resolves_too z root t g x ((of_global_lem g x h).0 s)),
      λ w. (of_global_lem g x h).1 (meant.global_means resolves_too z root t g x w),
    )

  -- ---- order and number

  -- The nodes of a list rise.
  pub rising : (k x y : ℕ) → k < a.bindings → (s : OfBinding l' k x) (t : OfBinding l' k y) → s.place < t.place → x < y
  rising = listed-rising (r.of_bindings z)

  pub global_rising : (g x y : ℕ) → g < global_count bs → (s : OfGlobal l' g x) (t : OfGlobal l' g y) → s.place < t.place → x < y
  global_rising = listed-rising (r.of_globals z)

  -- The counts of the bindings are the number of Idents with class module or local, those of the globals that of Idents with class global;
  pub bindings_together : sum (λ k. get_or l'.counts k 0) a.bindings ≡ tally (ident_with of_binding bs b') (node_count bs)
  bindings_together = sums.bindings_sum bs b' (r.of_bindings z) (λ k x w. meant.binding_known resolves_too z root reads k x w)

  pub globals_together : sum (λ g. get_or l'.global_counts g 0) (global_count bs) ≡ tally (ident_with of_global bs b') (node_count bs)
  globals_together = sums.globals_sum bs b' (r.of_globals z) (λ g x w. meant.global_known resolves_too z root reads g x w)

  -- together they are the number of Idents with a class.
  pub together : sum (λ k. get_or l'.counts k 0) a.bindings + sum (λ g. get_or l'.global_counts g 0) (global_count bs) ≡ tally (ident_with resolved_class bs b') (node_count bs)
  together = omega (arith, bindings_together, globals_together, sums.classes_sum bs b')
