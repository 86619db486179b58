-- The counts of a group together: how many nodes have a key.
use Rattle.std.specs.Prelude.{ℕ, ◌+◌, ◌<◌, ◌≡◌, refl, Bool, true, false, cond, List, ltb, leb, length, get_or}
use Rattle.std.proofs.Common.{ap, ◌∙◌, arith, eqb-true, lt-ltb, le-leb}
use Rattle.std.proofs.Math.Decide.{ℕ_discrete}
use Rattle.base.specs.Table.{both}
use Rattle.base.specs.UpTo.{tally}
use Rattle.nodefile.specs.Layout.{node_count, nodes_of}
use Rattle.nodefile.specs.Listed.{kind_at}
use Rattle.answer.specs.Buffers.{Buffers}
use Rattle.answer.specs.Laws.{part_lt}
use Rattle.answer.specs.Records.{node_widths}
use Rattle.group.specs.Sums.{sum, sum_like}
use Rattle.group.specs.Grouped.{count_of, Grouped}
use Rattle.group.specs.Theorems as group
use Rattle.readers.specs.Keys.{is_ident, of_binding, of_global, keys_of}
use Rattle.readers.specs.Shown.{class_of, slot_of, binding_of, ToBinding, ToGlobal, ident_with, resolved_class}
use Rattle.readers.specs.Laws.Keyed.{keys_long, key_get}
use Rattle.readers.specs.Laws.Counted.{one, passing-tally, tally_like, tally-both}

-- a key that is 1 + n where two tests pass, and is then a bucket's
keyed_test : (p q : Bool) (n buckets key : ℕ) → key ≡ cond p (cond q (n + 1) 0) 0 → (p ≡ true → q ≡ true → n < buckets) → both (ltb 0 key) (leb key buckets) ≡ both p q
keyed_test true true n buckets key e h = let l = h refl refl in rw (lt-ltb 0 key (omega arith), le-leb key buckets (omega arith)) refl
keyed_test true false n buckets key e h = rw e refl
keyed_test false q n buckets key e h = rw e refl

module _ (bs : List ℕ) (b : Buffers) {buckets l m n : ℕ} {starts counts list : List ℕ} where
  module _ (globals : Bool) (g : Grouped (keys_of globals bs b.nodes) buckets l m n starts counts list) where
    -- the counts of a group are the number of nodes whose key is a bucket's
    keyed-sum : (p : ℕ → Bool) → ((x : ℕ) → x < node_count bs → group.keyed (keys_of globals bs b.nodes) buckets x ≡ p x) → sum (λ k. get_or counts k 0) buckets ≡ tally p (node_count bs)
    keyed-sum p h =
        let keys = keys_of globals bs b.nodes in
        sum_like (λ k. get_or counts k 0) (count_of keys) buckets (group.count_at g)
        ∙ group.together keys buckets
        ∙ passing-tally (group.keyed keys buckets) (length keys)
        ∙ ap (tally (group.keyed keys buckets)) (keys_long bs b globals)
        ∙ tally_like (group.keyed keys buckets) p (node_count bs) h

  pub bindings_sum : Grouped (keys_of false bs b.nodes) buckets l m n starts counts list → ((k x : ℕ) → ToBinding bs b k x → k < buckets) → sum (λ k. get_or counts k 0) buckets ≡ tally (ident_with of_binding bs b) (node_count bs)
  bindings_sum g h = keyed-sum false g (ident_with of_binding bs b)
      (λ x i. keyed_test (is_ident (kind_at (nodes_of bs) x)) (of_binding (class_of b x)) (binding_of b x) buckets (get_or (keys_of false bs b.nodes) x 0) (key_get bs b false x i)
      (λ e c. h (binding_of b x) x (record { ident = record { known = i; kind = eqb-true _ _ e }; class = c; binding = refl })))

  pub globals_sum : Grouped (keys_of true bs b.nodes) buckets l m n starts counts list → ((g x : ℕ) → ToGlobal bs b g x → g < buckets) → sum (λ k. get_or counts k 0) buckets ≡ tally (ident_with of_global bs b) (node_count bs)
  globals_sum g h = keyed-sum true g (ident_with of_global bs b)
      (λ x i. keyed_test (is_ident (kind_at (nodes_of bs) x)) (of_global (class_of b x)) (slot_of b x) buckets (get_or (keys_of true bs b.nodes) x 0) (key_get bs b true x i)
      (λ e c. h (slot_of b x) x (record { ident = record { known = i; kind = eqb-true _ _ e }; class = c; global = refl })))

-- the classes are 0 to 3
class_split : (p : Bool) (c : ℕ) → c < 4 → one (both p (of_binding c)) + one (both p (of_global c)) ≡ one (both p (resolved_class c))
class_split false c h = refl
class_split true c h = elim (ℕ_discrete c 0) [
  | yes e ↦ rw e refl
  | no n ↦ elim (ℕ_discrete c 1) [
    | yes e ↦ rw e refl
    | no m ↦ elim (ℕ_discrete c 2) [ yes e ↦ rw e refl | no l ↦ let e : c ≡ 3 = omega arith in rw e refl ]
  ]
]

pub classes_sum : (bs : List ℕ) (b : Buffers) → tally (ident_with of_binding bs b) (node_count bs) + tally (ident_with of_global bs b) (node_count bs) ≡ tally (ident_with resolved_class bs b) (node_count bs)
classes_sum bs b = tally-both (ident_with of_binding bs b) (ident_with of_global bs b) (ident_with resolved_class bs b) (node_count bs) (λ x i. class_split (is_ident (kind_at (nodes_of bs) x)) (class_of b x) (part_lt node_widths 0 (get_or b.nodes x 0)))
