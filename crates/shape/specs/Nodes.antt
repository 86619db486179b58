-- Number 7 of document 01: the nodes, each by its own fields, and how they stand inside one another.
use Rattle.std.specs.Prelude.{ℕ, zero, suc, ◌*◌, ◌≤◌, ◌<◌, ◌≡◌, Bool, true, false, ◌||◌, List, eqb, length, drop}
use Rattle.std.proofs.Common.{arith}
use Rattle.nodefile.specs.Node.{kind_of, node_zero, size_of, value_of, below}
use Rattle.nodefile.specs.Kids.{Fits}
use Rattle.nodefile.specs.Nested.{end_of, Nested}
use Rattle.nodefile.proofs.Laws.Nested.{unnested}
use Rattle.base.specs.Says.{unless, unless_not}

-- the part of a node list that starts with node i
abbrev pub at : List ℕ → ℕ → List ℕ
at ns i = drop (8 * i) ns

-- value is a name number for Name and Ident, a scope number for Def and Lambda, otherwise zero
abbrev pub has_name : ℕ → Bool
has_name k = eqb k 8 || eqb k 11

abbrev pub has_scope : ℕ → Bool
has_scope k = eqb k 6 || eqb k 12

-- 7: kind above 18, zero bits set, size 0, a node running past its parent's end, root size wrong, no such name, or a value where none belongs
pub data BadNodes (names : ℕ) (ns : List ℕ) : Type 0 where
  high_kind : (i : ℕ) → 8 * i < length ns → 18 < kind_of (at ns i) → BadNodes names ns
  zero_bits_set : (i : ℕ) → 8 * i < length ns → (node_zero (at ns i) ≡ 0 → ⊥) → BadNodes names ns
  no_size : (i : ℕ) → 8 * i < length ns → size_of (at ns i) ≡ 0 → BadNodes names ns
  past_parent : (i j : ℕ) → 8 * j < length ns → i < j → j < end_of ns i → end_of ns i < end_of ns j → BadNodes names ns
  root_size : (8 * size_of ns ≡ length ns → ⊥) → BadNodes names ns
  no_such_name : (i : ℕ) → 8 * i < length ns → has_name (kind_of (at ns i)) ≡ true → names ≤ value_of (at ns i) → BadNodes names ns
  stray_value : (i : ℕ) → 8 * i < length ns → has_name (kind_of (at ns i)) ≡ false → has_scope (kind_of (at ns i)) ≡ false → (value_of (at ns i) ≡ 0 → ⊥) → BadNodes names ns

-- what it leaves: the list falls into nodes as their sizes say
pub record Sound (ns : List ℕ) : Type 0 where
  pub root : 8 * size_of ns ≡ length ns
  pub known : (i : ℕ) → 8 * i < length ns → kind_of (at ns i) < 19
  pub some : (i : ℕ) → 8 * i < length ns → 0 < size_of (at ns i)
  pub inside : (i : ℕ) → 8 * i < length ns → 8 * end_of ns i ≤ length ns
  pub fits : (i : ℕ) → 8 * i < length ns → Fits (below (at ns i))

module _ (names : ℕ) (ns : List ℕ) (ok : BadNodes names ns → ⊥) where
  whole : 8 * size_of ns ≡ length ns
  whole = unless_not (8 * size_of ns) (length ns) ok root_size

  ending : (i : ℕ) → 8 * i < length ns → 8 * end_of ns i ≤ length ns
  ending zero h = omega (arith, whole)
  ending (suc i) h = omega (arith, whole, unless (end_of ns (suc i)) (end_of ns 0) ok (past_parent 0 (suc i) h (omega arith) (omega (arith, whole))))

  inner : Nested ns
  inner i j h a b = unless (end_of ns j) (end_of ns i) ok (past_parent i j (omega (arith, ending i h)) a b)

  sizes : (i : ℕ) → 8 * i < length ns → 0 < size_of (at ns i)
  sizes i h = unless 1 (size_of (at ns i)) ok (λ l. no_size i h (omega arith))

  pub sound : Sound ns
  sound = record {
    root = whole;
    known = λ i h. unless (suc (kind_of (at ns i))) 19 ok (λ l. high_kind i h (omega arith));
    some = sizes;
    inside = ending;
    fits = unnested ns (λ i h. (sizes i h, ending i h)) inner;
  }
