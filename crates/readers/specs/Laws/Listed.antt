-- The lists of a group, as its buffers give them.
--     listed-from, listed_to    number k's list has the places of its key, and no others
--     listed_once               a place stands in one list, once
--     listed-rising             in rising order
use Rattle.std.specs.Prelude.{ℕ, ◌+◌, ◌-◌, ◌≤◌, ◌<◌, ◌≡◌, List, length, get_or}
use Rattle.std.proofs.Common.{sym, ap, ◌∙◌, arith}
use Rattle.group.specs.Passing.{Stands}
use Rattle.group.specs.Sums.{sum_room, joined_length, joined_at}
use Rattle.group.specs.Grouped.{places_of, count_of, start_of, flat_of, Grouped}
use Rattle.group.specs.Theorems as group
use Rattle.readers.specs.Shown.{InList}

module _ {keys : List ℕ} {buckets l m n : ℕ} {starts counts list : List ℕ} (g : Grouped keys buckets l m n starts counts list) where
  -- where the buffers say that a place stands, by the definitions
  pub record At (k p x : ℕ) : Type 0 where
    pub from : start_of keys k ≤ p
    pub below : p < start_of keys k + count_of keys k
    pub flat : Stands (flat_of keys buckets) p x

  at : (k x : ℕ) → k < buckets → (s : InList starts counts list k x) → At k s.place x
  at k x h s = record {
    from = omega (arith, s.from, group.start-at g k h);
    below = omega (arith, s.below, group.start-at g k h, group.count_at g k h);
    flat = (omega (arith, s.below, group.start-at g k h, group.count_at g k h, joined_length (places_of keys) buckets, sum_room (count_of keys) buckets k h), sym (group.place_at g s.place) ∙ s.is);
  }

  pub listed-from : (k x : ℕ) → k < buckets → InList starts counts list k x → (x < length keys) × (get_or keys x 0 ≡ k + 1)
  listed-from k x h s =
      let w = at k x h s in
      let p = s.place in
      let e : start_of keys k + (p - start_of keys k) ≡ p = omega (arith, w.from) in
      let j : p - start_of keys k < count_of keys k = omega (arith, w.from, w.below) in
      group.from_list keys k (p - start_of keys k) x (j, sym (joined_at (places_of keys) buckets k (p - start_of keys k) h j) ∙ ap (λ (i : ℕ). get_or (flat_of keys buckets) i 0) e ∙ w.flat.1)

  pub listed_to : (k x : ℕ) → k < buckets → x < length keys → get_or keys x 0 ≡ k + 1 → InList starts counts list k x
  listed_to k x h i e =
      let w = group.stands keys buckets x k i e h in
      record {
        place = w.0;
        from = omega (arith, w.1, group.start-at g k h);
        below = omega (arith, w.2, group.start-at g k h, group.count_at g k h);
        is = group.place_at g w.0 ∙ w.3.1;
      }

  pub listed_once : (j k x : ℕ) → j < buckets → k < buckets → (s : InList starts counts list j x) (t : InList starts counts list k x) → (j ≡ k) × (s.place ≡ t.place)
  listed_once j k x h i s t = (omega (arith, (listed-from j x h s).1, (listed-from k x i t).1), group.once keys buckets s.place t.place x (at j x h s).flat (at k x i t).flat)

  pub listed-rising : (k x y : ℕ) → k < buckets → (s : InList starts counts list k x) (t : InList starts counts list k y) → s.place < t.place → x < y
  listed-rising k x y h s t i = group.rising keys buckets k s.place t.place x y h (at k x h s).from i (at k y h t).below (at k x h s).flat (at k y h t).flat
