-- The number that `readers` gives, and what it gives with it: resolving's, 13, or what comes of an accepted file.
use Prim.Native.Nat.{ℕ, ◌≤◌}
use mathlib.Core.Path.{◌≡◌, refl, ap, ◌∙◌, subst}
use mathlib.Core.Bool.{Bool, true, false}
use mathlib.Core.List.{List}
use native.Mathlib.Omega.{arith}
use lib.ListN.{length, replicate, length-replicate}
use Rattle.base.specs.First.{First, NoneHolds, here, later, first-none, first-front, first-after}
use Rattle.base.specs.Says.{unless}
use Rattle.base.specs.UpTo.{up_to_length}
use Rattle.nodefile.specs.Layout.{node_count, global_count, nodes_of}
use Rattle.answer.specs.declared.Answer.{Answer}
use Rattle.answer.specs.Refused.{refusal}
use Rattle.answer.specs.Buffers.{Buffers, Zeroed, short_nodes}
use Rattle.scope.specs.Answer.{resolving, Resolves}
use Rattle.group.specs.Grouped.{Room, answered}
use Rattle.readers.specs.Keys.{key_at, keys_of}
use Rattle.readers.specs.Lists.{Lists, ShortLists, Cleared, short_starts, short_counts, short_list, short_global_starts, short_global_counts, short_global_list}
use Rattle.readers.specs.Readers.{list_rows, Readers}
use Rattle.readers.specs.Steps.{Kept, Listed}
use Rattle.readers.specs.Laws.Room.{few_nodes, few_globals, few_bindings}

-- as long as the one that was lent
pub record SameLong (b b₁ : Buffers) : Type 0 where
  pub nodes : length b₁.nodes ≡ length b.nodes
  pub bindings : length b₁.bindings ≡ length b.bindings
  pub entries : length b₁.entries ≡ length b.entries
  pub scopes : length b₁.scopes ≡ length b.scopes
  pub slots : length b₁.slots ≡ length b.slots
  pub copies : length b₁.copies ≡ length b.copies
  pub errors : length b₁.errors ≡ length b.errors

zeros_as : {x : List ℕ} {m n : ℕ} → m ≡ n → x ≡ replicate m 0 → x ≡ replicate n 0
zeros_as e z = z ∙ ap (λ (k : ℕ). replicate k 0) e

-- a buffer that was cleared is as long as it was
as_long : {x : List ℕ} (y : List ℕ) → x ≡ replicate (length y) 0 → length x ≡ length y
as_long y e = ap length e ∙ length-replicate {A = ℕ} (length y) 0

module _ {bs : List ℕ} {b b₁ : Buffers} {a : Answer} (r : Resolves bs b a b₁) where
  -- resolving refuses
  pub refused_so : {l l₁ : Lists} → (a.number ≡ 0 → ⊥) → Cleared l l₁ → Readers bs b l a b₁ l₁
  refused_so {l} n k = record {
    number = first-front (resolving bs b) (list_rows l) n r.number;
    refused = r.refused;
    cleared = λ _. k;
    given = λ e. absurd (n e);
    of_bindings = λ e. absurd (n e);
    of_globals = λ e. absurd (n e);
  }

  module _ (z : a.number ≡ 0) where
    none-holds : NoneHolds (resolving bs b)
    none-holds = first-none (resolving bs b) 0 tt refl (subst (First (resolving bs b)) z r.number)

    -- 13
    pub too_short : {l l₁ : Lists} {c : Answer} {b₂ : Buffers} → ShortLists l → Cleared l l₁ → SameLong b b₁ → Zeroed b₁ b₂ → c ≡ refusal 13 → Readers bs b l c b₂ l₁
    too_short {l} {l₁} {c} {b₂} s k m y q = record {
      number = first-after (resolving bs b) (list_rows l) c.number none-holds (here s (ap (λ (x : Answer). x.number) q));
      refused = λ _. record {
        bindings = ap (λ (x : Answer). x.bindings) q;
        module_entries = ap (λ (x : Answer). x.«module») q;
        slots = ap (λ (x : Answer). x.slots) q;
        copies = ap (λ (x : Answer). x.copies) q;
        errors = ap (λ (x : Answer). x.errors) q;
        zeroed = record {
          nodes = zeros_as m.nodes y.nodes;
          bindings = zeros_as m.bindings y.bindings;
          entries = zeros_as m.entries y.entries;
          scopes = zeros_as m.scopes y.scopes;
          slots = zeros_as m.slots y.slots;
          copies = zeros_as m.copies y.copies;
          errors = zeros_as m.errors y.errors;
        };
      };
      cleared = λ _. k;
      given = λ e. absurd (not-zero e);
      of_bindings = λ e. absurd (not-zero e);
      of_globals = λ e. absurd (not-zero e);
    }
      where
        not-zero : c.number ≡ 0 → ⊥
        not-zero e = omega (arith, ap (λ (x : Answer). x.number) q)

    -- the nodes' records are there for the groups
    pub records_kept : length b₁.nodes ≡ length b.nodes → Kept bs b₁.nodes
    records_kept e = record { few = few_nodes r z; held = omega (arith, unless 2048 (length b.nodes) none-holds.0 short_nodes) }

    keys_few : (globals : Bool) → length (keys_of globals bs b₁.nodes) ≤ 2048
    keys_few globals = omega (arith, up_to_length (key_at globals (nodes_of bs) b₁.nodes) (node_count bs), few_nodes r z)

    module _ {l l₁ : Lists} (long : ShortLists l → ⊥) (k : Cleared l l₁) where
      -- an accepted file
      pub all_listed : {l₂ : Lists} → Listed bs b₁.nodes a.bindings l₁ l₂ → Readers bs b l a b₁ l₂
      all_listed {l₂} g = record {
        number = first-after (resolving bs b) (list_rows l) a.number none-holds (later long z);
        refused = λ n. absurd (n z);
        cleared = λ n. absurd (n z);
        given = r.given;
        of_bindings = λ _. answered (rw (← as_long l.starts k.starts, ← as_long l.counts k.counts, ← as_long l.list k.list) g.of_bindings) room;
        of_globals = λ _. answered (rw (← as_long l.global_starts k.global_starts, ← as_long l.global_counts k.global_counts, ← as_long l.global_list k.global_list) g.of_globals) global_room;
      }
        where
          room : Room (length (keys_of false bs b₁.nodes)) a.bindings (length l.starts) (length l.counts) (length l.list)
          room = record {
            few = omega (arith, keys_few false);
            for_starts = omega (arith, few_bindings r z, unless 2304 (length l.starts) long short_starts);
            for_counts = omega (arith, few_bindings r z, unless 2304 (length l.counts) long short_counts);
            for_list = omega (arith, keys_few false, unless 2048 (length l.list) long short_list);
          }

          global_room : Room (length (keys_of true bs b₁.nodes)) (global_count bs) (length l.global_starts) (length l.global_counts) (length l.global_list)
          global_room = record {
            few = omega (arith, keys_few true);
            for_starts = omega (arith, few_globals r z, unless 256 (length l.global_starts) long short_global_starts);
            for_counts = omega (arith, few_globals r z, unless 256 (length l.global_counts) long short_global_counts);
            for_list = omega (arith, keys_few true, unless 2048 (length l.global_list) long short_global_list);
          }
