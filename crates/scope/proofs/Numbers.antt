-- The number that `resolve` gives, and what it gives with it: 1, judging's 2 to 11, what comes of an accepted file.
use Prim.Native.Nat.{ℕ, ◌<◌, ◌≤◌}
use mathlib.Core.Path.{◌≡◌, sym, ap, ◌∙◌, subst}
use mathlib.Core.List.{List, map}
use native.Mathlib.Omega.{arith}
use native.Mathlib.Decide.{dec_lt}
use lib.ListN.{length, get_or, replicate, length-replicate}
use Rattle.base.specs.UpTo.{up_to}
use Rattle.base.specs.First.{First, here, later}
use Rattle.base.specs.Refusals.{number_of}
use Rattle.base.specs.declared.refusal.Refusal.{Refusal}
use Rattle.base.specs.declared.refusal.Refusal.TheVariants as refusals
use Rattle.lexical.specs.Module.{File}
use Rattle.lexical.specs.Records.{records}
use Rattle.store.proofs.Laws.Points.{Zeros, zeros}
use Rattle.judge.specs.Cond.{Judged}
use Rattle.answer.specs.declared.Answer.{Answer}
use Rattle.answer.specs.Refused.{refusal}
use Rattle.answer.specs.Buffers.{Buffers, Short, short_nodes, short_bindings, short_entries, short_scopes, short_slots, short_copies, short_errors, Front, Zeroed}
use Rattle.answer.specs.Records.{binding_of, entry_of, pair_of, copy_of}
use Rattle.scope.specs.Nodes.{node_answer}
use Rattle.scope.specs.Answer.{ManySlots, too_many_slots, resolving, Refused, Given, Resolves}
use Rattle.scope.specs.Accepted.{PreAccepted, Accepting, many, few}
use Rattle.scope.specs.Laws.Conditions.{first_short, first_judged, first-walked}
use Rattle.scope.specs.Laws.Accepts.{judged_ready, judged_tree}

-- no refusal has the number 0
refusal_some : (why : Refusal) → 0 < number_of why
refusal_some refusals.ShortBuffer = omega arith
refusal_some refusals.Header = omega arith
refusal_some refusals.Counts = omega arith
refusal_some refusals.Length = omega arith
refusal_some refusals.Names = omega arith
refusal_some refusals.Lists = omega arith
refusal_some refusals.Nodes = omega arith
refusal_some refusals.Children = omega arith
refusal_some refusals.Depth = omega arith
refusal_some refusals.Scopes = omega arith
refusal_some refusals.Params = omega arith
refusal_some refusals.ManySlots = omega arith
refusal_some refusals.ShortList = omega arith

-- ---- buffers that are cleared

pub refused_with : {b b₁ : Buffers} {a : Answer} {n : ℕ} → Zeroed b b₁ → a ≡ refusal n → Refused b a b₁
refused_with z q = record {
  bindings = ap (λ (x : Answer). x.bindings) q;
  module_entries = ap (λ (x : Answer). x.«module») q;
  slots = ap (λ (x : Answer). x.slots) q;
  copies = ap (λ (x : Answer). x.copies) q;
  errors = ap (λ (x : Answer). x.errors) q;
  zeroed = z;
}

-- a buffer that is long enough, and blank
same_long : (l : List ℕ) {l₁ : List ℕ} → l₁ ≡ replicate (length l) 0 → length l₁ ≡ length l
same_long l e = ap length e ∙ length-replicate {A = ℕ} (length l) 0

long : {S : Type 0} (l : List ℕ) {l₁ : List ℕ} (n : ℕ) → l₁ ≡ replicate (length l) 0 → (S → ⊥) → (length l < n → S) → n ≤ length l₁
long l n e s f = elim (dec_lt (length l) n) [ yes h ↦ absurd (s (f h)) | no h ↦ omega (arith, same_long l e) ]

blank : (l : List ℕ) {l₁ : List ℕ} → l₁ ≡ replicate (length l) 0 → Zeros l₁
blank l e i = ap (λ (x : List ℕ). get_or x i 0) e ∙ zeros (length l) i

-- what is said of the cleared buffer is said of the one that was lent: it is as long
held_as : (l xs : List ℕ) {l₁ x : List ℕ} → l₁ ≡ replicate (length l) 0 → Front x (length l₁) xs → Front x (length l) xs
held_as l xs {l₁} {x} e f = subst (λ (n : ℕ). Front x n xs) (same_long l e) f

zeros_as : (l : List ℕ) {l₁ x : List ℕ} → l₁ ≡ replicate (length l) 0 → x ≡ replicate (length l₁) 0 → x ≡ replicate (length l) 0
zeros_as l e f = f ∙ ap (λ (n : ℕ). replicate n 0) (same_long l e)

module _ {b b₁ : Buffers} (z : Zeroed b b₁) where
  given_as : {F : File} {n : ℕ} {a : Answer} {b' : Buffers} → Given F n b₁ a b' → Given F n b a b'
  given_as {F} {n} g = record {
    bindings = g.bindings;
    module_entries = g.module_entries;
    slots = g.slots;
    copies = g.copies;
    errors = g.errors;
    nodes_hold = held_as b.nodes (up_to (node_answer F) n) z.nodes g.nodes_hold;
    bindings_hold = held_as b.bindings (map binding_of (records F).bindings) z.bindings g.bindings_hold;
    entries_hold = held_as b.entries (map entry_of (records F).entries) z.entries g.entries_hold;
    scopes_hold = held_as b.scopes (map pair_of (records F).scopes) z.scopes g.scopes_hold;
    slots_hold = held_as b.slots (map pair_of (records F).slots) z.slots g.slots_hold;
    copies_hold = held_as b.copies (map copy_of (records F).copies) z.copies g.copies_hold;
    errors_hold = held_as b.errors (map pair_of (records F).errors) z.errors g.errors_hold;
  }

  refused_as : {a : Answer} {b' : Buffers} → Refused b₁ a b' → Refused b a b'
  refused_as r = record {
    bindings = r.bindings;
    module_entries = r.module_entries;
    slots = r.slots;
    copies = r.copies;
    errors = r.errors;
    zeroed = record {
      nodes = zeros_as b.nodes z.nodes r.zeroed.nodes;
      bindings = zeros_as b.bindings z.bindings r.zeroed.bindings;
      entries = zeros_as b.entries z.entries r.zeroed.entries;
      scopes = zeros_as b.scopes z.scopes r.zeroed.scopes;
      slots = zeros_as b.slots z.slots r.zeroed.slots;
      copies = zeros_as b.copies z.copies r.zeroed.copies;
      errors = zeros_as b.errors z.errors r.zeroed.errors;
    };
  }

module _ {bs : List ℕ} {b b₁ : Buffers} (z : Zeroed b b₁) where
  -- a refusal before the walks
  refusing : {a : Answer} (n : ℕ) → (n ≡ 0 → ⊥) → a ≡ refusal n → First (resolving bs b) n → Resolves bs b a b₁
  refusing {a} n h q s =
      let e : a.number ≡ n = ap (λ (x : Answer). x.number) q in
      record { number = subst (First (resolving bs b)) (sym e) s; refused = λ _. refused_with z q; given = λ y. absurd (h (sym e ∙ y)) }

  pub too_short : {a : Answer} → Short b → a ≡ refusal 1 → Resolves bs b a b₁
  too_short s q = refusing 1 (λ e. omega arith) q (first_short bs b s)

  pub judged : {a : Answer} (why : Refusal) → (Short b → ⊥) → Judged bs (number_of why) → a ≡ refusal (number_of why) → Resolves bs b a b₁
  judged {a} why s j q =
      let h : number_of why ≡ 0 → ⊥ = λ e. omega (arith, refusal_some why) in
      refusing (number_of why) h q (first_judged bs b s (number_of why) h j)

  -- an accepted file
  pub pre_accepted : (Short b → ⊥) → Judged bs 0 → PreAccepted bs b₁
  pre_accepted s j = let (root, r) = judged_tree j in record {
    roomy = record {
      nodes = long b.nodes 2048 z.nodes s short_nodes;
      bindings = long b.bindings 2304 z.bindings s short_bindings;
      entries = long b.entries 2304 z.entries s short_entries;
      scopes = long b.scopes 256 z.scopes s short_scopes;
      slots = long b.slots 4096 z.slots s short_slots;
      copies = long b.copies 4096 z.copies s short_copies;
      errors = long b.errors 2048 z.errors s short_errors;
    };
    blank = record {
      nodes = blank b.nodes z.nodes;
      bindings = blank b.bindings z.bindings;
      entries = blank b.entries z.entries;
      scopes = blank b.scopes z.scopes;
      slots = blank b.slots z.slots;
      copies = blank b.copies z.copies;
      errors = blank b.errors z.errors;
    };
    root = root;
    ready = judged_ready j root r;
  }

  pub resolves : {a : Answer} {b' : Buffers} → (Short b → ⊥) → Judged bs 0 → Accepting bs b₁ a b' → Resolves bs b a b'
  resolves {a} s j (many e m r) = record { number = first-walked bs b s a.number j (here m e); refused = λ _. refused_as z r; given = λ y. absurd (omega arith) }
  resolves {a} {b'} s j (few e g) = record {
    number = first-walked bs b s a.number j (later not_many e);
    refused = λ n. absurd (n e);
    given = λ _ root r. given_as z (g root r).1;
  }
    where
      not_many : ManySlots bs → ⊥
      not_many (too_many_slots root r h) = omega (arith, (g root r).0)
