-- No second answer fits `Readers`: the number is one, resolving's answer is one, and each clause fixes a whole buffer.
use Rattle.std.specs.Prelude.{ℕ, ◌≡◌, List}
use Rattle.std.proofs.Common.{sym, ap, ◌∙◌}
use Rattle.std.proofs.Math.Decide.{ℕ_discrete}
use Rattle.base.specs.First.{first_one}
use Rattle.answer.specs.declared.Answer.{Answer}
use Rattle.answer.specs.Buffers.{Buffers, buffers}
use Rattle.scope.specs.Answer.{Refused}
use Rattle.scope.specs.Laws.One.{same_answer}
use Rattle.readers.specs.Lists.{Lists, lists}
use Rattle.readers.specs.Readers.{reading, OfBindings, OfGlobals, Readers}
use Rattle.readers.specs.Laws.Zero.{zero_resolves}

lists_same : {x y : Lists} → x.starts ≡ y.starts → x.counts ≡ y.counts → x.list ≡ y.list → x.global_starts ≡ y.global_starts → x.global_counts ≡ y.global_counts → x.global_list ≡ y.global_list → x ≡ y
lists_same {x} {y} s c l gs gc gl =
    let z : lists x.starts x.counts x.list x.global_starts x.global_counts x.global_list ≡ lists y.starts y.counts y.list y.global_starts y.global_counts y.global_list = cc in z

answer_same : {a c : Answer} → a.number ≡ c.number → a.bindings ≡ c.bindings → a.«module» ≡ c.«module» → a.slots ≡ c.slots → a.copies ≡ c.copies → a.errors ≡ c.errors → a ≡ c
answer_same {a} {c} n b m s k e =
    let z : ◌≡◌ {A = Answer} (record { number = a.number; bindings = a.bindings; «module» = a.«module»; slots = a.slots; copies = a.copies; errors = a.errors })
    (record { number = c.number; bindings = c.bindings; «module» = c.«module»; slots = c.slots; copies = c.copies; errors = c.errors }) = cc in z

refused_same : {b b₁ b₂ : Buffers} {a c : Answer} → a.number ≡ c.number → Refused b a b₁ → Refused b c b₂ → (a ≡ c) × (b₁ ≡ b₂)
refused_same {b} {b₁} {b₂} {a} {c} n x y = (
  answer_same n (x.bindings ∙ sym y.bindings) (x.module_entries ∙ sym y.module_entries) (x.slots ∙ sym y.slots) (x.copies ∙ sym y.copies) (x.errors ∙ sym y.errors),
  buffers_same (x.zeroed.nodes ∙ sym y.zeroed.nodes) (x.zeroed.bindings ∙ sym y.zeroed.bindings) (x.zeroed.entries ∙ sym y.zeroed.entries) (x.zeroed.scopes ∙ sym y.zeroed.scopes) (x.zeroed.slots ∙ sym y.zeroed.slots) (x.zeroed.copies ∙ sym y.zeroed.copies) (x.zeroed.errors ∙ sym y.zeroed.errors),
)
  where
    buffers_same : {x y : Buffers} → x.nodes ≡ y.nodes → x.bindings ≡ y.bindings → x.entries ≡ y.entries → x.scopes ≡ y.scopes → x.slots ≡ y.slots → x.copies ≡ y.copies → x.errors ≡ y.errors → x ≡ y
    buffers_same {x} {y} n b m s l k e =
        let z : buffers x.nodes x.bindings x.entries x.scopes x.slots x.copies x.errors ≡ buffers y.nodes y.bindings y.entries y.scopes y.slots y.copies y.errors = cc in z

module _ {bs : List ℕ} {b b₁ b₂ : Buffers} {l l₁ l₂ : Lists} {a c : Answer} (r : Readers bs b l a b₁ l₁) (s : Readers bs b l c b₂ l₂) where
  number : a.number ≡ c.number
  number = first_one (reading bs b l) r.number s.number

  -- the six of one answer are grouped by the same keys as those of the other
  accepted : a.number ≡ 0 → (a ≡ c) × (b₁ ≡ b₂) × (l₁ ≡ l₂)
  accepted z =
      let q : c.number ≡ 0 = sym number ∙ z in
      let (e, d) = same_answer (zero_resolves r z) (zero_resolves s q) in
      let n : b₂.nodes ≡ b₁.nodes = ap (λ (x : Buffers). x.nodes) (sym d) in
      let k : c.bindings ≡ a.bindings = ap (λ (x : Answer). x.bindings) (sym e) in
      let x = r.of_bindings z in
      let y : OfBindings bs b₁.nodes a.bindings l l₂ = rw (← n, ← k) (s.of_bindings q) in
      let u = r.of_globals z in
      let v : OfGlobals bs b₁.nodes l l₂ = rw (← n) (s.of_globals q) in
      (e, d, lists_same (x.of_starts ∙ sym y.of_starts) (x.of_counts ∙ sym y.of_counts) (x.of_list ∙ sym y.of_list) (u.of_starts ∙ sym v.of_starts) (u.of_counts ∙ sym v.of_counts) (u.of_list ∙ sym v.of_list))

  refused : (a.number ≡ 0 → ⊥) → (a ≡ c) × (b₁ ≡ b₂) × (l₁ ≡ l₂)
  refused z =
      let q : c.number ≡ 0 → ⊥ = λ e. z (number ∙ e) in
      let (e, d) = refused_same number (r.refused z) (s.refused q) in
      let x = r.cleared z in
      let y = s.cleared q in
      (e, d, lists_same (x.starts ∙ sym y.starts) (x.counts ∙ sym y.counts) (x.list ∙ sym y.list) (x.global_starts ∙ sym y.global_starts) (x.global_counts ∙ sym y.global_counts) (x.global_list ∙ sym y.global_list))

  pub readers_one : (a ≡ c) × (b₁ ≡ b₂) × (l₁ ≡ l₂)
  readers_one = elim (ℕ_discrete a.number 0) [ yes z ↦ accepted z | no z ↦ refused z ]
