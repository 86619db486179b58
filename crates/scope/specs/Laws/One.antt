-- No second answer fits `Resolves`: the number is one, the tree is one, and each clause fixes a count or a whole buffer.
use Rattle.std.specs.Prelude.{ℕ, ◌≡◌, List}
use Rattle.std.proofs.Common.{sym, ◌∙◌}
use Rattle.std.proofs.Math.Decide.{ℕ_discrete}
use Rattle.base.specs.First.{first_one}
use Rattle.answer.specs.declared.Answer.{Answer}
use Rattle.answer.specs.Buffers.{Buffers, buffers}
use Rattle.scope.specs.Answer.{resolving, Resolves}
use Rattle.scope.specs.Laws.Accepts.{judged_tree}
use Rattle.scope.specs.Laws.Zero.{zero_accepted}

answer_same : {a c : Answer} → a.number ≡ c.number → a.bindings ≡ c.bindings → a.«module» ≡ c.«module» → a.slots ≡ c.slots → a.copies ≡ c.copies → a.errors ≡ c.errors → a ≡ c
answer_same {a} {c} n b m s k e =
    let z : ◌≡◌ {A = Answer} (record { number = a.number; bindings = a.bindings; «module» = a.«module»; slots = a.slots; copies = a.copies; errors = a.errors })
    (record { number = c.number; bindings = c.bindings; «module» = c.«module»; slots = c.slots; copies = c.copies; errors = c.errors }) = cc in z

buffers_same : {x y : Buffers} → x.nodes ≡ y.nodes → x.bindings ≡ y.bindings → x.entries ≡ y.entries → x.scopes ≡ y.scopes → x.slots ≡ y.slots → x.copies ≡ y.copies → x.errors ≡ y.errors → x ≡ y
buffers_same {x} {y} n b m s l k e =
    let z : buffers x.nodes x.bindings x.entries x.scopes x.slots x.copies x.errors ≡ buffers y.nodes y.bindings y.entries y.scopes y.slots y.copies y.errors = cc in z

pub same_answer : {bs : List ℕ} {b b₁ b₂ : Buffers} {a c : Answer} → Resolves bs b a b₁ → Resolves bs b c b₂ → (a ≡ c) × (b₁ ≡ b₂)
same_answer {bs} {b} {b₁} {b₂} {a} {c} r s = elim (ℕ_discrete a.number 0) [ yes z ↦ accepted z | no z ↦ refused z ]
  where
    number : a.number ≡ c.number
    number = first_one (resolving bs b) r.number s.number

    accepted : a.number ≡ 0 → (a ≡ c) × (b₁ ≡ b₂)
    accepted z =
        let (root, t) = judged_tree (zero_accepted r z) in
        let x = r.given z root t in
        let y = s.given (sym number ∙ z) root t in (
          answer_same number (x.bindings ∙ sym y.bindings) (x.module_entries ∙ sym y.module_entries) (x.slots ∙ sym y.slots) (x.copies ∙ sym y.copies) (x.errors ∙ sym y.errors),
          buffers_same (x.nodes_hold ∙ sym y.nodes_hold) (x.bindings_hold ∙ sym y.bindings_hold) (x.entries_hold ∙ sym y.entries_hold) (x.scopes_hold ∙ sym y.scopes_hold) (x.slots_hold ∙ sym y.slots_hold) (x.copies_hold ∙ sym y.copies_hold) (x.errors_hold ∙ sym y.errors_hold),
        )

    refused : (a.number ≡ 0 → ⊥) → (a ≡ c) × (b₁ ≡ b₂)
    refused z =
        let x = r.refused z in
        let y = s.refused (λ e. z (number ∙ e)) in (
          answer_same number (x.bindings ∙ sym y.bindings) (x.module_entries ∙ sym y.module_entries) (x.slots ∙ sym y.slots) (x.copies ∙ sym y.copies) (x.errors ∙ sym y.errors),
          buffers_same (x.zeroed.nodes ∙ sym y.zeroed.nodes) (x.zeroed.bindings ∙ sym y.zeroed.bindings) (x.zeroed.entries ∙ sym y.zeroed.entries) (x.zeroed.scopes ∙ sym y.zeroed.scopes) (x.zeroed.slots ∙ sym y.zeroed.slots) (x.zeroed.copies ∙ sym y.zeroed.copies) (x.zeroed.errors ∙ sym y.zeroed.errors),
        )
