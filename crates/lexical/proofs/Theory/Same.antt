-- What binding a block's variables and bringing a local inward leave as it was.
use Rattle.std.proofs.Common.{◌∙◌}
use Rattle.std.specs.Prelude.{◌≡◌, List, [], ◌∷◌, ℕ}
use Rattle.std.proofs.Math.Path.{refl}
use Rattle.std.proofs.Math.Option.{Option, none, some}
use Rattle.lexical.specs.Binders.{Var}
use Rattle.lexical.specs.State.{Binding, St}
use Rattle.lexical.specs.Block.{new, add, bind}
use Rattle.lexical.specs.Third.{hand, copy_in, bring_to, bring}

pub bind-named : (s : ℕ) (vs : List Var) (st : St) → (bind s vs st).1.named ≡ st.named
unfolding bind add
bind-named s [] st = refl
bind-named s (v ∷ vs) st = bind-named s vs (add s (new s v st) st)

pub bind_copies : (s : ℕ) (vs : List Var) (st : St) → (bind s vs st).1.copies ≡ st.copies
unfolding bind add
bind_copies s [] st = refl
bind_copies s (v ∷ vs) st = bind_copies s vs (add s (new s v st) st)

pub bind_log : (s : ℕ) (vs : List Var) (st : St) → (bind s vs st).1.log ≡ st.log
unfolding bind add
bind_log s [] st = refl
bind_log s (v ∷ vs) st = bind_log s vs (add s (new s v st) st)

-- any part of the state that a copy leaves as it is
bring_same : {A : Type 0} (p : St → A) → ((s : ℕ) (b : Binding) (r : ℕ × St) → p (copy_in s b r).1 ≡ p r.1) → (ss : List ℕ) (b : Binding) (st : St) → p (bring ss b st).1 ≡ p st
unfolding bring
bring_same p h [] b st = refl
bring_same p h (s ∷ ss) b st = go (hand s b.id st) (bring_same p h ss b st)
  where
    go : (o : Option ℕ) → p (bring ss b st).1 ≡ p st → p (bring_to o s b st (bring ss b st)).1 ≡ p st
    go none e = unfold bring_to in (h s b (bring ss b st) ∙ e)
    go (some k) e = unfold bring_to in refl

pub bring_made : (ss : List ℕ) (b : Binding) (st : St) → (bring ss b st).1.made ≡ st.made
bring_made = bring_same (λ st. st.made) (λ s b r. unfold copy_in in refl)

pub bring-named : (ss : List ℕ) (b : Binding) (st : St) → (bring ss b st).1.named ≡ st.named
bring-named = bring_same (λ st. st.named) (λ s b r. unfold copy_in in refl)

pub bring_log : (ss : List ℕ) (b : Binding) (st : St) → (bring ss b st).1.log ≡ st.log
bring_log = bring_same (λ st. st.log) (λ s b r. unfold copy_in in refl)
