-- T3's words: any scheme of copies, in which each function takes an outer local only from the function or module directly around it, a slot holds one binding's value, and every local is at hand where it is looked up.
use Rattle.std.specs.Prelude.{◌≡◌, ◌⊎◌, List, [], ◌∷◌, ℕ, eqb}
use Rattle.std.proofs.Math.Option.{Option, none, some}
use Rattle.lexical.specs.Lists.{picked, count}
use Rattle.lexical.specs.State.{Binding, Found, St, Copy}
use Rattle.lexical.specs.Follow.{value_in}
use Rattle.lexical.specs.Claims.{OfLocal}

-- how many copies there are into scope t
abbrev pub copies_into : ℕ → List Copy → ℕ
copies_into t cs = count (λ (c : Copy). eqb c.scope t) cs

-- any scheme: for each scope its copies, from a slot of the scope directly around to a slot; each slot holds one binding's value
pub record Scheme : Type 0 where
  pub copies : ℕ → List (ℕ × ℕ)
  pub value : ℕ → ℕ → ℕ

abbrev pub Copies : ℕ → ℕ → List (ℕ × ℕ) → Type 0
Copies p k [] = ⊥
Copies p k (c ∷ cs) = ((c.0 ≡ p) × (c.1 ≡ k)) ⊎ Copies p k cs

-- slot k of the first of these scopes has b's value, its own there or copied from the scope around
abbrev pub AtHand : Scheme → List ℕ → ℕ → Binding → Type 0
AtHand S [] k b = ⊥
AtHand S (s ∷ ss) k b = (S.value s k ≡ b.id) × ((s ≡ b.owner) ⊎ ((p : ℕ) × Copies p k (S.copies s) × AtHand S ss p b))

-- the local of a lookup is at hand where it is looked up, one refused in a type too
abbrev pub Serves : Scheme → List ℕ → Found → Type 0
Serves S ss f = OfLocal (λ b k. (j : ℕ) × AtHand S ss j b) f

-- and ours is such a scheme, so the bound is met
unfoldable pub pairs : ℕ → List Copy → List (ℕ × ℕ)
pairs s cs = picked (λ (c : Copy). eqb c.scope s) (λ c. (c.parent, c.child)) cs

unfoldable pub or_zero : Option ℕ → ℕ
or_zero none = 0
or_zero (some i) = i

unfoldable pub ours : St → Scheme
ours st = record { copies = λ s. pairs s st.copies; value = λ s k. or_zero (value_in s k st.slots) }
