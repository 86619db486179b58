-- What the answer of a test says of a statement: true that it holds, false that it does not.
use Rattle.std.specs.Prelude.{ℕ, ◌≤◌, ◌<◌, ◌≡◌, refl, Bool, true, false}
use Rattle.std.proofs.Common.{subst, arith}
use Rattle.std.proofs.Math.Decide.{dec_lt, ℕ_discrete}

abbrev pub Says : Bool → Type 0 → Type 0
Says true P = P
Says false P = P → ⊥

pub says-true : {b : Bool} {P : Type 0} → b ≡ true → Says b P → P
says-true {b} {P} e h = subst (λ (x : Bool). Says x P) e h

pub says-false : {b : Bool} {P : Type 0} → b ≡ false → Says b P → P → ⊥
says-false {b} {P} e h = subst (λ (x : Bool). Says x P) e h

-- what holds where its other side would be a fault
pub unless : {P : Type 0} (a b : ℕ) → (P → ⊥) → (b < a → P) → a ≤ b
unless a b f g = elim (dec_lt b a) [ yes h ↦ absurd (f (g h)) | no h ↦ omega arith ]

pub unless_not : {P : Type 0} (a b : ℕ) → (P → ⊥) → ((a ≡ b → ⊥) → P) → a ≡ b
unless_not a b f g = elim (ℕ_discrete a b) [ yes e ↦ e | no n ↦ absurd (f (g n)) ]

pub holds : (b : Bool) → (b ≡ false → ⊥) → b ≡ true
holds true n = refl
holds false n = absurd (n refl)
