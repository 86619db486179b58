-- What is decided, so that "no fault" gives what the fault denies.
use Rattle.std.specs.Prelude.{ℕ, List, [], ◌∷◌, length}
use Rattle.std.proofs.Common.{arith}
use Rattle.lexical.specs.Places.{In, Distinct}
use Rattle.lexical.specs.Claims.{Once}
use Rattle.lexical.proofs.Theory.Pigeon.{has}
use Rattle.lexical.proofs.Laws.Scopes.{once_filled}
use Rattle.base.specs.Says.{unless}
use Rattle.scoping.specs.Scopes.{EachOnce}

distinct_dec : (xs : List ℕ) → Dec (Distinct xs)
distinct_dec [] = yes tt
distinct_dec (x ∷ xs) = pick (has x xs) (distinct_dec xs)
  where
    pick : Dec (In x xs) → Dec (Distinct xs) → Dec (Distinct (x ∷ xs))
    pick (yes m) d = no (λ h. h.0 m)
    pick (no n) (yes d) = yes (n, d)
    pick (no n) (no d) = no (λ h. d h.1)

pub distinct_not : (xs : List ℕ) → ((Distinct xs → ⊥) → ⊥) → Distinct xs
distinct_not xs n = elim (distinct_dec xs) [ yes d ↦ d | no d ↦ absurd (n d) ]

pub each-not : (xs : List ℕ) → ((EachOnce xs → ⊥) → ⊥) → EachOnce xs
each-not xs n = record { all = once_filled xs each; once = each }
  where
    each : Once xs
    each = record {
      apart = distinct_not xs (λ d. n (λ o. d o.once.apart));
      low = λ v m. unless 1 v n (λ l. λ o. omega (arith, o.once.low v m));
      high = λ v m. unless v (length xs) n (λ l. λ o. omega (arith, o.once.high v m));
    }
