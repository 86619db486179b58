-- The first copy that fills a slot, one record after the other; and the last of some scopes. Assumes nothing.
use Prim.Native.Nat.{ℕ, ◌+◌, ◌≤◌, ◌<◌}
use mathlib.Core.Path.{◌≡◌, refl, ap, ◌∙◌}
use mathlib.Core.Bool.{true, false}
use mathlib.Core.List.{List, [], ◌∷◌, ◌++◌, reverse, reverse-append}
use native.Mathlib.Omega.{arith}
use native.Mathlib.Numerals.{add-one}
use lib.ListN.{length, get_or, drop, drop_of_length-le}
use lib.Seq.{drop-cons}
use Rattle.std.specs.Prelude.{None, Some}
use Rattle.std.proofs.Math.Option as math
use Rattle.lexical.specs.Lists.{first, map_o}
use Rattle.lexical.specs.Follow.{copy_to, from_in, follow_by, follow}
use Rattle.answer.specs.Records.{copy_parent}
use Rattle.answer.specs.declared.ids.LocalSlotId.{LocalSlotId}
use Rattle.follow.specs.declared.Place.{Place}
use Rattle.follow.specs.Place.{copy_of, copies_of, from_of, place_of, followed}

pub from_next : (cs : List ℕ) (s k c : ℕ) → c < length cs → copy_to s k (copy_of (get_or cs c 0)) ≡ false → from_in s k (copies_of (drop (c + 1) cs)) ≡ from_in s k (copies_of (drop c cs))
unfolding from_in first
from_next cs s k c h e = rw (add-one c, drop-cons cs c 0 h, e) refl

pub from_here : (cs : List ℕ) (s k c : ℕ) → c < length cs → copy_to s k (copy_of (get_or cs c 0)) ≡ true → from_in s k (copies_of (drop c cs)) ≡ math.some (copy_parent (get_or cs c 0))
unfolding from_in first map_o
from_here cs s k c h e = rw (drop-cons cs c 0 h, e) refl

pub from-none : (cs : List ℕ) (s k c : ℕ) → length cs ≤ c → from_in s k (copies_of (drop c cs)) ≡ math.none
unfolding from_in first map_o
from-none cs s k c h = rw (drop_of_length-le cs {i = c} h) refl

pub follow-none : (cs l : List ℕ) (k : ℕ) → length l ≡ 0 → (0, k) ≡ follow (copies_of cs) (reverse l) k
unfolding follow
follow-none cs [] k e = refl
follow-none cs (x ∷ l) k e = let z : ⊥ = omega arith in absurd z

-- what code found of a slot
pub is_own : (o : math.Option ℕ) → None ≡ from_of o → o ≡ math.none
is_own math.none e = refl
is_own (math.some p) e = absurd (let z : ◌≡◌ {A = ℕ} 0 1 = cc in omega arith)

pub is_parent : (o : math.Option ℕ) (p : LocalSlotId) → Some p ≡ from_of o → o ≡ math.some p.0
is_parent math.none p e = absurd (let z : ◌≡◌ {A = ℕ} 0 1 = cc in omega arith)
is_parent (math.some q) p e = let z : record { 0 = q } ≡ p = cc in ap (λ (x : LocalSlotId). math.some x.0) z

-- the last of some scopes comes first on the way outward
module _ (cs l rest : List ℕ) (s k : ℕ) (e : l ≡ rest ++ (s ∷ [])) where
  outward : reverse l ≡ s ∷ reverse rest
  outward = ap reverse e ∙ reverse-append rest (s ∷ [])

  pub placed : None ≡ from_of (from_in s k (copies_of cs)) → place_of (s, k) ≡ followed cs l k
  unfolding follow follow_by
  placed q = rw (outward, is_own (from_in s k (copies_of cs)) q) refl

  pub onward : (p : LocalSlotId) → Some p ≡ from_of (from_in s k (copies_of cs)) → (r : Place) → r ≡ followed cs rest p.0 → r ≡ followed cs l k
  unfolding follow follow_by
  onward p q r h = h ∙ rw (outward, is_parent (from_in s k (copies_of cs)) p q) refl
