-- How many nodes pass a test.
--     passing-tally    the length of the list of those that do
--     tally_like       tests that say the same
--     tally-both       two tests of which at most one passes, and a third that says whether one does
use Rattle.std.specs.Prelude.{ℕ, zero, suc, ◌+◌, ◌<◌, ◌≡◌, refl, Bool, true, false, cond, ◌∷◌, [], length}
use Rattle.std.proofs.Common.{ap, arith, length-append}
use Rattle.base.specs.UpTo.{tally}
use Rattle.group.specs.Passing.{passing, passing-yes, passing_no}

-- 1 where a test passes
abbrev pub one : Bool → ℕ
one b = cond b 1 0

tally-suc : (p : ℕ → Bool) (n : ℕ) → tally p (suc n) ≡ tally p n + one (p n)
unfolding tally
tally-suc p n = go (p n)
  where
    go : (b : Bool) → cond b (suc (tally p n)) (tally p n) ≡ tally p n + one b
    go true = omega arith
    go false = omega arith

pub passing-tally : (p : ℕ → Bool) (n : ℕ) → length (passing p n) ≡ tally p n
unfolding passing tally
passing-tally p zero = refl
passing-tally p (suc n) = go (p n) refl (passing-tally p n)
  where
    go : (b : Bool) → p n ≡ b → length (passing p n) ≡ tally p n → length (passing p (suc n)) ≡ tally p (suc n)
    go true e h = omega (arith, ap length (passing-yes p n e), length-append (passing p n) (n ∷ []), tally-suc p n, ap one e)
    go false e h = omega (arith, ap length (passing_no p n e), tally-suc p n, ap one e)

pub tally_like : (p q : ℕ → Bool) (n : ℕ) → ((i : ℕ) → i < n → p i ≡ q i) → tally p n ≡ tally q n
unfolding tally
tally_like p q zero h = refl
tally_like p q (suc n) h = omega (arith, tally-suc p n, tally-suc q n, ap one (h n (omega arith)), tally_like p q n (λ i l. h i (omega arith)))

pub tally-both : (p q r : ℕ → Bool) (n : ℕ) → ((i : ℕ) → i < n → one (p i) + one (q i) ≡ one (r i)) → tally p n + tally q n ≡ tally r n
unfolding tally
tally-both p q r zero h = refl
tally-both p q r (suc n) h = omega (arith, tally-suc p n, tally-suc q n, tally-suc r n, h n (omega arith), tally-both p q r n (λ i l. h i (omega arith)))
