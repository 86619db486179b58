-- The numbers from 0 on that pass a test, as an iterator counts them, are as many as `tally` says, and no more than the numbers.
use Rattle.std.specs.Prelude.{ℕ, zero, suc, ◌+◌, ◌<◌, ◌≡◌, refl, Bool, true, false, cond, List, ◌∷◌, length, filter}
use Rattle.std.proofs.Common.{sym, ap, ◌∙◌, arith, zero-add}
use Rattle.std.specs.List.{range_with_len}
use Rattle.std.proofs.lemmas.List.Sums.{length-filter, count_by-le-length}
use Rattle.std.proofs.lemmas.List.FromFn.{length-range_with_len}
use Rattle.base.specs.UpTo.{tally, tally-front}
use Rattle.nodefile.specs.Node.{Is}

one : (b : Bool) (x : ℕ) (xs : List ℕ) → length (cond b (x ∷ xs) xs) ≡ cond b (suc (length xs)) (length xs)
one true x xs = refl
one false x xs = refl

shift : (a i : ℕ) → a + 1 + i ≡ a + suc i
shift a i = omega arith

none : (a : ℕ) → a ≡ a + 0
none a = omega arith

tally_range : (p : ℕ → Bool) (a n : ℕ) → length (filter p (range_with_len a n)) ≡ tally (λ i. p (a + i)) n
unfolding tally
tally_range p a zero = refl
tally_range p a (suc n) =
    let k : length (filter p (range_with_len (a + 1) n)) ≡ tally (λ i. p (a + suc i)) n = tally_range p (a + 1) n ∙ simp shift in
    one (p a) a (filter p (range_with_len (a + 1) n))
    ∙ rw k (ap (λ (x : ℕ). cond (p x) (suc (tally (λ i. p (a + suc i)) n)) (tally (λ i. p (a + suc i)) n)) (none a))
    ∙ sym (tally-front (λ i. p (a + i)) n)

pub counted_is : (p : ℕ → Bool) (n m r : ℕ) → n < m → r ≡ length (filter p (range_with_len 0 n)) → Is (tally p n) m r
counted_is p n m r h e = record {
  is = e ∙ tally_range p 0 n ∙ simp zero-add;
  below = omega (arith, e, length-filter p (range_with_len 0 n), count_by-le-length p (range_with_len 0 n), length-range_with_len 0 n);
}
