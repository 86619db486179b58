-- A walk over siblings that takes one node after the other off what is left of them: `nodefile`'s `Left`, at byte 0 of what is left.
use Rattle.std.specs.Prelude.{ℕ, ◌+◌, ◌-◌, ◌*◌, ◌≤◌, ◌<◌, ◌≡◌, Bool, true, false, eqb, List, length, take, drop}
use Rattle.std.proofs.Common.{sym, ◌∙◌, arith, zero-add}
use Rattle.std.proofs.lemmas.Bool.{eqb-false, eqb-true}
use Rattle.base.specs.Parts.{part-from}
use Rattle.nodefile.specs.Node.{size_of}
use Rattle.nodefile.specs.Reads.{Reads}
use Rattle.nodefile.specs.Parts.{Walk, Left}
use Rattle.nodefile.proofs.Laws.Parts.{left_split, left_one, left_more}

module _ {X : Type 0} (S : Walk X) {K : X → Type 0} {rest : List ℕ} {n : ℕ} {end : X} (l : Left S K rest n 0 end) (h : 0 < length rest) (k : ℕ) (hk : k ≡ size_of rest) where
  pub rest_sizes : (0 < k) × (8 * k ≤ length rest)
  rest_sizes = let p = left_split S l h in omega (arith, p.some, p.inside)

  -- `&rest[..8 * k]` is the first node
  pub rest_one : Reads (take (8 * k) rest) n (left_one S l h)
  rest_one = rw hk (left_split S l h).one

  -- and `&rest[8 * k..]` what is left after it
  pub rest_more : (K' : X → Type 0) → K' (S.over (left_one S l h) l.x) → Left S K' (take (length rest - 8 * k) (drop (8 * k) rest)) (n + k) 0 end
  rest_more K' y =
      let q = left_more S l h k hk K' y in
      rw (part-from rest (8 * k)) (record { f = q.f; x = q.x; reads = rw zero-add at q.reads; fine = q.fine; known = q.known; same = q.same })

-- what the test of such a loop says
pub some_left : (n : ℕ) {b : Bool} → b ≡ eqb n 0 → b ≡ false → 0 < n
some_left n q e = omega (arith, eqb-false n 0 (sym q ∙ e))

pub none_left : (n : ℕ) {b : Bool} → b ≡ eqb n 0 → b ≡ true → n ≡ 0
none_left n q e = eqb-true n 0 (sym q ∙ e)
