-- The copies in the buffer, read back: following them leads where `lexical`'s copies lead, and as many are into each scope.
--     copies_read   the copies' records
--     follow_read   following them
--     into_read     how many are into a scope
use Rattle.std.specs.Prelude.{ℕ, suc, ◌<◌, ◌≡◌, refl, cond, List, [], ◌∷◌, map, reverse, eqb, length, get_or, take}
use Rattle.std.proofs.Common.{sym, ap, ◌∙◌, arith, take_at}
use Rattle.std.proofs.lemmas.Simd.{map-map}
use Rattle.std.proofs.lemmas.List.{reverse-reverse, length-map}
use Rattle.std.proofs.Math.Option.{Option, none, some}
use Rattle.lexical.specs.Lists.{first, count, map_o_cond}
use Rattle.lexical.specs.Places.{All}
use Rattle.lexical.specs.State.{Copy}
use Rattle.lexical.specs.Follow.{copy_to, from_in, follow_by, follow}
use Rattle.lexical.specs.Schemes.{copies_into}
use Rattle.lexical.specs.Records.{copy_row}
use Rattle.target.specs.Alike.{map_like}
use Rattle.follow.specs.Place as place
use Rattle.follow.specs.Place.{copies_of, followed, place_of}
use Rattle.answer.specs.Buffers.{Front}
use Rattle.answer.specs.Fields.{part}
use Rattle.answer.specs.Records.{copy_widths, copy_of, copy_scope, copy_parent, copy_child}
use Rattle.answer.specs.Laws.{part-packed}

-- a copy without its binding, which its record does not tell
abbrev pub bare : Copy → Copy
bare c = record { scope = c.scope; parent = c.parent; child = c.child; id = 0 }

abbrev pub CopyFits : Copy → Type 0
CopyFits c = (c.scope < 256) × (c.parent < 4096) × (c.child < 4096)

copy_read : (c : Copy) → CopyFits c → place.copy_of (copy_of (copy_row c)) ≡ bare c
copy_read c h =
    let x : copy_scope (copy_of (copy_row c)) ≡ c.scope = read 0 (omega arith) in
    let y : copy_parent (copy_of (copy_row c)) ≡ c.parent = read 1 (omega arith) in
    let z : copy_child (copy_of (copy_row c)) ≡ c.child = read 2 (omega arith) in
    rw (x, y, z)
  where
    read : (k : ℕ) → k < 3 → part copy_widths k (copy_of (copy_row c)) ≡ get_or (copy_row c) k 0
    read = part-packed copy_widths (copy_row c) (h.0, (h.1, (h.2, tt)))

from-bare : (s k : ℕ) (cs : List Copy) → from_in s k (map bare cs) ≡ from_in s k cs
unfolding from_in first copy_to
from-bare s k [] = refl
from-bare s k (c ∷ cs) = map_o_cond _ (copy_to s k c) (bare c) _ ∙ ap (cond (copy_to s k c) (some c.parent)) (from-bare s k cs) ∙ sym (map_o_cond _ (copy_to s k c) c _)

follow-bare : (cs : List Copy) (ss : List ℕ) (k : ℕ) → follow (map bare cs) ss k ≡ follow cs ss k
unfolding follow follow_by
follow-bare cs [] k = refl
follow-bare cs (s ∷ ss) k = rw (from-bare s k cs) (go (from_in s k cs) (λ p. follow-bare cs ss p))
  where
    go : (o : Option ℕ) → ((p : ℕ) → follow (map bare cs) ss p ≡ follow cs ss p) → follow_by o (s, k) (λ p. follow (map bare cs) ss p) ≡ follow_by o (s, k) (λ p. follow cs ss p)
    go none r = refl
    go (some p) r = r p

into_bare : (t : ℕ) (cs : List Copy) → count (λ (c : Copy). eqb c.scope t) (map bare cs) ≡ count (λ (c : Copy). eqb c.scope t) cs
unfolding count
into_bare t [] = refl
into_bare t (c ∷ cs) = ap (λ (n : ℕ). cond (eqb c.scope t) (suc n) n) (into_bare t cs)

module _ (cs : List Copy) (fits : All CopyFits cs) (l : List ℕ) (n : ℕ) (f : Front l n (map copy_of (map copy_row cs))) where
  pub copies_read : copies_of (take (length cs) l) ≡ map bare cs
  copies_read =
      ap (λ (x : List ℕ). map place.copy_of (take (length cs) x)) f
      ∙ ap (map place.copy_of) (take_at (map copy_of (map copy_row cs)) _ (length cs) (length-map (map copy_row cs) copy_of ∙ length-map cs copy_row))
      ∙ map-map place.copy_of copy_of (map copy_row cs) ∙ map-map (λ (r : List ℕ). place.copy_of (copy_of r)) copy_row cs
      ∙ map_like _ bare cs (λ j c e. copy_read c (fits j c e))

  -- through some scopes, innermost first
  pub follow_read : (ss : List ℕ) (k : ℕ) → followed (take (length cs) l) (reverse ss) k ≡ place_of (follow cs ss k)
  follow_read ss k = ap place_of (ap (λ (x : List Copy). follow x (reverse (reverse ss)) k) copies_read ∙ ap (λ (x : List ℕ). follow (map bare cs) x k) (reverse-reverse ss) ∙ follow-bare cs ss k)

  pub into_read : (t : ℕ) → copies_into t (copies_of (take (length cs) l)) ≡ copies_into t cs
  into_read t = ap (copies_into t) copies_read ∙ into_bare t cs
