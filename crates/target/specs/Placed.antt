-- The bindings of a block's variables: the k-th variable's number is k more than the block's first.
use Prim.Native.Nat.{ℕ, zero, suc, ◌+◌}
use Rattle.std.specs.Prelude.{◌≡◌, eqb, set}
use Rattle.std.proofs.Math.Path.{refl}
use Rattle.std.proofs.Common.{ap, zero-add}
use Rattle.std.proofs.Math.Bool.{cond}
use mathlib.Core.List.{List, [], ◌∷◌}
use Rattle.std.proofs.Math.Option.{Option, none, some}
use native.Mathlib.Omega.{arith}
use Rattle.std.proofs.Math.ListN.{get_elem?}
use Rattle.lexical.specs.Lists.{place, first, map_o, none-some, Opened, absent, present, opened}
use Rattle.lexical.specs.Binders.{Var}
use Rattle.lexical.specs.State.{Binding}
use Rattle.lexical.specs.Block.{called}
use Rattle.lexical.specs.Records.{name_row}
use Rattle.store.specs.Blocks.{BlockEnv, titles, placed, placed_from}
use Rattle.target.specs.Noted.{PlaceIn, here, behind, nowhere, place_in, place_var}

module _ (E : BlockEnv) where
  placed_from_lem : (k : ℕ) (vs : List Var) (i : ℕ) → get_elem? (placed_from E k vs) i ≡ map_o (placed E (k + i)) (get_elem? vs i)
  unfolding placed_from map_o
  placed_from_lem k [] i = refl
  placed_from_lem k (v ∷ vs) zero = let e : k + 0 ≡ k = omega arith in rw e refl
  placed_from_lem k (v ∷ vs) (suc i) = let e : suc k + i ≡ k + suc i = omega arith in rw (← e) (placed_from_lem (suc k) vs i)

  set-from : (k : ℕ) (vs : List Var) (i : ℕ) (v : Var) → placed_from E k (set vs i v) ≡ set (placed_from E k vs) i (placed E (k + i) v)
  unfolding placed_from
  set-from k [] i v = refl
  set-from k (x ∷ vs) zero v = let e : k + 0 ≡ k = omega arith in rw e refl
  set-from k (x ∷ vs) (suc i) v = let e : suc k + i ≡ k + suc i = omega arith in rw (← e) (ap (λ (l : List Binding). placed E k x ∷ l) (set-from (suc k) vs i v))

  -- by name
  found_from : (k : ℕ) (vs : List Var) (n i : ℕ) (v : Var) → place n (titles vs) ≡ some i → get_elem? vs i ≡ some v → first (called n) (placed_from E k vs) ≡ some (placed E (k + i) v)
  unfolding placed_from first called placed
  found_from k [] n i v e a = absurd (none-some refl a)
  found_from k (x ∷ vs) n i v e a = go _ (place_in n x.name (titles vs)) e (found_from (suc k) vs n)
    where
      go : (o : Option ℕ) → PlaceIn n x.name (titles vs) o → o ≡ some i → ((i : ℕ) (v : Var) → place n (titles vs) ≡ some i → get_elem? vs i ≡ some v → first (called n) (placed_from E (suc k) vs) ≡ some (placed E (suc k + i) v))
          → cond (eqb x.name n) (some (placed E k x)) (first (called n) (placed_from E (suc k) vs)) ≡ some (placed E (k + i) v)
      go o (here q) e r = let z : 0 ≡ i = cc in let b : some x ≡ some v = rw (← z) at a in let y : x ≡ v = cc in let s : k + i ≡ k = omega arith in rw (q, y, s) refl
      go o (behind j q p) e r = let z : suc j ≡ i = cc in let s : suc k + j ≡ k + i = omega arith in rw (q, ← s) (r j v p (rw (← z) at a))
      go o (nowhere q p) e r = absurd (none-some refl e)

  missed_from : (k : ℕ) (vs : List Var) (n : ℕ) → place n (titles vs) ≡ none → first (called n) (placed_from E k vs) ≡ none
  unfolding placed_from first called placed
  missed_from k [] n e = refl
  missed_from k (x ∷ vs) n e = go _ (place_in n x.name (titles vs)) e (missed_from (suc k) vs n)
    where
      go : (o : Option ℕ) → PlaceIn n x.name (titles vs) o → o ≡ none → (place n (titles vs) ≡ none → first (called n) (placed_from E (suc k) vs) ≡ none)
          → cond (eqb x.name n) (some (placed E k x)) (first (called n) (placed_from E (suc k) vs)) ≡ none
      go o (here q) e r = absurd (none-some e refl)
      go o (behind j q p) e r = absurd (none-some e refl)
      go o (nowhere q p) e r = rw q (r p)

  -- ---- from the block's first on

  pub placed_at : (vs : List Var) (i : ℕ) → get_elem? (placed_from E 0 vs) i ≡ map_o (placed E i) (get_elem? vs i)
  placed_at vs i = rw zero-add at (placed_from_lem 0 vs i)

  pub placed_set : (vs : List Var) (i : ℕ) (v : Var) → placed_from E 0 (set vs i v) ≡ set (placed_from E 0 vs) i (placed E i v)
  placed_set vs i v = rw zero-add at (set-from 0 vs i v)

  pub placed_found : (vs : List Var) (n i : ℕ) (v : Var) → place n (titles vs) ≡ some i → get_elem? vs i ≡ some v → first (called n) (placed_from E 0 vs) ≡ some (placed E i v)
  placed_found vs n i v e a = rw zero-add at (found_from 0 vs n i v e a)

  pub placed_missed : (vs : List Var) (n : ℕ) → place n (titles vs) ≡ none → first (called n) (placed_from E 0 vs) ≡ none
  placed_missed vs n e = missed_from 0 vs n e

  -- a Name's row, by its name's place
  unfoldable pub place_row : ℕ → Option ℕ → List ℕ
  place_row at none = at ∷ 0 ∷ 0 ∷ 0 ∷ []
  place_row at (some k) = at ∷ cond E.local 2 1 ∷ E.slot_at k ∷ (E.first + k) ∷ []

  pub row_placed : (vs : List Var) (at n : ℕ) → name_row at (first (called n) (placed_from E 0 vs)) ≡ place_row at (place n (titles vs))
  unfolding name_row place_row placed
  row_placed vs at n = go (opened (place n (titles vs)))
    where
      go : Opened (place n (titles vs)) → name_row at (first (called n) (placed_from E 0 vs)) ≡ place_row at (place n (titles vs))
      go (absent e) = rw (e, placed_missed vs n e) refl
      go (present k e) = let v = place_var n vs k e in rw (e, placed_found vs n k v.0 e v.1) refl
