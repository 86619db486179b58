-- One target more in a block's variables: a name that the block has is changed where it stands, a new one stands at the end.
use Rattle.std.specs.Prelude.{ℕ, zero, suc, ◌≤◌, ◌≡◌, refl, true, false, cond, List, [], ◌∷◌, ◌++◌, eqb, length, set}
use Rattle.std.proofs.Common.{ap, arith, length-append, length-set}
use Rattle.std.proofs.lemmas.List.{map-append}
use Rattle.std.proofs.Math.Option.{Option, none, some}
use Rattle.std.proofs.Math.ListN.{get_elem?}
use Rattle.lexical.specs.Lists.{place, map_o, or_else, or_else_none, none-some, eqb-true, eqb_self, eqb-not, Tested, was, wasnt, tested, Opened, absent, present, opened}
use Rattle.lexical.specs.Binders.{Target, Var, new_var, again, note, merge}
use Rattle.store.specs.Blocks.{titles}
use Rattle.store.proofs.Laws.Names.{place_snoc}
use Rattle.target.specs.Alike.{map-set}

-- ---- the place of a name

-- by the first name of a list: it is this one, or the place is in the rest
pub data PlaceIn (n x : ℕ) (xs : List ℕ) : Option ℕ → Type 0 where
  here : eqb x n ≡ true → PlaceIn n x xs (some 0)
  behind : (k : ℕ) → eqb x n ≡ false → place n xs ≡ some k → PlaceIn n x xs (some (suc k))
  nowhere : eqb x n ≡ false → place n xs ≡ none → PlaceIn n x xs none

pub place_in : (n x : ℕ) (xs : List ℕ) → PlaceIn n x xs (place n (x ∷ xs))
unfolding place map_o
place_in n x xs = go (tested (eqb x n)) (opened (place n xs))
  where
    go : Tested (eqb x n) → Opened (place n xs) → PlaceIn n x xs (cond (eqb x n) (some 0) (map_o suc (place n xs)))
    go (was q) o = rw q (here q)
    go (wasnt q) (absent e) = rw (q, e) (nowhere q e)
    go (wasnt q) (present k e) = rw (q, e) (behind k q e)

-- the variable at a name's place has that name
pub place_var : (n : ℕ) (vs : List Var) (k : ℕ) → place n (titles vs) ≡ some k → (v : Var) × (get_elem? vs k ≡ some v) × (v.name ≡ n)
unfolding place
place_var n [] k e = absurd (none-some refl e)
place_var n (x ∷ vs) k e = go _ (place_in n x.name (titles vs)) e (place_var n vs)
  where
    go : (o : Option ℕ) → PlaceIn n x.name (titles vs) o → o ≡ some k → ((j : ℕ) → place n (titles vs) ≡ some j → (v : Var) × (get_elem? vs j ≡ some v) × (v.name ≡ n))
        → (v : Var) × (get_elem? (x ∷ vs) k ≡ some v) × (v.name ≡ n)
    go o (here q) e r = let z : 0 ≡ k = cc in (x, rw (← z) refl, eqb-true x.name n q)
    go o (behind j q p) e r = let z : suc j ≡ k = cc in let y = r j p in (y.0, rw (← z) y.1, y.2)
    go o (nowhere q p) e r = absurd (none-some refl e)

-- a place stays where it is when names follow
pub place_more : (n : ℕ) (xs ys : List ℕ) (k : ℕ) → place n xs ≡ some k → place n (xs ++ ys) ≡ some k
unfolding place map_o
place_more n [] ys k e = absurd (none-some refl e)
place_more n (x ∷ xs) ys k e = go _ (place_in n x xs) e (place_more n xs ys)
  where
    go : (o : Option ℕ) → PlaceIn n x xs o → o ≡ some k → ((j : ℕ) → place n xs ≡ some j → place n (xs ++ ys) ≡ some j) → place n ((x ∷ xs) ++ ys) ≡ some k
    go o (here q) e r = rw q e
    go o (behind j q p) e r = rw (q, r j p) e
    go o (nowhere q p) e r = absurd (none-some refl e)

-- a new name stands at the end; another has the place that it had
pub place-new : (n : ℕ) (xs : List ℕ) → place n xs ≡ none → place n (xs ++ (n ∷ [])) ≡ some (length xs)
unfolding or_else
place-new n xs e = rw (place_snoc n n xs, e, eqb_self n) refl

pub place_other : (n x : ℕ) (xs : List ℕ) → (x ≡ n → ⊥) → place n (xs ++ (x ∷ [])) ≡ place n xs
place_other n x xs h = rw (place_snoc n x xs, eqb-not x n h) (or_else_none (place n xs))

-- ---- one target more

-- a new name
pub note-new : (t : Target) (vs : List Var) → place t.name (titles vs) ≡ none → note t vs ≡ vs ++ (new_var t ∷ [])
unfolding note
note-new t [] e = refl
note-new t (v ∷ vs) e = go _ (place_in t.name v.name (titles vs)) e (note-new t vs)
  where
    go : (o : Option ℕ) → PlaceIn t.name v.name (titles vs) o → o ≡ none → (place t.name (titles vs) ≡ none → note t vs ≡ vs ++ (new_var t ∷ []))
        → cond (eqb v.name t.name) (again t v ∷ vs) (v ∷ note t vs) ≡ v ∷ (vs ++ (new_var t ∷ []))
    go o (here q) e r = absurd (none-some e refl)
    go o (behind j q p) e r = absurd (none-some e refl)
    go o (nowhere q p) e r = rw q (ap (λ (l : List Var). v ∷ l) (r p))

-- a known one
pub note_known : (t : Target) (vs : List Var) (k : ℕ) (v : Var) → place t.name (titles vs) ≡ some k → get_elem? vs k ≡ some v → note t vs ≡ set vs k (again t v)
unfolding note
note_known t [] k v e a = absurd (none-some refl a)
note_known t (x ∷ vs) k v e a = go _ (place_in t.name x.name (titles vs)) e (note_known t vs)
  where
    go : (o : Option ℕ) → PlaceIn t.name x.name (titles vs) o → o ≡ some k → ((j : ℕ) (v : Var) → place t.name (titles vs) ≡ some j → get_elem? vs j ≡ some v → note t vs ≡ set vs j (again t v))
        → cond (eqb x.name t.name) (again t x ∷ vs) (x ∷ note t vs) ≡ set (x ∷ vs) k (again t v)
    go o (here q) e r = let z : 0 ≡ k = cc in let b : some x ≡ some v = rw (← z) at a in let y : x ≡ v = cc in rw (q, ← z, ← y) refl
    go o (behind j q p) e r = let z : suc j ≡ k = cc in rw (q, ← z) (ap (λ (l : List Var). x ∷ l) (r j v p (rw (← z) at a)))
    go o (nowhere q p) e r = absurd (none-some refl e)

-- ---- the names

pub titles-new : (t : Target) (vs : List Var) → titles (vs ++ (new_var t ∷ [])) ≡ titles vs ++ (t.name ∷ [])
unfolding new_var
titles-new t vs = map-append (λ (v : Var). v.name) vs (new_var t ∷ [])

pub titles_known : (t : Target) (vs : List Var) (k : ℕ) (v : Var) → get_elem? vs k ≡ some v → titles (set vs k (again t v)) ≡ titles vs
unfolding again
titles_known t vs k v e = map-set (λ (v : Var). v.name) vs k v (again t v) e refl

-- a name that is there keeps its place, and a target's name is there
pub note-place : (t : Target) (vs : List Var) (n k : ℕ) → place n (titles vs) ≡ some k → place n (titles (note t vs)) ≡ some k
note-place t vs n k e = go (opened (place t.name (titles vs)))
  where
    go : Opened (place t.name (titles vs)) → place n (titles (note t vs)) ≡ some k
    go (absent q) = rw (note-new t vs q, titles-new t vs) (place_more n (titles vs) (t.name ∷ []) k e)
    go (present j q) = let v = place_var t.name vs j q in rw (note_known t vs j v.0 q v.1, titles_known t vs j v.0 v.1) e

pub merge-place : (vs : List Var) (ts : List Target) (n k : ℕ) → place n (titles vs) ≡ some k → place n (titles (merge vs ts)) ≡ some k
unfolding merge
merge-place vs [] n k e = e
merge-place vs (t ∷ ts) n k e = merge-place (note t vs) ts n k (note-place t vs n k e)

pub note_own : (t : Target) (vs : List Var) → place t.name (titles (note t vs)) ≡ none → ⊥
note_own t vs e = go (opened (place t.name (titles vs)))
  where
    go : Opened (place t.name (titles vs)) → ⊥
    go (absent q) = none-some (rw (note-new t vs q, titles-new t vs) at e) (place-new t.name (titles vs) q)
    go (present j q) = none-some e (note-place t vs t.name j q)

pub merge_own : (vs : List Var) (ts : List Target) (j : ℕ) (t : Target) → get_elem? ts j ≡ some t → place t.name (titles (merge vs ts)) ≡ none → ⊥
unfolding merge
merge_own vs [] j t e q = none-some refl e
merge_own vs (x ∷ ts) zero t e q = go (opened (place x.name (titles (note x vs))))
  where
    go : Opened (place x.name (titles (note x vs))) → ⊥
    go (absent p) = note_own x vs p
    go (present k p) = let z : x ≡ t = cc in none-some (rw (← z) at q) (merge-place (note x vs) ts x.name k p)
merge_own vs (x ∷ ts) (suc j) t e q = merge_own (note x vs) ts j t e q

-- ---- how many

pub note-length : (t : Target) (vs : List Var) → length vs ≤ length (note t vs)
note-length t vs = go (opened (place t.name (titles vs)))
  where
    go : Opened (place t.name (titles vs)) → length vs ≤ length (note t vs)
    go (absent q) = rw (note-new t vs q) (omega (arith, length-append vs (new_var t ∷ [])))
    go (present j q) = let v = place_var t.name vs j q in rw (note_known t vs j v.0 q v.1) (omega (arith, length-set vs j (again t v.0)))

pub merge-length : (vs : List Var) (ts : List Target) → length vs ≤ length (merge vs ts)
unfolding merge
merge-length vs [] = omega arith
merge-length vs (t ∷ ts) = omega (arith, note-length t vs, merge-length (note t vs) ts)
