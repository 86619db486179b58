-- The cells that hold where each scope number stands, as numbers; and a kind with a scope, as this crate and as lexical says it.
use Rattle.std.specs.Prelude.{ℕ, zero, suc, ◌+◌, ◌≡◌, refl, Bool, true, false, List, ◌∷◌, T, map, set, get_or, replicate, Option, None, Some}
use Rattle.std.proofs.Common.{sym, ap, ◌∙◌, subst, arith, true≢false}
use Rattle.std.specs.Option.{is_some}
use Rattle.std.proofs.Math.ListN.{get_or-map}
use Rattle.std.proofs.lemmas.List.{map-set, length-replicate}
use Rattle.base.specs.Table.{at as tested_at}
use Rattle.bits.proofs.FieldLaws.{field_lt}
use Rattle.lexical.specs.Tree.{way, is_fn}
use Rattle.nodefile.specs.Node.{kind_of}
use Rattle.shape.specs.Nodes.{has_scope}
use Rattle.scoping.specs.Inside.Found.{cell_of, Unset}
use Rattle.marks.specs.Marks.{zeros}

pub cell_at : (found : List (Option ℕ)) (v : ℕ) {x : Option ℕ} → get_or found v None ≡ x → get_or (map cell_of found) v 0 ≡ cell_of x
cell_at found v e = get_or-map cell_of found v None ∙ ap cell_of e

pub cell_set : (found : List (Option ℕ)) (v n : ℕ) → map cell_of (set found v (Some n)) ≡ set (map cell_of found) v (n + 1)
cell_set found v n = map-set cell_of found v (Some n)

-- whether a cell holds a node
pub held_set : (found : List (Option ℕ)) (v : ℕ) → is_some (get_or found v None) ≡ true → get_or (map cell_of found) v 0 ≡ 0 → ⊥
held_set found v h z = go (get_or found v None) h (cell_at found v refl)
  where
    go : (x : Option ℕ) → is_some x ≡ true → get_or (map cell_of found) v 0 ≡ cell_of x → ⊥
    go None h e = true≢false (sym h)
    go (Some n) h e = absurd (omega (arith, z))

pub held_free : (found : List (Option ℕ)) (v : ℕ) → is_some (get_or found v None) ≡ false → get_or (map cell_of found) v 0 ≡ 0
held_free found v h = go (get_or found v None) h (cell_at found v refl)
  where
    go : (x : Option ℕ) → is_some x ≡ false → get_or (map cell_of found) v 0 ≡ cell_of x → get_or (map cell_of found) v 0 ≡ 0
    go None h e = e
    go (Some n) h e = absurd (true≢false h)

none_held : (n : ℕ) → map cell_of (replicate n None) ≡ replicate n 0
none_held zero = refl
none_held (suc n) = ap (λ (l : List ℕ). 0 ∷ l) (none_held n)

pub unset : Unset (map cell_of (replicate 256 None))
unset = subst Unset (λ i. none_held 256 i) (record { size = length-replicate {A = ℕ} 256 0; zero = zeros 256 })

-- ---- a kind with a scope

alike : Bool → Bool → Bool
alike true b = b
alike false true = false
alike false false = true

alike_eq : (a b : Bool) → T (alike a b) → a ≡ b
unfolding alike
alike_eq true true t = refl
alike_eq true false t = absurd t
alike_eq false true t = absurd t
alike_eq false false t = refl

pub scope_kind : (t : List ℕ) → is_fn (way (kind_of t)) ≡ has_scope (kind_of t)
unfolding way is_fn alike
scope_kind t = alike_eq (is_fn (way (kind_of t))) (has_scope (kind_of t)) (tested_at (λ k x. alike (is_fn (way k)) (has_scope k)) (replicate 32 0) tt (kind_of t) (omega (arith, length-replicate {A = ℕ} 32 0, field_lt t 0 5)))
