-- From the bytes of an accepted file to its tree.
--     each_spots     what holds of each node in node order holds of every node of the tree
--     scopes_read    the scope numbers of the bytes are those of the tree
--     params_read    the names of the Params in a stretch are those of the trees that it holds
use Rattle.std.specs.Prelude.{ℕ, suc, ◌+◌, ◌-◌, ◌*◌, ◌/◌, ◌≤◌, ◌<◌, ◌≡◌, refl, Bool, true, false, cond, List, [], ◌∷◌, ◌++◌, eqb, ltb, T, length, drop, replicate}
use Rattle.std.proofs.Common.{sym, ap, ap₂, ◌∙◌, subst, arith, lt-ltb, le-ltb}
use Rattle.std.proofs.Math.Option.{some}
use Rattle.std.proofs.Math.ListN.{get_elem?}
use Rattle.std.proofs.lemmas.List.{length-replicate}
use Rattle.base.specs.UpTo.{up_to, at_behind}
use Rattle.base.specs.Table.{at as tested_at}
use Rattle.bits.proofs.FieldLaws.{field-take}
use Rattle.lexical.specs.Places.{at_append, at-below}
use Rattle.lexical.specs.Tree.{Forest, nil, node, way, is_fn, scopes_in}
use Rattle.lexical.specs.Table.{own_name, param_names}
use Rattle.nodefile.specs.Node.{kind_of, size_of, value_of, below, after}
use Rattle.nodefile.specs.Reads.{Reads, count_of}
use Rattle.nodefile.proofs.Laws.Reads.{reads_length, below_length}
use Rattle.nodefile.specs.Order.{Spot, spots_in}
use Rattle.nodefile.proofs.Laws.Order.{spots_count, spot_at}
use Rattle.nodefile.specs.Chosen.{chosen}
use Rattle.nodefile.proofs.Laws.Listed.{listed_spots}
use Rattle.shape.specs.Nodes.{at, has_scope, Sound}
use Rattle.scoping.specs.Scopes.{is_scope, number, numbers, scope_numbers}
use Rattle.scoping.specs.Params.{param_name, ParamNames, no_params_lem, param, other}
use Rattle.judge.specs.Accepted.{Each}

-- ---- every node

pub each_spots : (P : Spot → Type 0) (f : Forest) → ((i : ℕ) (s : Spot) → get_elem? (spots_in f) i ≡ some s → P s) → Each P f
unfolding spots_in
each_spots P nil h = tt
each_spots P (node a k v ks rs) h = (
  h 0 _ refl,
  each_spots P ks (λ i s e. h (suc i) s (at_append (spots_in ks) (spots_in rs) i s e)),
  each_spots P rs (λ i s e. h (suc (length (spots_in ks) + i)) s (at_behind (spots_in ks) (spots_in rs) i ∙ e)),
)

-- ---- scope numbers

alike : Bool → Bool → Bool
alike true b = b
alike false true = false
alike false false = true

alike_eq : (a b : Bool) → T (alike a b) → a ≡ b
unfolding alike
alike_eq true true t = refl
alike_eq true false t = absurd t
alike_eq false true t = absurd t
alike_eq false false t = refl

-- lexical's functions are the kinds with a scope number
scope_way : (k : ℕ) → k < 19 → is_fn (way k) ≡ has_scope k
unfolding way is_fn alike
scope_way k h = alike_eq (is_fn (way k)) (has_scope k) (tested_at (λ k x. alike (is_fn (way k)) (has_scope k)) (replicate 19 0) tt k (omega (arith, length-replicate {A = ℕ} 19 0)))

-- what is chosen of a list is what is chosen of the places of its elements
chosen-places : {A : Type 0} (p : A → Bool) (g : A → ℕ) (q : ℕ → Bool) (h : ℕ → ℕ) (f : ℕ → ℕ) (xs : List A)
    → ((i : ℕ) (a : A) → get_elem? xs i ≡ some a → (p a ≡ q (f i)) × (g a ≡ h (f i))) → chosen p g xs ≡ chosen q h (up_to f (length xs))
unfolding chosen up_to
chosen-places p g q h f [] e = refl
chosen-places p g q h f (x ∷ xs) e =
    let z = e 0 x refl in
    let r = chosen-places p g q h (λ i. f (suc i)) xs (λ i a d. e (suc i) a d) in
    ap₂ (λ (b : Bool) (l : List ℕ). cond b (g x ∷ l) l) z.0 r ∙ ap (λ (y : ℕ). cond (q (f 0)) (y ∷ chosen q h (up_to (λ i. f (suc i)) (length xs))) (chosen q h (up_to (λ i. f (suc i)) (length xs)))) z.1

pub scopes_read : (f : Forest) (ns : List ℕ) → Sound ns → Reads ns 0 f → scopes_in f ≡ scope_numbers ns
unfolding scopes_in
scopes_read f ns ok r =
    listed_spots (λ k. is_fn (way k)) (λ a k v ks. v) f
    ∙ chosen-places (λ (s : Spot). is_fn (way s.kind)) (λ (s : Spot). s.value) (is_scope ns) (number ns) (λ i. i) (spots_in f) each
    ∙ ap (numbers ns) (spots_count f ∙ nodes)
  where
    nodes : count_of f ≡ length ns / 8
    nodes = omega (arith, reads_length f ns 0 r)

    each : (i : ℕ) (s : Spot) → get_elem? (spots_in f) i ≡ some s → (is_fn (way s.kind) ≡ is_scope ns i) × (s.value ≡ number ns i)
    each i s e =
        let q = spot_at f ns 0 i s r e in
        let l : 8 * i < length ns = omega (arith, at-below (spots_in f) i s e, reads_length f ns 0 r, spots_count f) in
        (scope_way s.kind (omega (arith, q.kind, ok.known i l)) ∙ ap has_scope q.kind, q.value)

-- ---- parameters

-- the first value in a stretch is the value of its first node
below_value : (t : List ℕ) → 1 < size_of t → value_of (below t) ≡ param_name t
below_value t h = field-take (drop 8 t) (8 * size_of t - 8) 24 16 (omega arith)

-- whether a Param has a Name is whether it has children
own_name_lem : (t : List ℕ) (kids : Forest) (at : ℕ) → 0 < size_of t → 8 * size_of t ≤ length t → Reads (below t) at kids → (own_name kids ≡ cond (ltb 1 (size_of t)) (param_name t ∷ []) [])
unfolding own_name
own_name_lem t nil at z l r = let e = below_length t z l in rw (le-ltb 1 (size_of t) (omega (arith, ap length r))) refl
own_name_lem t (node a k v ks rs) at z l r =
    let e = below_length t z l in
    let m : 1 < size_of t = omega (arith, r.some, r.inside) in
    rw (lt-ltb 1 (size_of t) m) (ap (λ (x : ℕ). x ∷ []) (r.value ∙ below_value t m))

pub params_read : (f : Forest) (t : List ℕ) (at : ℕ) → Reads t at f → ParamNames t (param_names f)
unfolding param_names
params_read nil t at r = subst (λ (u : List ℕ). ParamNames u []) (sym r) no_params_lem
params_read (node a k v ks rs) t at r =
    pick (eqb (kind_of t) 17) (ltb 1 (size_of t)) refl refl (own_name_lem t ks (at + 1) r.some r.inside r.under) (params_read rs (after t) (at + size_of t) r.after)
  where
    pick : (b c : Bool) → eqb (kind_of t) 17 ≡ b → ltb 1 (size_of t) ≡ c → own_name ks ≡ cond (ltb 1 (size_of t)) (param_name t ∷ []) [] → ParamNames (after t) (param_names rs)
        → ParamNames t (cond (eqb k 17) (own_name ks) [] ++ param_names rs)
    pick true true e d o p = rw (r.kind, e, o, d) (param r.some r.inside (rw (e, d)) p)
    pick true false e d o p = rw (r.kind, e, o, d) (other r.some r.inside (rw (e, d)) p)
    pick false c e d o p = rw (r.kind, e) (other r.some r.inside (rw e) p)
