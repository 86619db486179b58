-- A function's first variables are those of its Params, as many as `params` counts, where no two Params have one name (condition 11).
use Rattle.std.specs.Prelude.{◌≡◌, ◌⊎◌, List, [], ◌∷◌, ◌++◌, map, cond, not, ℕ, ◌≤◌, eqb}
use Rattle.std.proofs.Math.Path.{refl, sym, ap}
use Rattle.std.proofs.Common.{◌∙◌, ap₂, inl, inr, append_assoc, append-nil, length-append}
use Rattle.std.proofs.lemmas.List.{map-append}
use Rattle.std.proofs.Math.Bool.{true, false}
use native.Mathlib.Omega.{arith}
use Rattle.std.proofs.Math.ListN.{length}
use Rattle.lexical.specs.Lists.{eqb-true, eqb-false, eqb-not, Tested, was, wasnt, tested}
use Rattle.lexical.specs.Places.{In, Distinct, disjoint}
use Rattle.lexical.specs.Tree.{Forest, nil, node, empty, after, pick, shut, params}
use Rattle.lexical.specs.Table.{Exprs, Item, one, opt, many, row, within, head_in, drop_one, drop_many, is_empty, matches, allowed, kinds, Tabled, own_name, param_names}
use Rattle.lexical.specs.Binders.{Names, Marks, Target, target, collect, unmarked, targets, Var, titles, new_var, note, merge}
use Rattle.lexical.specs.Claims.{ParamsFirst}
use Rattle.lexical.proofs.Laws.Collect.{collect_name, collect_param, merge_append, as_param}
use Rattle.lexical.proofs.Laws.Notes.{note-new}
use Rattle.lexical.proofs.Laws.Whole.{exprs_none}
use Rattle.lexical.proofs.Theory.Apart.{noted}
use Rattle.lexical.proofs.Theory.Slots.{both_true}
use Rattle.lexical.proofs.Theory.Tabled.{in_range, expr_shut}

-- every child is of the kinds of some place of the row
abbrev Among : List Item → ℕ → Type 0
Among [] k = ⊥
Among (one lo hi ∷ is) k = ((lo ≤ k) × (k ≤ hi)) ⊎ Among is k
Among (opt lo hi ∷ is) k = ((lo ≤ k) × (k ≤ hi)) ⊎ Among is k
Among (many lo hi ∷ is) k = ((lo ≤ k) × (k ≤ hi)) ⊎ Among is k

dropped_one : (lo hi k : ℕ) (ks : List ℕ) → In k ks → ((lo ≤ k) × (k ≤ hi)) ⊎ In k (drop_one lo hi ks)
unfolding drop_one
dropped_one lo hi k (x ∷ ks) m = go (tested (within lo hi x)) m
  where
    go : Tested (within lo hi x) → (k ≡ x) ⊎ In k ks → ((lo ≤ k) × (k ≤ hi)) ⊎ In k (cond (within lo hi x) ks (x ∷ ks))
    go (was t) (inl e) = inl (rw e (in_range lo hi x t))
    go (was t) (inr z) = inr (rw t z)
    go (wasnt t) z = inr (rw t z)
dropped_one lo hi k [] m = elim m [ ]

dropped_many : (lo hi k : ℕ) (ks : List ℕ) → In k ks → ((lo ≤ k) × (k ≤ hi)) ⊎ In k (drop_many lo hi ks)
unfolding drop_many
dropped_many lo hi k (x ∷ ks) m = go (tested (within lo hi x)) m (λ z. dropped_many lo hi k ks z)
  where
    go : Tested (within lo hi x) → (k ≡ x) ⊎ In k ks → (In k ks → ((lo ≤ k) × (k ≤ hi)) ⊎ In k (drop_many lo hi ks)) → ((lo ≤ k) × (k ≤ hi)) ⊎ In k (cond (within lo hi x) (drop_many lo hi ks) (x ∷ ks))
    go (was t) (inl e) rec = inl (rw e (in_range lo hi x t))
    go (was t) (inr z) rec = rw t (rec z)
    go (wasnt t) z rec = inr (rw t z)
dropped_many lo hi k [] m = elim m [ ]

either_way : {A B C : Type 0} → A ⊎ B → (B → C) → A ⊎ C
either_way (inl a) h = inl a
either_way (inr b) h = inr (h b)

pub among : (is : List Item) (ks : List ℕ) → matches is ks ≡ true → (k : ℕ) → In k ks → Among is k
unfolding matches is_empty
among [] (x ∷ ks) e k m = let z : ◌≡◌ {A = ℕ} 0 1 = cc in omega arith
among (one lo hi ∷ is) ks e k m = either_way (dropped_one lo hi k ks m) (λ z. among is (drop_one lo hi ks) (both_true (head_in lo hi ks) _ e).1 k z)
among (opt lo hi ∷ is) ks e k m = either_way (dropped_one lo hi k ks m) (λ z. among is (drop_one lo hi ks) e k z)
among (many lo hi ∷ is) ks e k m = either_way (dropped_many lo hi k ks m) (λ z. among is (drop_many lo hi ks) e k z)
among [] [] e k m = elim m [ ]

-- what stands behind a Param's Name gives no targets
shut_behind : (k : ℕ) → Among (opt 18 18 ∷ opt 11 14 ∷ []) k → pick k ≡ shut
shut_behind k (inl h) = let e : k ≡ 18 = omega arith in rw e (unfold pick in refl)
shut_behind k (inr (inl h)) = expr_shut k h.0 h.1
shut_behind k (inr (inr x'')) = elim x'' [ ]

all_shut : (f : Forest) → ((k : ℕ) → In k (kinds f) → pick k ≡ shut) → Exprs f
unfolding kinds Exprs
all_shut nil h = tt
all_shut (node at k v kids rest) h = (h k (inl refl), all_shut rest (λ j m. h j (inr m)))

abbrev called : List Target → List ℕ
called ts = map (λ (t : Target). t.name) ts

own_target : (N : Names) (m : Marks) (kids : Forest) → allowed 17 (kinds kids) ≡ true → called (collect N m kids) ≡ own_name kids
unfolding allowed row matches kinds is_empty head_in drop_one own_name
own_target N m nil e = unfold collect in refl
own_target N m (node a j n more rest) e = go (both_true (within 8 8 j) _ e)
  where
    go : (within 8 8 j ≡ true) × (matches (opt 18 18 ∷ opt 11 14 ∷ []) (cond (within 8 8 j) (kinds rest) (j ∷ kinds rest)) ≡ true) → called (collect N m (node a j n more rest)) ≡ n ∷ []
    go (t, z) = let r = in_range 8 8 j t in let q : j ≡ 8 = omega arith in
        let y : matches (opt 18 18 ∷ opt 11 14 ∷ []) (kinds rest) ≡ true = rw t at z in
        rw q (ap called (collect_name N m a n more rest ∙ ap (λ l. target N m a n ∷ l) (exprs_none N m rest (all_shut rest (λ k i. shut_behind k (among (opt 18 18 ∷ opt 11 14 ∷ []) (kinds rest) y k i))))) ∙ (unfold target in refl))

own_count : (kids : Forest) → length (own_name kids) ≡ cond (not (empty kids)) 1 0
unfolding own_name empty
own_count nil = refl
own_count (node a j n more rest) = refl

no_params_lem : (f : Forest) → (In 17 (kinds f) → ⊥) → (param_names f ≡ []) × (params f ≡ 0)
unfolding kinds param_names params
no_params_lem nil n = (refl, refl)
no_params_lem (node at k v kids rest) n = let r = no_params_lem rest (λ m. n (inr m)) in rw (eqb-not k 17 (λ e. n (inl (sym e)))) (r.0, omega (arith, r.1))

-- a function's targets begin with its Params'
pub record Params (ts : List Target) (f : Forest) : Type 0 where
  pub own : List Target
  pub others : List Target
  pub together : ts ≡ own ++ others
  pub theirs : called own ≡ param_names f
  pub count : length (param_names f) ≡ params f

params_of : (N : Names) (is : List Item) (f : Forest) → (Among is 17 → ⊥) → matches (many 17 17 ∷ is) (kinds f) ≡ true → Tabled f → Params (collect N unmarked f) f
unfolding kinds param_names params
params_of N is nil n e h = record { own = []; others = []; together = unfold collect in refl; theirs = refl; count = refl }
params_of N is (node at k v kids rest) n e h = go (tested (eqb k 17)) (λ z. params_of N is rest n z (unfold Tabled in h.3))
  where
    shaped : allowed k (kinds kids) ≡ true
    shaped = unfold Tabled in h.1

    param : k ≡ 17 → Params (collect N unmarked rest) rest → Params (collect N unmarked (node at k v kids rest)) (node at k v kids rest)
    param q r = rw q (record {
      own = collect N (as_param unmarked) kids ++ r.own;
      others = r.others;
      together = collect_param N unmarked at v kids rest ∙ ap (λ l. collect N (as_param unmarked) kids ++ l) r.together ∙ sym (append_assoc (collect N (as_param unmarked) kids) r.own r.others);
      theirs = map-append (λ (t : Target). t.name) (collect N (as_param unmarked) kids) r.own ∙ ap₂ ◌++◌ (own_target N (as_param unmarked) kids (rw q at shaped)) r.theirs;
      count = omega (arith, length-append (own_name kids) (param_names rest), own_count kids, r.count);
    })

    skip : k ≡ 17 → matches is (drop_many 17 17 (kinds rest)) ≡ true
    skip q = unfold matches drop_many within in (rw q at e)

    none : (k ≡ 17 → ⊥) → In 17 (k ∷ kinds rest) → ⊥
    none z m = n (among is (k ∷ kinds rest) (unfold matches drop_many in (rw (out z) at e)) 17 m)
      where
        out : (k ≡ 17 → ⊥) → within 17 17 k ≡ false
        out z = side (tested (within 17 17 k))
          where
            side : Tested (within 17 17 k) → within 17 17 k ≡ false
            side (was t) = absurd (z (let r = in_range 17 17 k t in omega arith))
            side (wasnt t) = t

    go : Tested (eqb k 17) → (matches (many 17 17 ∷ is) (kinds rest) ≡ true → Params (collect N unmarked rest) rest) → Params (collect N unmarked (node at k v kids rest)) (node at k v kids rest)
    go (was t) rec = param (eqb-true k 17 t) (rec (unfold matches in skip (eqb-true k 17 t)))
    go (wasnt t) rec = let r = no_params_lem (node at k v kids rest) (unfold kinds in none (eqb-false k 17 t)) in record { own = []; others = collect N unmarked (node at k v kids rest); together = refl; theirs = sym r.0; count = ap length r.0 ∙ sym r.1 }

-- variables of different names stand as their targets do, and keep their places when others are noted
merge-apart : (vs : List Var) (ts : List Target) → Distinct (titles vs ++ called ts) → titles (merge vs ts) ≡ titles vs ++ called ts
unfolding merge
merge-apart vs [] d = sym (append-nil (titles vs))
merge-apart vs (t ∷ ts) d = merge-apart (note t vs) ts (rw (one_more, append_assoc (titles vs) (t.name ∷ []) (called ts)) d) ∙ ap (λ l. l ++ called ts) one_more ∙ append_assoc (titles vs) (t.name ∷ []) (called ts)
  where
    one_more : titles (note t vs) ≡ titles vs ++ (t.name ∷ [])
    one_more = ap titles (note-new t vs (λ m. disjoint t.name (titles vs) (called (t ∷ ts)) d m (inl refl))) ∙ map-append (λ (v : Var). v.name) vs (new_var t ∷ []) ∙ (unfold new_var in refl)

merge_keeps : (vs : List Var) (ts : List Target) → (more : List ℕ) × (titles (merge vs ts) ≡ titles vs ++ more)
unfolding merge
merge_keeps vs [] = ([], sym (append-nil (titles vs)))
merge_keeps vs (t ∷ ts) = let r = merge_keeps (note t vs) ts in go (noted t vs) r
  where
    go : (titles (note t vs) ≡ titles vs) ⊎ ((In t.name (titles vs) → ⊥) × (titles (note t vs) ≡ titles vs ++ (t.name ∷ []))) → (more : List ℕ) × (titles (merge (note t vs) ts) ≡ titles (note t vs) ++ more) → (more : List ℕ) × (titles (merge (note t vs) ts) ≡ titles vs ++ more)
    go (inl e) (more, q) = (more, q ∙ ap (λ l. l ++ more) e)
    go (inr e) (more, q) = (t.name ∷ more, q ∙ ap (λ l. l ++ more) e.1 ∙ append_assoc (titles vs) (t.name ∷ []) more)

params-first : (ts : List Target) (f : Forest) → Params ts f → Distinct (param_names f) → (more : List ℕ) × (titles (merge [] ts) ≡ param_names f ++ more) × (length (param_names f) ≡ params f)
params-first ts f p d = let r = merge_keeps (merge [] p.own) p.others in
    (r.0, ap (λ l. titles (merge [] l)) p.together ∙ ap titles (merge_append [] p.own p.others) ∙ r.1 ∙ ap (λ l. l ++ r.0) (merge-apart [] p.own (rw p.theirs d) ∙ p.theirs), p.count)

pub lambda_params : (N : Names) (kids : Forest) → allowed 12 (kinds kids) ≡ true → Tabled kids → Distinct (param_names kids) → ParamsFirst N 12 kids
unfolding targets
lambda_params N kids e h d = let y = params-first (collect N unmarked kids) kids (params_of N (one 11 14 ∷ []) kids no17 (unfold allowed row in e) h) d in record { others = y.0; in_front = y.1; as_many = y.2 }
  where
    no17 : Among (one 11 14 ∷ []) 17 → ⊥
    no17 (inl r) = omega arith
    no17 (inr x') = elim x' [ ]

pub def_params : (N : Names) (kids : Forest) → allowed 6 (kinds kids) ≡ true → Tabled kids → Distinct (param_names kids) → ParamsFirst N 6 kids
unfolding allowed row matches kinds head_in drop_one Tabled targets after param_names params
def_params N nil e h d = absurd (let z : ◌≡◌ {A = ℕ} 0 1 = cc in omega arith)
def_params N (node a j n more rest) e h d = go (both_true (within 8 8 j) _ e)
  where
    no17 : Among (opt 18 18 ∷ one 0 7 ∷ []) 17 → ⊥
    no17 (inl r) = omega arith
    no17 (inr (inl r)) = omega arith
    no17 (inr (inr x5)) = elim x5 [ ]

    go : (within 8 8 j ≡ true) × (matches (many 17 17 ∷ opt 18 18 ∷ one 0 7 ∷ []) (cond (within 8 8 j) (kinds rest) (j ∷ kinds rest)) ≡ true)
        → ParamsFirst N 6 (node a j n more rest)
    go (t, z) = let r = in_range 8 8 j t in let q : j ≡ 8 = omega arith in
        let y = params-first (collect N unmarked rest) rest (params_of N (opt 18 18 ∷ one 0 7 ∷ []) rest no17 (rw t at z) h.3) (rw q at d) in
        rw q (record { others = y.0; in_front = y.1; as_many = omega (arith, y.2) })
