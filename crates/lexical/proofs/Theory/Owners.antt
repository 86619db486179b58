-- Every block of a tree: its targets stand below its node, and the nodes around them say that it is theirs, owned by the scope that the walks give it.
use Rattle.std.proofs.Math.Path.{◌≡◌, refl, ap, subst}
use Rattle.std.proofs.Common.{sym, ◌∙◌, inl, inr}
use Rattle.std.specs.Prelude.{◌⊎◌, Bool, ◌&&◌, ◌||◌, ℕ, ◌≤◌}
use mathlib.Core.List.{List, [], ◌∷◌, ◌++◌}
use Rattle.std.proofs.Math.Bool.{true, false}
use native.Mathlib.Omega.{arith}
use Rattle.lexical.specs.Lists.{If}
use Rattle.lexical.specs.Places.{All, all_none, all_to, Distinct, distinct_left, distinct_right}
use Rattle.lexical.specs.Tree.{is_fn, is_compr, when, listed, Forest, nil, node, empty, after, Way, plain, look, fn, compr, clause, type, way, top, nodes_in}
use Rattle.lexical.specs.Table.{row, allowed, kinds, Tabled, Tidy}
use Rattle.lexical.specs.Binders.{Names, Target, collect, unmarked, looping, targets}
use Rattle.lexical.specs.Meaning.{Around, around, reach, deeper, scopes_of, owner_of}
use Rattle.lexical.specs.Blocks.{Block, of_scope}
use Rattle.lexical.proofs.Theory.Induct.{inner_scope}
use Rattle.lexical.proofs.Theory.Kinds.{Sort, def6, name8, ident11, lambda12, compr13, other14, clause15, type18, simple, past, sort}
use Rattle.lexical.proofs.Theory.Parameters.{among}
use Rattle.lexical.proofs.Theory.Spots.{Spot, from_kids, from_rest, block_below, NoName, collected}
use Rattle.lexical.proofs.Theory.Tabled.{at_kind, tabled_tidy}

-- a Lambda does not begin with a Name
table_lambda : (f : Forest) → allowed 12 (kinds f) ≡ true → NoName f
unfolding allowed row kinds NoName
table_lambda nil e = tt
table_lambda (node at k v kids rest) e = λ q. go (among _ (k ∷ kinds rest) e k (inl refl)) q
  where
    go : ((17 ≤ k) × (k ≤ 17)) ⊎ (((11 ≤ k) × (k ≤ 14)) ⊎ ⊥) → k ≡ 8 → ⊥
    go (inl h) q = omega arith
    go (inr (inl h)) q = omega arith
    go (inr (inr x4)) q = elim x4 [ ]

-- the other kinds open no block
none_other : {k : ℕ} (n : ℕ) → k ≡ n → (is_fn (way n) || is_compr (way n)) ≡ false → (is_fn (way k) || is_compr (way k)) ≡ true → ⊥
none_other {k} n e f q = let y : (is_fn (way k) || is_compr (way k)) ≡ false = ap (λ k. is_fn (way k) || is_compr (way k)) e ∙ f in let x : ◌≡◌ {A = ℕ} 0 1 = cc in omega arith

none-plain : (k : ℕ) → way k ≡ plain → (is_fn (way k) || is_compr (way k)) ≡ true → ⊥
none-plain k e q = let y : (is_fn (way k) || is_compr (way k)) ≡ false = ap (λ w. is_fn w || is_compr w) e ∙ (unfold is_fn is_compr in refl) in let x : ◌≡◌ {A = ℕ} 0 1 = cc in omega arith

module _ (N : Names) (k v : ℕ) (up : List Around) where
  -- a Def's targets stand behind its name
  behind_name : (kids : Forest) → Tidy kids → Distinct (nodes_in kids) → All (Spot N kids (way k) v (targets N k kids) true up (block_below (way k) v (targets N k kids) up)) (collect N unmarked (after kids))
  behind_name kids h d = go kids h d
    where
      go : (f : Forest) → Tidy f → Distinct (nodes_in f) → All (Spot N f (way k) v (targets N k kids) true up (block_below (way k) v (targets N k kids) up)) (collect N unmarked (after f))
      go nil h d = unfold after collect in all_none _
      go (node a j n more next) h d = unfold after in all_to _ _ (collect N unmarked next) (λ t p. from_rest N a j n more next (way k) v (targets N k kids) true up d (block_below (way k) v (targets N k kids) up) t p)
          (collected N next unmarked (way k) v (targets N k kids) false up (tidy h) (distinct_right (nodes_in more) (nodes_in next) (apart d)) (λ z. absurd (never (is_fn (way k)) z)))
        where
          tidy : Tidy (node a j n more next) → Tidy next
          tidy h = unfold Tidy in h.2

          apart : Distinct (nodes_in (node a j n more next)) → Distinct (nodes_in more ++ nodes_in next)
          apart d = unfold nodes_in listed when in d.1

          never : (b : Bool) → (b && false) ≡ true → ⊥
          never true e = let z : ◌≡◌ {A = ℕ} 0 1 = cc in omega arith
          never false e = let z : ◌≡◌ {A = ℕ} 0 1 = cc in omega arith

  -- what a function or a comprehension binds stands below it
  below_fn : (kids : Forest) → Tidy kids → Distinct (nodes_in kids) → (k ≡ 12 → NoName kids) → (is_fn (way k) || is_compr (way k)) ≡ true → Sort k
      → All (Spot N kids (way k) v (targets N k kids) true up (block_below (way k) v (targets N k kids) up)) (targets N k kids)
  below_fn kids h d l q (def6 e) = let z : targets N k kids ≡ collect N unmarked (after kids) = ap (λ k. targets N k kids) e ∙ (unfold targets in refl) in subst (All _) (sym z) (behind_name kids h d)
  below_fn kids h d l q (lambda12 e) = let z : targets N k kids ≡ collect N unmarked kids = ap (λ k. targets N k kids) e ∙ (unfold targets in refl) in subst (All _) (sym z) (collected N kids unmarked (way k) v (targets N k kids) true up h d (λ z. l e))
  below_fn kids h d l q (compr13 e) = let z : targets N k kids ≡ collect N looping kids = ap (λ k. targets N k kids) e ∙ (unfold targets in refl) in subst (All _) (sym z) (collected N kids looping (way k) v (targets N k kids) true up h d (λ z. absurd (other e z)))
    where
      other : k ≡ 13 → (is_fn (way k) && true) ≡ true → ⊥
      other e z = let y : (is_fn (way k) && true) ≡ false = ap (λ k. is_fn (way k) && true) e ∙ (unfold way is_fn in refl) in let x : ◌≡◌ {A = ℕ} 0 1 = cc in omega arith
  below_fn kids h d l q (name8 e) = absurd (none_other 8 e (unfold way is_fn is_compr in refl) q)
  below_fn kids h d l q (ident11 e) = absurd (none_other 11 e (unfold way is_fn is_compr in refl) q)
  below_fn kids h d l q (other14 e) = absurd (none_other 14 e (unfold way is_fn is_compr in refl) q)
  below_fn kids h d l q (clause15 e) = absurd (none_other 15 e (unfold way is_fn is_compr in refl) q)
  below_fn kids h d l q (type18 e) = absurd (none_other 18 e (unfold way is_fn is_compr in refl) q)
  below_fn kids h d l q (simple e p) = absurd (none-plain k e q)
  below_fn kids h d l q (past z e p) = absurd (none-plain k e q)

-- G of every block of a tree: of the scope that owns its variables, of its targets
unfoldable pub AllBlocks : Names → (ℕ → List Target → Type 0) → Forest → Way → ℕ → ℕ → Type 0
AllBlocks N G nil w s o = Unit {0}
AllBlocks N G (node at k v kids rest) w s o =
    If (is_fn (way k)) (G v (targets N k kids))
    × If (is_compr (way k)) (G (inner_scope w s (empty rest) o) (targets N k kids))
    × AllBlocks N G kids (way k) v (inner_scope w s (empty rest) o)
    × AllBlocks N G rest w s o

if_when : {P : Type 0} (b : Bool) → (b ≡ true → P) → If b P
if_when true h = h refl
if_when false h = tt

-- the scope of a place, by the nodes around it and by the walks
top_here : (w : Way) (s : ℕ) (ts : List Target) (b l : Bool) (up : List Around) → top (scopes_of (around w s ts b l ∷ up)) ≡ inner_scope w s l (top (scopes_of up))
unfolding scopes_of deeper reach is_fn inner_scope
top_here plain s ts b l up = refl
top_here look s ts b l up = refl
top_here fn s ts b true up = unfold top in refl
top_here fn s ts b false up = refl
top_here compr s ts b l up = refl
top_here clause s ts b l up = refl
top_here type s ts b l up = refl

compr_fn : (w : Way) → is_compr w ≡ true → is_fn w ≡ false
unfolding is_compr is_fn
compr_fn plain e = refl
compr_fn look e = refl
compr_fn fn e = let z : ◌≡◌ {A = ℕ} 0 1 = cc in absurd (omega arith)
compr_fn compr e = refl
compr_fn clause e = refl
compr_fn type e = refl

or_left : (a b : Bool) → a ≡ true → (a || b) ≡ true
or_left true b e = refl
or_left false b e = absurd (let z : ◌≡◌ {A = ℕ} 0 1 = cc in omega arith)

or_right : (a b : Bool) → b ≡ true → (a || b) ≡ true
or_right true b e = refl
or_right false b e = e

-- by the whole tree: each block's targets belong to it
module _ (N : Names) (root : Forest) where
  abbrev pub Owned : ℕ → List Target → Type 0
  Owned o us = All (Spot N root plain 0 [] true [] (of_scope o us)) us

  abbrev Lifts : Forest → Way → ℕ → List Target → Bool → List Around → Type 0
  Lifts f w s ts b up = (blk : Block) (t : Target) → Spot N f w s ts b up blk t → Spot N root plain 0 [] true [] blk t

  module _ (at k v : ℕ) (kids rest : Forest) (w : Way) (s : ℕ) (ts : List Target) (b : Bool) (up : List Around) (h : Tabled (node at k v kids rest)) (d : Distinct (nodes_in (node at k v kids rest))) (r : Lifts (node at k v kids rest) w s ts b up) where
    abbrev above : List Around
    above = around w s ts b (empty rest) ∷ up

    lifts_kids : Lifts kids (way k) v (targets N k kids) true above
    lifts_kids blk t p = r blk t (from_kids N at k v kids rest w s ts b up d blk t p)

    lifts_rest : Lifts rest w s ts false up
    lifts_rest blk t p = r blk t (from_rest N at k v kids rest w s ts b up d blk t p)

    apart : Distinct (nodes_in kids ++ nodes_in rest)
    apart = unfold nodes_in listed when in d.1

    own : (is_fn (way k) || is_compr (way k)) ≡ true → All (Spot N root plain 0 [] true [] (block_below (way k) v (targets N k kids) above)) (targets N k kids)
    unfolding Tabled
    own q = all_to _ _ (targets N k kids) (λ t p. lifts_kids (block_below (way k) v (targets N k kids) above) t p)
        (below_fn N k v above kids (tabled_tidy kids h.2) (distinct_left (nodes_in kids) (nodes_in rest) apart) (λ e. table_lambda kids (at_kind k 12 kids h.1 e)) q (sort k))

    own_fn : is_fn (way k) ≡ true → Owned v (targets N k kids)
    own_fn e = let z : block_below (way k) v (targets N k kids) above ≡ of_scope v (targets N k kids) = (unfold block_below owner_of in (rw e refl)) in subst (λ x. All (Spot N root plain 0 [] true [] x) (targets N k kids)) z (own (or_left (is_fn (way k)) (is_compr (way k)) e))

    own_compr : (o : ℕ) → top (scopes_of up) ≡ o → is_compr (way k) ≡ true → Owned (inner_scope w s (empty rest) o) (targets N k kids)
    own_compr o q e =
        let z : block_below (way k) v (targets N k kids) above ≡ of_scope (inner_scope w s (empty rest) o) (targets N k kids) = (unfold block_below owner_of in (rw (compr_fn (way k) e, e) (ap (λ x. of_scope x (targets N k kids)) (top_here w s ts b (empty rest) up ∙ ap (inner_scope w s (empty rest)) q)))) in
        subst (λ x. All (Spot N root plain 0 [] true [] x) (targets N k kids)) z (own (or_right (is_fn (way k)) (is_compr (way k)) e))

  owners : (f : Forest) (w : Way) (s : ℕ) (ts : List Target) (b : Bool) (up : List Around) (o : ℕ) → Tabled f → Distinct (nodes_in f) → Lifts f w s ts b up → top (scopes_of up) ≡ o → AllBlocks N Owned f w s o
  unfolding AllBlocks Tabled
  owners nil w s ts b up o h d r e = tt
  owners (node at k v kids rest) w s ts b up o h d r e = (
    if_when (is_fn (way k)) (own_fn at k v kids rest w s ts b up h d r),
    if_when (is_compr (way k)) (own_compr at k v kids rest w s ts b up h d r o e),
    owners kids (way k) v (targets N k kids) true (around w s ts b (empty rest) ∷ up) (inner_scope w s (empty rest) o) h.2 (distinct_left (nodes_in kids) (nodes_in rest) (apart at k v kids rest w s ts b up h d r)) (lifts_kids at k v kids rest w s ts b up h d r) (top_here w s ts b (empty rest) up ∙ ap (inner_scope w s (empty rest)) e),
    owners rest w s ts false up o h.3 (distinct_right (nodes_in kids) (nodes_in rest) (apart at k v kids rest w s ts b up h d r)) (lifts_rest at k v kids rest w s ts b up h d r) e,
  )

  pub all_owned : Tabled root → Distinct (nodes_in root) → AllBlocks N Owned root plain 0 0
  all_owned h d = owners root plain 0 [] true [] 0 h d (λ blk t p. p) (unfold scopes_of top in refl)
