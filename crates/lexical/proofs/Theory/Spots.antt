-- Where the targets of a block stand: each is a Name, and the nodes around it say which block it belongs to.
use Rattle.std.specs.Prelude.{◌≡◌, Bool, ◌&&◌, ◌||◌, ℕ}
use Rattle.std.proofs.Math.Path.{refl, ap}
use Rattle.std.proofs.Common.{sym, ◌∙◌, subst, arith}
use Rattle.std.proofs.Math.Logic.{inl, inr}
use mathlib.Core.List.{List, [], ◌∷◌, ◌++◌}
use Rattle.std.proofs.Math.Bool.{true, false, cond}
use Rattle.std.proofs.Math.Option.{some}
use Rattle.lexical.specs.Lists.{or_else, eqb_self, eqb-not, Tested, was, wasnt, tested}
use Rattle.lexical.specs.Places.{All, Some, all_none, all_cons, all_append, all_to, some_left, some_right, In, Distinct, in_left, in_right, distinct_left, distinct_right, disjoint}
use Rattle.lexical.specs.Tree.{is_fn, is_compr, is_name, when, listed, Forest, nil, node, empty, Way, plain, look, fn, compr, clause, type, way, Pick, through, shut, head, name, loop, load, param, pick, nodes_in}
use Rattle.lexical.specs.Table.{FirstName, TidyHere, Tidy}
use Rattle.lexical.specs.Binders.{Names, Marks, Target, target, head_target, gather, collect, targets}
use Rattle.lexical.specs.Meaning.{Around, around, owner_of}
use Rattle.lexical.specs.Claims.{ancestors}
use Rattle.lexical.specs.Blocks.{named_in, Block, of_scope, block_around, block_of}
use Rattle.lexical.proofs.Theory.Kinds.{Simple, Sort, def6, name8, ident11, lambda12, compr13, other14, clause15, type18, simple, past, sort}
use Rattle.lexical.proofs.Theory.Nodes.{no_ancestors}

-- a target that stands among the children f of a node w, s, ts: a Name there, which by the nodes around it belongs to this block
pub record Spot (N : Names) (f : Forest) (w : Way) (s : ℕ) (ts : List Target) (b : Bool) (up : List Around) (k : Block) (t : Target) : Type 0 where
  pub there : In t.node (nodes_in f)
  pub named : Some (λ (p : ℕ × ℕ). p ≡ (t.node, t.name)) (named_in f)
  pub above : List Around
  pub around_it : ancestors N t.node f w s ts b up ≡ some above
  pub block-is : block_of above ≡ k

-- seen from the children of the node that f's nodes stand below, from the siblings before them
module _ (N : Names) (at k v : ℕ) (kids rest : Forest) (w : Way) (s : ℕ) (ts : List Target) (b : Bool) (up : List Around) (d : Distinct (nodes_in (node at k v kids rest))) where
  abbrev here : List Around
  here = around w s ts b (empty rest) ∷ up

  apart : Distinct (at ∷ (nodes_in kids ++ nodes_in rest))
  apart = unfold nodes_in listed when in d

  pub from_kids : (blk : Block) (t : Target) → Spot N kids (way k) v (targets N k kids) true here blk t → Spot N (node at k v kids rest) w s ts b up blk t
  unfolding nodes_in listed when named_in ancestors or_else
  from_kids blk t p = record {
    there = inr (in_left t.node (nodes_in kids) (nodes_in rest) p.there);
    named = some_right _ (when (is_name (pick k)) (at, v)) _ (some_left _ (named_in kids) (named_in rest) p.named);
    above = p.above;
    around_it = rw (eqb-not at t.node (λ e. apart.0 (subst (λ y. In y (nodes_in kids ++ nodes_in rest)) (sym e) (in_left t.node (nodes_in kids) (nodes_in rest) p.there))), p.around_it) refl;
    block-is = p.block-is;
  }

  pub from_rest : (blk : Block) (t : Target) → Spot N rest w s ts false up blk t → Spot N (node at k v kids rest) w s ts b up blk t
  unfolding nodes_in listed when named_in ancestors or_else
  from_rest blk t p = record {
    there = inr (in_right t.node (nodes_in kids) (nodes_in rest) p.there);
    named = some_right _ (when (is_name (pick k)) (at, v)) _ (some_right _ (named_in kids) (named_in rest) p.named);
    above = p.above;
    around_it = rw (
      eqb-not at t.node (λ e. apart.0 (subst (λ y. In y (nodes_in kids ++ nodes_in rest)) (sym e) (in_right t.node (nodes_in kids) (nodes_in rest) p.there))),
      no_ancestors N t.node kids (way k) v (targets N k kids) true here (λ m. disjoint t.node (nodes_in kids) (nodes_in rest) apart.1 m p.there),
    ) p.around_it;
    block-is = p.block-is;
  }

  -- the node itself, if it is a Name
  pub own_spot : (blk : Block) (m : Marks) → k ≡ 8 → block_of here ≡ blk → Spot N (node at k v kids rest) w s ts b up blk (target N m at v)
  unfolding nodes_in listed when named_in ancestors target
  own_spot blk m q e = record {
    there = inl refl;
    named = rw q (unfold is_name pick in (0, (at, v), refl, refl));
    above = here;
    around_it = rw (eqb_self at) refl;
    block-is = e;
  }

-- the block that a node's children belong to, where they are no Def's own name
unfoldable pub block_below : Way → ℕ → List Target → List Around → Block
block_below w s ts up = cond (is_fn w || is_compr w) (of_scope (owner_of w s up) ts) (block_around up)

-- the first is no Name
unfoldable pub NoName : Forest → Type 0
NoName nil = Unit {0}
NoName (node at k v kids rest) = k ≡ 8 → ⊥

-- a Def's own name
head_spot : (N : Names) (m : Marks) (at k v : ℕ) (kids rest : Forest) (w : Way) (s : ℕ) (ts : List Target) (b : Bool) (up : List Around) → Distinct (nodes_in (node at k v kids rest)) → is_fn (way k) ≡ true → FirstName kids
    → All (Spot N (node at k v kids rest) w s ts b up (block_below w s ts up)) (head_target N m kids)
unfolding head_target FirstName
head_spot N m at k v nil rest w s ts b up d e h = all_none _
head_spot N m at k v (node a j n more next) rest w s ts b up d e h = all_cons _ (target N m a n) []
    (from_kids N at k v (node a j n more next) rest w s ts b up d (block_below w s ts up) (target N m a n)
    (own_spot N a j n more next (way k) v (targets N k (node a j n more next)) true (around w s ts b (empty rest) ∷ up) (distinct_left (nodes_in (node a j n more next)) (nodes_in rest) (apart N at k v (node a j n more next) rest w s ts b up d).1) (block_below w s ts up) m h
    (unfold block_of block_around block_below in (rw e refl)))) (all_none _)

module _ (N : Names) (m : Marks) (at k v : ℕ) (kids rest : Forest) (w : Way) (s : ℕ) (ts : List Target) (b : Bool) (up : List Around) (d : Distinct (nodes_in (node at k v kids rest))) (h : TidyHere k kids) (g : (is_fn w && b) ≡ true → k ≡ 8 → ⊥) where
  abbrev Here : Target → Type 0
  Here t = Spot N (node at k v kids rest) w s ts b up (block_below w s ts up) t

  abbrev Below : Type 0
  Below = (n : Marks) → All (Spot N kids (way k) v (targets N k kids) true (around w s ts b (empty rest) ∷ up) (block_below (way k) v (targets N k kids) (around w s ts b (empty rest) ∷ up))) (collect N n kids)

  raised : (is_fn (way k) || is_compr (way k)) ≡ false → Below → (n : Marks) → All Here (collect N n kids)
  raised q r n = all_to _ Here (collect N n kids) (λ t p. from_kids N at k v kids rest w s ts b up d (block_below w s ts up) t (subst (λ x. Spot N kids (way k) v (targets N k kids) true (around w s ts b (empty rest) ∷ up) x t) same p)) (r n)
    where
      same : block_below (way k) v (targets N k kids) (around w s ts b (empty rest) ∷ up) ≡ block_below w s ts up
      same = unfold block_below block_around in (rw q refl)

  own_block : k ≡ 8 → block_of (around w s ts b (empty rest) ∷ up) ≡ block_below w s ts up
  own_block e = unfold block_of block_around block_below in go (tested (is_fn w && b))
    where
      go : Tested (is_fn w && b) → cond (is_fn w && b) (block_around up) (cond (is_fn w || is_compr w) (of_scope (owner_of w s up) ts) (block_around up)) ≡ cond (is_fn w || is_compr w) (of_scope (owner_of w s up) ts) (block_around up)
      go (was t) = absurd (g t e)
      go (wasnt t) = rw t refl

  by-pick : (p : Pick) → pick k ≡ p → All Here (gather N m p at v kids (λ n. collect N n kids)) → All Here (gather N m (pick k) at v kids (λ n. collect N n kids))
  by-pick p e a = rw e a

  through_pick : (p : Pick) → Simple p → ((n : Marks) → All Here (collect N n kids)) → All Here (gather N m p at v kids (λ n. collect N n kids))
  unfolding Simple gather
  through_pick through q r = r m
  through_pick shut q r = absurd q
  through_pick head q r = absurd q
  through_pick name q r = absurd q
  through_pick loop q r = r _
  through_pick load q r = r _
  through_pick param q r = r _

  -- what this node gives, by its kind
  gathered : Sort k → ((is_fn (way k) || is_compr (way k)) ≡ false → Below) → All Here (gather N m (pick k) at v kids (λ n. collect N n kids))
  unfolding gather
  gathered (def6 e) r = by-pick head (ap pick e ∙ (unfold pick in refl)) (head_spot N m at k v kids rest w s ts b up d (ap (λ k. is_fn (way k)) e ∙ (unfold way is_fn in refl)) (h.def e))
  gathered (name8 e) r = by-pick name (ap pick e ∙ (unfold pick in refl)) (all_cons _ (target N m at v) [] (own_spot N at k v kids rest w s ts b up d (block_below w s ts up) m e (own_block e)) (all_none _))
  gathered (ident11 e) r = by-pick shut (ap pick e ∙ (unfold pick in refl)) (all_none _)
  gathered (lambda12 e) r = by-pick shut (ap pick e ∙ (unfold pick in refl)) (all_none _)
  gathered (compr13 e) r = by-pick shut (ap pick e ∙ (unfold pick in refl)) (all_none _)
  gathered (other14 e) r = by-pick shut (ap pick e ∙ (unfold pick in refl)) (all_none _)
  gathered (clause15 e) r = by-pick through (ap pick e ∙ (unfold pick in refl)) (let q : (is_fn (way k) || is_compr (way k)) ≡ false = ap (λ k. is_fn (way k) || is_compr (way k)) e ∙ (unfold way is_fn is_compr in refl) in raised q (r q) m)
  gathered (type18 e) r = by-pick shut (ap pick e ∙ (unfold pick in refl)) (all_none _)
  gathered (simple e p) r = let q : (is_fn (way k) || is_compr (way k)) ≡ false = ap (λ w. is_fn w || is_compr w) e ∙ (unfold is_fn is_compr in refl) in through_pick (pick k) p (raised q (r q))
  gathered (past l e p) r = by-pick shut p (all_none _)

  node_spots : ((is_fn (way k) || is_compr (way k)) ≡ false → Below) → All (Spot N rest w s ts false up (block_below w s ts up)) (collect N m rest) → All Here (collect N m (node at k v kids rest))
  unfolding collect
  node_spots r q = all_append Here (gather N m (pick k) at v kids (λ n. collect N n kids)) (collect N m rest) (gathered (sort k) r) (all_to _ Here (collect N m rest) (λ t p. from_rest N at k v kids rest w s ts b up d (block_below w s ts up) t p) q)

not_fn : (w : Way) → (is_fn w || is_compr w) ≡ false → (is_fn w && true) ≡ true → ⊥
unfolding is_fn is_compr
not_fn plain e q = let z : ◌≡◌ {A = ℕ} 0 1 = cc in omega arith
not_fn look e q = let z : ◌≡◌ {A = ℕ} 0 1 = cc in omega arith
not_fn fn e q = let z : ◌≡◌ {A = ℕ} 0 1 = cc in omega arith
not_fn compr e q = let z : ◌≡◌ {A = ℕ} 0 1 = cc in omega arith
not_fn clause e q = let z : ◌≡◌ {A = ℕ} 0 1 = cc in omega arith
not_fn type e q = let z : ◌≡◌ {A = ℕ} 0 1 = cc in omega arith

never_both : (b : Bool) → (b && false) ≡ true → ⊥
never_both true e = let z : ◌≡◌ {A = ℕ} 0 1 = cc in omega arith
never_both false e = let z : ◌≡◌ {A = ℕ} 0 1 = cc in omega arith

-- each target of some nodes stands among them, and belongs to the block below which they stand
pub collected : (N : Names) (f : Forest) (m : Marks) (w : Way) (s : ℕ) (ts : List Target) (b : Bool) (up : List Around) → Tidy f → Distinct (nodes_in f) → ((is_fn w && b) ≡ true → NoName f)
    → All (Spot N f w s ts b up (block_below w s ts up)) (collect N m f)
unfolding Tidy nodes_in listed when NoName
collected N nil m w s ts b up h d g = unfold collect in all_none _
collected N (node at k v kids rest) m w s ts b up h d g = node_spots N m at k v kids rest w s ts b up d h.0 g
    (λ q n. collected N kids n (way k) v (targets N k kids) true (around w s ts b (empty rest) ∷ up) h.1 (distinct_left (nodes_in kids) (nodes_in rest) d.1) (λ z. absurd (not_fn (way k) q z)))
    (collected N rest m w s ts false up h.2 (distinct_right (nodes_in kids) (nodes_in rest) d.1) (λ z. absurd (never_both (is_fn w) z)))
