-- The lists that the theory of names makes of a tree, node by node in node order (`listed`), as the bytes have them.
--     listed_in, in_listed, listed_distinct, distinct_listed, listed-tally   for any test of the kind, and anything said of number, kind and value
--     listed_up_to                                                           what is said of every node, as one list
--     nodes_up_to, nodes_count, nodes_distinct, nodes_below                  the node numbers: from the first one on, each once
--     scope_count, scopes_in_lem, in_scopes, scopes_distinct, distinct_scopes, scopes_tally   the scope numbers of the Defs and Lambdas
use Rattle.std.specs.Prelude.{ℕ, ◌+◌, ◌*◌, ◌≤◌, ◌<◌, ◌≡◌, refl, Bool, true, false, cond, List, ◌∷◌, ◌++◌, length}
use Rattle.std.proofs.Common.{sym, ap₂, ◌∙◌, subst, arith}
use Rattle.std.proofs.Math.Path.{ap}
use Rattle.std.proofs.Math.Option.{some}
use Rattle.std.proofs.Math.ListN.{get_elem?}
use Rattle.base.specs.UpTo.{tally, tally_all, up_to, up_to_is, up_to_length, at_some}
use Rattle.lexical.specs.Places.{at-below, In, Distinct}
use Rattle.lexical.specs.Tree.{Forest, nil, node, when, listed, nodes_in, scopes_in}
use Rattle.nodefile.specs.Reads.{Reads, count_of}
use Rattle.nodefile.proofs.Laws.Reads.{reads_length}
use Rattle.nodefile.specs.Order.{Spot, spots_in}
use Rattle.nodefile.proofs.Laws.Order.{spots_count, spot_at}
use Rattle.nodefile.specs.Chosen.{chosen, chosen_append, chosen-tally, chosen_all, chosen_in, in_chosen, chosen_distinct, distinct_chosen}
use Rattle.nodefile.specs.Listed.{kind_at, value_at, is_scope}

when_append : {B : Type 0} (b : Bool) (x : B) (xs : List B) → when b x ++ xs ≡ cond b (x ∷ xs) xs
unfolding when
when_append true x xs = refl
when_append false x xs = refl

-- what is listed of a tree is what is chosen of its nodes in order
pub listed_spots : {B : Type 0} (p : ℕ → Bool) (g : ℕ → ℕ → ℕ → Forest → B) (f : Forest) → listed p g f ≡ chosen (λ s. p s.kind) (λ s. g s.number s.kind s.value s.kids) (spots_in f)
unfolding listed spots_in chosen
listed_spots p g nil = refl
listed_spots {B} p g (node a k v ks rs) =
    let c = chosen (λ (s : Spot). p s.kind) (λ (s : Spot). g s.number s.kind s.value s.kids) in
    when_append (p k) (g a k v ks) (listed p g ks ++ listed p g rs)
    ∙ ap (λ (xs : List B). cond (p k) (g a k v ks ∷ xs) xs)
    (ap₂ ◌++◌ (listed_spots p g ks) (listed_spots p g rs)
    ∙ sym (chosen_append (λ (s : Spot). p s.kind) (λ (s : Spot). g s.number s.kind s.value s.kids) (spots_in ks) (spots_in rs)))

module _ (f : Forest) (t : List ℕ) (at : ℕ) (r : Reads t at f) where
  -- the node that stands at a place
  spot : (i : ℕ) → 8 * i < length t → (s : Spot) × (get_elem? (spots_in f) i ≡ some s)
  spot i h = at_some (spots_in f) i (omega (arith, reads_length f t at r, spots_count f))

  module _ (p : ℕ → Bool) where
    pub listed-tally : {B : Type 0} (g : ℕ → ℕ → ℕ → Forest → B) → length (listed p g f) ≡ tally (λ i. p (kind_at t i)) (count_of f)
    listed-tally g =
        ap length (listed_spots p g f)
        ∙ chosen-tally (λ (s : Spot). p s.kind) (λ (s : Spot). g s.number s.kind s.value s.kids) (λ i. p (kind_at t i)) (spots_in f)
        (λ i s e. ap p (spot_at f t at i s r e).kind)
        ∙ ap (tally (λ i. p (kind_at t i))) (spots_count f)

    module _ (h : ℕ → ℕ → ℕ → ℕ) where
      -- what is said of node i of the part
      abbrev pub said : ℕ → ℕ
      said i = h (at + i) (kind_at t i) (value_at t i)

      -- a node of the part that passes and of which x is said
      pub record Found (x : ℕ) : Type 0 where
        pub index : ℕ
        pub inside : 8 * index < length t
        pub passes : p (kind_at t index) ≡ true
        pub is : x ≡ said index

      passes : Spot → Bool
      passes s = p s.kind

      says : Spot → ℕ
      says s = h s.number s.kind s.value

      spots : listed p (λ a k v ks. h a k v) f ≡ chosen passes says (spots_in f)
      unfolding passes says
      spots = listed_spots p (λ a k v ks. h a k v) f

      passes_at : (i : ℕ) (s : Spot) → get_elem? (spots_in f) i ≡ some s → passes s ≡ p (kind_at t i)
      unfolding passes
      passes_at i s e = ap p (spot_at f t at i s r e).kind

      says_at : (i : ℕ) (s : Spot) → get_elem? (spots_in f) i ≡ some s → says s ≡ said i
      unfolding says
      says_at i s e = let q = spot_at f t at i s r e in rw (q.number, q.kind, q.value)

      inside_at : (i : ℕ) (s : Spot) → get_elem? (spots_in f) i ≡ some s → 8 * i < length t
      inside_at i s e = omega (arith, at-below (spots_in f) i s e, reads_length f t at r, spots_count f)

      pub listed_in : (x : ℕ) → In x (listed p (λ a k v ks. h a k v) f) → Found x
      listed_in x m =
          let d = chosen_in passes says x (spots_in f) (subst (In x) spots m) in
          record {
            index = d.index;
            inside = inside_at d.index d.one d.at;
            passes = sym (passes_at d.index d.one d.at) ∙ d.passes;
            is = d.is ∙ says_at d.index d.one d.at;
          }

      pub in_listed : (i : ℕ) → 8 * i < length t → p (kind_at t i) ≡ true → In (said i) (listed p (λ a k v ks. h a k v) f)
      in_listed i l e =
          let d = spot i l in
          subst (In (said i)) (sym spots)
          (subst (λ (x : ℕ). In x (chosen passes says (spots_in f))) (says_at i d.0 d.1) (in_chosen passes says (spots_in f) i d.0 d.1 (passes_at i d.0 d.1 ∙ e)))

      -- no two nodes that pass have the same said of them
      abbrev pub Apart : Type 0
      Apart = (i j : ℕ) → i < j → 8 * j < length t → p (kind_at t i) ≡ true → p (kind_at t j) ≡ true → said i ≡ said j → ⊥

      pub listed_distinct : Apart → Distinct (listed p (λ a k v ks. h a k v) f)
      listed_distinct q =
          subst Distinct (sym spots)
          (chosen_distinct passes says (spots_in f) (λ i j a b l e d u v w.
          q i j l (inside_at j b d) (sym (passes_at i a e) ∙ u) (sym (passes_at j b d) ∙ v) (sym (says_at i a e) ∙ w ∙ says_at j b d)))

      pub distinct_listed : Distinct (listed p (λ a k v ks. h a k v) f) → Apart
      distinct_listed q i j l m u v w =
          let a = spot i (omega arith) in
          let b = spot j m in
          distinct_chosen passes says (spots_in f) (subst Distinct spots q) i j a.0 b.0 l a.1 b.1
          (passes_at i a.0 a.1 ∙ u) (passes_at j b.0 b.1 ∙ v) (says_at i a.0 a.1 ∙ w ∙ sym (says_at j b.0 b.1))

-- ---- all nodes

module _ (f : Forest) (t : List ℕ) (at : ℕ) (r : Reads t at f) where
  -- what is said of each node by its number, kind and value, in node order, is said of the bytes node by node
  pub listed_up_to : {B : Type 0} (h : ℕ → ℕ → ℕ → B) → listed (λ k. true) (λ a k v ks. h a k v) f ≡ up_to (λ i. h (at + i) (kind_at t i) (value_at t i)) (count_of f)
  listed_up_to {B} h =
      let all = chosen (λ (s : Spot). true) (λ (s : Spot). h s.number s.kind s.value) (spots_in f) in
      let e : listed (λ k. true) (λ a k v ks. h a k v) f ≡ all = listed_spots (λ k. true) (λ a k v ks. h a k v) f in
      let n : length all ≡ count_of f = ap length (sym e) ∙ listed-tally f t at r (λ k. true) (λ a k v ks. h a k v) ∙ tally_all (count_of f) in
      e
      ∙ up_to_is (λ i. h (at + i) (kind_at t i) (value_at t i)) all (λ i b d.
      let s = chosen_all (λ (s : Spot). true) (λ (s : Spot). h s.number s.kind s.value) (λ s. refl) (spots_in f) i b d in
      let q = spot_at f t at i s.0 r s.1 in
      s.2 ∙ rw (q.number, q.kind, q.value))
      ∙ ap (up_to (λ i. h (at + i) (kind_at t i) (value_at t i))) n

  pub nodes_up_to : nodes_in f ≡ up_to (λ i. at + i) (count_of f)
  unfolding nodes_in
  nodes_up_to = listed_up_to (λ a k v. a)

  pub nodes_count : length (nodes_in f) ≡ count_of f
  nodes_count = ap length nodes_up_to ∙ up_to_length (λ i. at + i) (count_of f)

  pub nodes_distinct : Distinct (nodes_in f)
  unfolding nodes_in
  nodes_distinct = listed_distinct f t at r (λ k. true) (λ a k v. a) (λ i j l m u v w. omega arith)

  pub nodes_below : (x : ℕ) → In x (nodes_in f) → (at ≤ x) × (x < at + count_of f)
  unfolding nodes_in
  nodes_below x m = let d = listed_in f t at r (λ k. true) (λ a k v. a) x m in omega (arith, d.inside, d.is, reads_length f t at r)

module _ (f : Forest) (t : List ℕ) (at : ℕ) (r : Reads t at f) where
  pub scopes_in_lem : (x : ℕ) → In x (scopes_in f) → Found f t at r is_scope (λ a k v. v) x
  unfolding scopes_in
  scopes_in_lem = listed_in f t at r is_scope (λ a k v. v)

  pub in_scopes : (i : ℕ) → 8 * i < length t → is_scope (kind_at t i) ≡ true → In (value_at t i) (scopes_in f)
  unfolding scopes_in
  in_scopes = in_listed f t at r is_scope (λ a k v. v)

  pub scopes_distinct : Apart f t at r is_scope (λ a k v. v) → Distinct (scopes_in f)
  unfolding scopes_in
  scopes_distinct = listed_distinct f t at r is_scope (λ a k v. v)

  pub distinct_scopes : Distinct (scopes_in f) → Apart f t at r is_scope (λ a k v. v)
  unfolding scopes_in
  distinct_scopes = distinct_listed f t at r is_scope (λ a k v. v)

  pub scopes_tally : length (scopes_in f) ≡ tally (λ i. is_scope (kind_at t i)) (count_of f)
  unfolding scopes_in
  scopes_tally = listed-tally f t at r is_scope (λ a k v ks. v)
