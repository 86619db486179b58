-- Idents by their nodes: each Ident of the node list is looked up, under the name that its node holds, with the nodes around it.
--     ident_event   the lookup of an Ident
use Rattle.std.specs.Prelude.{ℕ, zero, suc, ◌+◌, ◌*◌, ◌<◌, ◌≡◌, ◌⊎◌, Bool, true, false, List, [], ◌∷◌, ◌++◌, length}
use Rattle.std.proofs.Math.Path.{refl, subst}
use Rattle.std.proofs.Common.{sym, ap, ◌∙◌, inl, inr, ⊎_elim}
use Rattle.std.proofs.Math.Option.{some}
use native.Mathlib.Omega.{arith}
use Rattle.std.proofs.Math.ListN.{get_elem?}
use Rattle.base.specs.UpTo.{at_behind}
use Rattle.lexical.specs.Lists.{none-some, either}
use Rattle.lexical.specs.Places.{In, at_append}
use Rattle.lexical.specs.Tree.{Forest, nil, node, Way, plain, is_look, way, empty, when, turn, Turn, in_order, inside, opening, behind, idents_in}
use Rattle.lexical.specs.Binders.{Names, Target, targets}
use Rattle.lexical.specs.Module.{File, outer_of}
use Rattle.lexical.specs.Meaning.{Around, around, Site}
use Rattle.lexical.specs.Order.{Step, ident, opens, site_here, arranged, steps, idents, idents_append}
use Rattle.lexical.specs.State.{Event}
use Rattle.lexical.specs.Third.{resolved}
use Rattle.lexical.specs.Claims.{Scoped, view, told, ancestors}
use Rattle.lexical.proofs.Theorems.{T1_all, T1_at}
use Rattle.lexical.proofs.Theory.Outcome.{site_of, node_of, name_of}
use Rattle.nodefile.specs.Reads.{Reads}
use Rattle.nodefile.specs.Order.{Spot, spots_in}
use Rattle.nodefile.proofs.Laws.Order.{spot_at}
use Rattle.nodefile.specs.Listed.{kind_at, value_at}
use Rattle.nodefile.proofs.Laws.Listed.{in_listed, nodes_distinct}
use Rattle.scope.specs.Laws.Lists.{times_in, found_at}

-- ---- somewhere in a list

abbrev Elem : {A : Type 0} → A → List A → Type 0
Elem x xs = (j : ℕ) × (get_elem? xs j ≡ some x)

elem_append : {A : Type 0} (x : A) (xs ys : List A) → Elem x (xs ++ ys) → Elem x xs ⊎ Elem x ys
elem_append x [] ys e = inr e
elem_append x (y ∷ xs) ys (zero, e) = inl (0, e)
elem_append x (y ∷ xs) ys (suc j, e) = go (elem_append x xs ys (j, e))
  where
    go : Elem x xs ⊎ Elem x ys → Elem x (y ∷ xs) ⊎ Elem x ys
    go (inl (k, q)) = inl (suc k, q)
    go (inr q) = inr q

-- ---- an Ident's step has its node's name

-- some node of f has this number and this value
pub record Noded (f : Forest) (x : Site) : Type 0 where
  pub place : ℕ
  pub spot : Spot
  pub stands : get_elem? (spots_in f) place ≡ some spot
  pub number : spot.number ≡ x.node
  pub value : spot.value ≡ x.name

in_kids_lem : {a k v : ℕ} {kids rest : Forest} {x : Site} → Noded kids x → Noded (node a k v kids rest) x
unfolding spots_in
in_kids_lem {kids = kids} {rest = rest} n = record { place = suc n.place; spot = n.spot; stands = at_append (spots_in kids) (spots_in rest) n.place n.spot n.stands; number = n.number; value = n.value }

in_rest_lem : {a k v : ℕ} {kids rest : Forest} {x : Site} → Noded rest x → Noded (node a k v kids rest) x
unfolding spots_in
in_rest_lem {kids = kids} {rest = rest} n = record { place = suc (length (spots_in kids) + n.place); spot = n.spot; stands = at_behind (spots_in kids) (spots_in rest) n.place ∙ n.stands; number = n.number; value = n.value }

here : (a k v : ℕ) (kids rest : Forest) (up : List Around) → Noded (node a k v kids rest) (record { node = a; name = v; above = up })
unfolding spots_in
here a k v kids rest up = record { place = 0; spot = record { number = a; kind = k; value = v; kids = kids }; stands = refl; number = refl; value = refl }

arranged_in : (t : Turn) (ts : List Target) (xs ys : List Step) (x : Site) → Elem x (idents (arranged t ts xs ys)) → Elem x (idents xs) ⊎ Elem x (idents ys)
unfolding arranged
arranged_in in_order ts xs ys x e = elem_append x (idents xs) (idents ys) (subst (Elem x) (idents_append xs ys) e)
arranged_in inside ts xs ys x e = elem_append x (idents xs) (idents ys) (subst (Elem x) (idents_append xs ys) e)
arranged_in opening ts xs ys x e = elem_append x (idents xs) (idents ys) (unfold idents in subst (Elem x) (idents_append xs (opens ts ∷ ys)) e)
arranged_in behind ts xs ys x e = ⊎_elim (λ a. inr a) (λ a. inl a) (elem_append x (idents ys) (idents xs) (subst (Elem x) (idents_append ys xs) e))

here_in : (w : Way) (at n : ℕ) (up : List Around) (x : Site) → Elem x (idents (site_here w at n up)) → record { node = at; name = n; above = up } ≡ x
unfolding site_here when idents
here_in w at n up x = either (is_look w) (λ b. Elem x (idents (when b (ident (record { node = at; name = n; above = up })))) → record { node = at; name = n; above = up } ≡ x) (λ e. yes' e) (λ e. absurd (none-some refl e.1))
  where
    yes' : Elem x (record { node = at; name = n; above = up } ∷ []) → record { node = at; name = n; above = up } ≡ x
    yes' (zero, e) = cc
    yes' (suc j, e) = absurd (none-some refl e)

noded : (N : Names) (f : Forest) (w : Way) (s : ℕ) (ts : List Target) (b : Bool) (up : List Around) (x : Site) → Elem x (idents (steps N f w s ts b up)) → Noded f x
unfolding steps
noded N nil w s ts b up x e = absurd (unfold idents in none-some refl e.1)
noded N (node at k v kids rest) w s ts b up x e =
    let above = around w s ts b (empty rest) ∷ up in
    let own = site_here (way k) at v above in
    let below = steps N kids (way k) v (targets N k kids) true above in
    ⊎_elim
    (λ p. ⊎_elim
    (λ q. subst (Noded (node at k v kids rest)) (here_in (way k) at v above x q) (here at k v kids rest above))
    (λ q. in_kids_lem (noded N kids (way k) v (targets N k kids) true above x q))
    (elem_append x (idents own) (idents below) (subst (Elem x) (idents_append own below) p)))
    (λ p. in_rest_lem (noded N rest w s ts false up x p))
    (arranged_in (turn w b (empty rest)) ts (own ++ below) (steps N rest w s ts false up) x e)

-- ---- and each Ident is looked up

-- the lookup of the Ident at node x, whose name is n
pub record Lookup (F : File) (x n : ℕ) : Type 0 where
  pub place : ℕ
  pub event : Event
  pub stands : get_elem? (resolved F).log place ≡ some event
  pub up : List Around
  pub above : ancestors F.names x F.root plain 0 [] true [] ≡ some up
  pub told_so : view event ≡ told (outer_of F) (record { node = x; name = n; above = up })

module _ (F : File) (ok : Scoped F) (t : List ℕ) (r : Reads t 0 F.root) where
  named_so : (j : ℕ) (e : Event) → get_elem? (resolved F).log j ≡ some e → e.name ≡ value_at t e.node
  named_so j e q =
      let (s, at, v) = site_of F ok j e q in
      let n = noded F.names F.root plain 0 [] true [] s (j, at) in
      let p = spot_at F.root t 0 n.place n.spot r n.stands in
      let z : n.place ≡ e.node = omega (arith, p.number, n.number, node_of F e s v) in
      name_of F e s v ∙ sym n.value ∙ p.value ∙ ap (value_at t) z

  looked : (j : ℕ) (e : Event) (x : ℕ) → get_elem? (resolved F).log j ≡ some e → e.node ≡ x → (up : List Around) → ancestors F.names e.node F.root plain 0 [] true [] ≡ some up
      → view e ≡ told (outer_of F) (record { node = e.node; name = e.name; above = up }) → Lookup F x (value_at t x)
  looked j e x at n up a v = rw (← n) (record { place = j; event = e; stands = at; up = up; above = a; told_so = v ∙ ap (λ (k : ℕ). told (outer_of F) (record { node = e.node; name = k; above = up })) (named_so j e at) })

  pub ident_event : (x : ℕ) → 8 * x < length t → kind_at t x ≡ 11 → Lookup F x (value_at t x)
  unfolding idents_in is_look way
  ident_event x h k =
      let z : 0 + x ≡ x = omega arith in
      let m : In x (idents_in F.root) = subst (λ (i : ℕ). In i (idents_in F.root)) z (in_listed F.root t 0 r (λ k. is_look (way k)) (λ a k v. a) x h (rw k refl)) in
      let (j, e, at, n) = found_at (λ (e : Event). e.node) x (resolved F).log (omega (arith, T1_all F ok x, times_in x (idents_in F.root) m)) in
      let (up, a, v) = T1_at F ok (nodes_distinct F.root t 0 r) j e at in
      looked j e x at n up a v
