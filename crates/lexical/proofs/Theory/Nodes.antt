-- Idents by their node numbers: the nodes around each, the errors in order, and that every Ident of the tree is looked up.
use Rattle.std.specs.Prelude.{◌≡◌, Bool}
use Rattle.std.proofs.Math.Path.{refl, sym, ap, ap₂, subst}
use Rattle.std.proofs.Common.{◌∙◌, inl, inr}
use mathlib.Core.List.{List, [], ◌∷◌, ◌++◌, map, map-append, map-map}
use Rattle.std.proofs.Math.Bool.{true, false}
use Rattle.std.proofs.Math.Option.{none, some}
use Prim.Native.Nat.{ℕ, zero, suc, ◌+◌}
use native.Mathlib.Omega.{arith}
use Rattle.std.proofs.Math.ListN.{get_elem?}
use Rattle.lexical.specs.Lists.{either, or_else, eqb_self, eqb-not, none-some}
use Rattle.lexical.specs.Places.{map_at, map-from, In, Distinct, in_left, in_right, distinct_left, distinct_right, disjoint}
use Rattle.lexical.specs.Sums.{times, total, total_append, one}
use Rattle.lexical.specs.Tree.{Turn, turn, in_order, inside, opening, behind, is_look, when, listed, empty, Forest, nil, node, Way, plain, way, nodes_in, idents_in}
use Rattle.lexical.specs.Binders.{Names, Target, targets}
use Rattle.lexical.specs.Module.{File, outer_of}
use Rattle.lexical.specs.Meaning.{Around, around, Site, Meaning}
use Rattle.lexical.specs.Order.{Step, ident, opens, site_here, arranged, steps, idents, idents_append}
use Rattle.lexical.specs.State.{Found, Event}
use Rattle.lexical.specs.Third.{resolved}
use Rattle.lexical.specs.Records.{error_row, errors}
use Rattle.lexical.specs.Claims.{seen, view, told, Scoped, ancestors, meaning_error, told_errors}
use Rattle.lexical.proofs.Theory.Last.{told_all}
use Rattle.lexical.proofs.Theory.Listed.{listed-total}

abbrev All : (Site → Type 0) → List Step → Type 0
All P [] = Unit {0}
All P (ident x ∷ xs) = P x × All P xs
All P (opens ts ∷ xs) = All P xs

all_append : (P : Site → Type 0) (xs ys : List Step) → All P xs → All P ys → All P (xs ++ ys)
all_append P [] ys a b = b
all_append P (ident x ∷ xs) ys a b = (a.0, all_append P xs ys a.1 b)
all_append P (opens ts ∷ xs) ys a b = all_append P xs ys a b

all_map : (P Q : Site → Type 0) → ((x : Site) → P x → Q x) → (xs : List Step) → All P xs → All Q xs
all_map P Q h [] a = tt
all_map P Q h (ident x ∷ xs) a = (h x a.0, all_map P Q h xs a.1)
all_map P Q h (opens ts ∷ xs) a = all_map P Q h xs a

all_arranged : (P : Site → Type 0) (t : Turn) (ts : List Target) (xs ys : List Step) → All P xs → All P ys → All P (arranged t ts xs ys)
unfolding arranged
all_arranged P in_order ts xs ys a b = all_append P xs ys a b
all_arranged P inside ts xs ys a b = all_append P xs ys a b
all_arranged P opening ts xs ys a b = all_append P xs (opens ts ∷ ys) a b
all_arranged P behind ts xs ys a b = all_append P ys xs b a

all_here : (P : Site → Type 0) (w : Way) (at n : ℕ) (up : List Around) → P (record { node = at; name = n; above = up }) → All P (site_here w at n up)
unfolding site_here when
all_here P w at n up h = either (is_look w) (λ b. All P (when b (ident (record { node = at; name = n; above = up })))) (h, tt) tt

pub no_ancestors : (N : Names) (i : ℕ) (f : Forest) (w : Way) (s : ℕ) (ts : List Target) (b : Bool) (up : List Around) → (In i (nodes_in f) → ⊥) → ancestors N i f w s ts b up ≡ none
unfolding ancestors nodes_in listed when or_else
no_ancestors N i nil w s ts b up n = refl
no_ancestors N i (node at k v kids rest) w s ts b up n =
    let here = around w s ts b (empty rest) ∷ up in
    rw (eqb-not at i (λ e. n (inl (sym e))), no_ancestors N i kids (way k) v (targets N k kids) true here (λ m. n (inr (in_left i (nodes_in kids) (nodes_in rest) m))))
    (no_ancestors N i rest w s ts false up (λ m. n (inr (in_right i (nodes_in kids) (nodes_in rest) m))))

-- a site of a forest: its node is there, and the nodes around it are those above it
abbrev Placed : Names → Forest → Way → ℕ → List Target → Bool → List Around → Site → Type 0
Placed N f w s ts b up x = In x.node (nodes_in f) × (ancestors N x.node f w s ts b up ≡ some x.above)

pub placed : (N : Names) (f : Forest) (w : Way) (s : ℕ) (ts : List Target) (b : Bool) (up : List Around) → Distinct (nodes_in f) → All (Placed N f w s ts b up) (steps N f w s ts b up)
unfolding steps nodes_in listed when
placed N nil w s ts b up d = tt
placed N (node at k v kids rest) w s ts b up d =
    let here = around w s ts b (empty rest) ∷ up in
    let whole : Site → Type 0 = Placed N (node at k v kids rest) w s ts b up in
    all_arranged whole (turn w b (empty rest)) ts _ (steps N rest w s ts false up)
    (all_append whole (site_here (way k) at v here) _
    (all_here whole (way k) at v here (inl refl, unfold ancestors in (rw (eqb_self at) refl)))
    (all_map (Placed N kids (way k) v (targets N k kids) true here) whole
    (λ x p. (inr (in_left x.node (nodes_in kids) (nodes_in rest) p.0), in_kids x p)) (steps N kids (way k) v (targets N k kids) true here)
    (placed N kids (way k) v (targets N k kids) true here (distinct_left (nodes_in kids) (nodes_in rest) d.1))))
    (all_map (Placed N rest w s ts false up) whole
    (λ x p. (inr (in_right x.node (nodes_in kids) (nodes_in rest) p.0), in_rest x p)) (steps N rest w s ts false up)
    (placed N rest w s ts false up (distinct_right (nodes_in kids) (nodes_in rest) d.1)))
  where
    in_kids : (x : Site) → Placed N kids (way k) v (targets N k kids) true (around w s ts b (empty rest) ∷ up) x → ancestors N x.node (node at k v kids rest) w s ts b up ≡ some x.above
    in_kids x p = unfold ancestors or_else in (rw (eqb-not at x.node (λ e. d.0 (subst (λ y. In y (nodes_in kids ++ nodes_in rest)) (sym e) (in_left x.node (nodes_in kids) (nodes_in rest) p.0))), p.1) refl)

    in_rest : (x : Site) → Placed N rest w s ts false up x → ancestors N x.node (node at k v kids rest) w s ts b up ≡ some x.above
    in_rest x p = unfold ancestors or_else in (rw (
      eqb-not at x.node (λ e. d.0 (subst (λ y. In y (nodes_in kids ++ nodes_in rest)) (sym e) (in_right x.node (nodes_in kids) (nodes_in rest) p.0))),
      no_ancestors N x.node kids (way k) v (targets N k kids) true (around w s ts b (empty rest) ∷ up) (λ m. disjoint x.node (nodes_in kids) (nodes_in rest) d.1 m p.0),
    ) p.1)

all_at : (P : Site → Type 0) (xs : List Step) (j : ℕ) (x : Site) → All P xs → get_elem? (idents xs) j ≡ some x → P x
unfolding idents
all_at P [] j x a e = absurd (none-some refl e)
all_at P (ident y ∷ xs) zero x a e = let z : y ≡ x = cc in subst P z a.0
all_at P (ident y ∷ xs) (suc j) x a e = all_at P xs j x a.1 e
all_at P (opens ts ∷ xs) j x a e = all_at P xs j x a e

-- T1 by node number: the nodes around the Ident decide what was found there, and the scopes
pub at_node : (F : File) → Scoped F → Distinct (nodes_in F.root) → (j : ℕ) (e : Event) → get_elem? (resolved F).log j ≡ some e
    → (up : List Around) × (ancestors F.names e.node F.root plain 0 [] true [] ≡ some up) × (view e ≡ told (outer_of F) (record { node = e.node; name = e.name; above = up }))
at_node F ok d j e q = go (map-from (told (outer_of F)) (idents (steps F.names F.root plain 0 [] true [])) j (view e)
    (subst (λ l. get_elem? l j ≡ some (view e)) (told_all F ok).looks (map_at view (resolved F).log j e q)))
  where
    go : (x : Site) × (get_elem? (idents (steps F.names F.root plain 0 [] true [])) j ≡ some x) × (told (outer_of F) x ≡ view e)
        → (up : List Around) × (ancestors F.names e.node F.root plain 0 [] true [] ≡ some up) × (view e ≡ told (outer_of F) (record { node = e.node; name = e.name; above = up }))
    go (x, a, b) =
        let n : x.node ≡ e.node = (unfold told view in ap (λ t. t.0) b) in
        let m : x.name ≡ e.name = (unfold told view in ap (λ t. t.1) b) in (
          x.above,
          subst (λ i. ancestors F.names i F.root plain 0 [] true [] ≡ some x.above) n (all_at (Placed F.names F.root plain 0 [] true []) (steps F.names F.root plain 0 [] true []) j x (placed F.names F.root plain 0 [] true [] d) a).1,
          sym b ∙ ap₂ (λ i k. told (outer_of F) (record { node = i; name = k; above = x.above })) n m,
        )

error_seen : (at : ℕ) (f : Found) → error_row at f ≡ meaning_error at (seen f)
unfolding error_row meaning_error seen
error_seen at (Found.local b k) = refl
error_seen at (Found.refused b k) = refl
error_seen at (Found.outside o) = refl

errors-view : (es : List Event) → errors es ≡ told_errors (map view es)
unfolding errors told_errors view
errors-view [] = refl
errors-view (e ∷ es) = ap₂ ◌++◌ (error_seen e.node e.found) (errors-view es)

pub errors-told : (F : File) → Scoped F → errors (resolved F).log ≡ told_errors (map (told (outer_of F)) (idents (steps F.names F.root plain 0 [] true [])))
errors-told F ok = errors-view (resolved F).log ∙ ap told_errors (told_all F ok).looks

abbrev found : List Step → List ℕ
found xs = map (λ (x : Site). x.node) (idents xs)

-- of any weight: the Idents that the steps look up, and those of the tree
module _ (u : ℕ → ℕ) where
  found_append : (xs ys : List Step) → total u (found (xs ++ ys)) ≡ total u (found xs) + total u (found ys)
  found_append xs ys = ap (λ l. total u (map (λ (x : Site). x.node) l)) (idents_append xs ys) ∙ ap (total u) (map-append _ (idents xs) (idents ys)) ∙ total_append u (found xs) (found ys)

  found-arranged : (t : Turn) (ts : List Target) (xs ys : List Step) → total u (found (arranged t ts xs ys)) ≡ total u (found xs) + total u (found ys)
  unfolding arranged idents
  found-arranged in_order ts xs ys = found_append xs ys
  found-arranged inside ts xs ys = found_append xs ys
  found-arranged opening ts xs ys = found_append xs (opens ts ∷ ys)
  found-arranged behind ts xs ys = omega (arith, found_append ys xs)

  found_here : (w : Way) (at n : ℕ) (up : List Around) → total u (found (site_here w at n up)) ≡ total u (when (is_look w) at)
  unfolding site_here when idents
  found_here w at n up = either (is_look w) (λ b. total u (found (when b (ident (record { node = at; name = n; above = up })))) ≡ total u (when b at)) refl refl

  pub all_found : (N : Names) (f : Forest) (w : Way) (s : ℕ) (ts : List Target) (b : Bool) (up : List Around) → total u (found (steps N f w s ts b up)) ≡ total u (idents_in f)
  unfolding steps idents_in
  all_found N nil w s ts b up = unfold idents listed in refl
  all_found N (node at k v kids rest) w s ts b up =
      let here = around w s ts b (empty rest) ∷ up in
      omega (
        arith,
        found-arranged (turn w b (empty rest)) ts (site_here (way k) at v here ++ steps N kids (way k) v (targets N k kids) true here) (steps N rest w s ts false up),
        found_append (site_here (way k) at v here) (steps N kids (way k) v (targets N k kids) true here),
        found_here (way k) at v here,
        all_found N kids (way k) v (targets N k kids) true here,
        all_found N rest w s ts false up,
        listed-total (λ k. is_look (way k)) (λ at k v kids. at) u at k v kids rest,
      )

-- T1 of all Idents: the lookups are at the Idents, each as often as it stands in the tree
pub idents_all : (F : File) → Scoped F → (i : ℕ) → times i (map (λ (e : Event). e.node) (resolved F).log) ≡ times i (idents_in F.root)
idents_all F ok i = ap (times i) (nodes (resolved F).log (idents (steps F.names F.root plain 0 [] true [])) (told_all F ok).looks) ∙ all_found (one i) F.names F.root plain 0 [] true []
  where
    nodes : (es : List Event) (xs : List Site) → map view es ≡ map (told (outer_of F)) xs → map (λ (e : Event). e.node) es ≡ map (λ (x : Site). x.node) xs
    nodes es xs e = unfold view told in (sym (map-map (λ (t : ℕ × ℕ × List ℕ × Meaning). t.0) view es) ∙ ap (map (λ (t : ℕ × ℕ × List ℕ × Meaning). t.0)) e ∙ map-map (λ (t : ℕ × ℕ × List ℕ × Meaning). t.0) (told (outer_of F)) xs)
