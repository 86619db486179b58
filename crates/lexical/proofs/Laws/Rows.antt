-- Every Name that stands in a block has a binding, and in a tree of the table's shape that is every Name.
use Rattle.std.specs.Prelude.{◌≡◌, refl, List, [], ◌∷◌, ◌++◌, map, true, cond, ℕ, zero, suc, ◌+◌, ◌≤◌, eqb}
use Rattle.std.proofs.Common.{sym, ◌∙◌, ap, inl, inr, arith}
use Rattle.std.proofs.Math.Option.{Option, none, some}
use Rattle.std.proofs.Math.ListN.{get_elem?}
use Rattle.lexical.specs.Lists.{map_o, or_else, none-some, eqb_self, eqb-true, Tested, was, wasnt, tested, Opened, absent, present, opened}
use Rattle.lexical.specs.Places.{Distinct, first_has, In, paired}
use Rattle.lexical.specs.Sums.{one, total, times, total-map}
use Rattle.lexical.specs.Tree.{nodes_in, plain, names_in}
use Rattle.lexical.specs.Table.{Headed, Tidy}
use Rattle.lexical.specs.Binders.{Target, collect, unmarked}
use Rattle.lexical.specs.Module.{File}
use Rattle.lexical.specs.Meaning.{declares}
use Rattle.lexical.specs.Order.{steps, blocks, fn_blocks, block_names, all_names}
use Rattle.lexical.specs.State.{Event, Binding, Named}
use Rattle.lexical.specs.Third.{resolved}
use Rattle.lexical.specs.Claims.{NameRow, name_view, Scoped, module_names}
use Rattle.lexical.proofs.Laws.Capacity.{names_idents, named_size}
use Rattle.lexical.proofs.Laws.Whole.{named_all}
use Rattle.lexical.proofs.Theory.Captured.{one_once}
use Rattle.lexical.proofs.Theory.Last.{told_all}
use Rattle.lexical.proofs.Theory.Nodes.{idents_all}

-- a target's name is declared among its block's targets
pub declares_has : (ts : List Target) (j : ℕ) (t : Target) → get_elem? ts j ≡ some t → declares t.name ts ≡ none → ⊥
unfolding declares
declares_has ts j t e n = first_has (λ (x : Target). eqb x.name t.name) ts j t e (eqb_self t.name) (empty_of _ n)
  where
    empty_of : (o : Option Target) → map_o (λ (t : Target). t.node) o ≡ none → o ≡ none
    empty_of none e = refl
    empty_of (some x) e = absurd (none-some {a = x.node} e (unfold map_o in refl))

unfoldable Full : List (ℕ × Option ℕ) → Type 0
Full [] = Unit {0}
Full (p ∷ l) = (p.1 ≡ none → ⊥) × Full l

full_append : (xs ys : List (ℕ × Option ℕ)) → Full xs → Full ys → Full (xs ++ ys)
unfolding Full
full_append [] ys a b = b
full_append (x ∷ xs) ys a b = (a.0, full_append xs ys a.1 b)

full_at : (l : List (ℕ × Option ℕ)) (j : ℕ) (p : ℕ × Option ℕ) → Full l → get_elem? l j ≡ some p → p.1 ≡ none → ⊥
unfolding Full
full_at [] j p h e n = none-some refl e
full_at (x ∷ l) zero p h e n = let z : x ≡ p = cc in h.0 (ap (λ (q : ℕ × Option ℕ). q.1) z ∙ n)
full_at (x ∷ l) (suc j) p h e n = full_at l j p h.1 e n

full-map : (o : Target → Option ℕ) (us : List Target) → ((j : ℕ) (t : Target) → get_elem? us j ≡ some t → o t ≡ none → ⊥) → Full (map (λ (t : Target). (t.node, o t)) us)
unfolding Full
full-map o [] h = tt
full-map o (t ∷ us) h = (h zero t refl, full-map o us (λ j x e n. h (suc j) x e n))

full_names : (tss : List (List Target)) → Full (all_names tss)
unfolding all_names block_names
full_names [] = unfold Full in tt
full_names (ts ∷ tss) = full_append _ (all_names tss) (full-map (λ t. declares t.name ts) ts (declares_has ts)) (full_names tss)

full_module : (F : File) → Full (module_names F)
unfolding module_names
full_module F = full-map _ (collect F.names unmarked F.root) (λ j t e n. declares_has (collect F.names unmarked F.root) j t e (neither _ _ n))
  where
    neither : (x y : Option ℕ) → or_else x y ≡ none → y ≡ none
    neither none y e = unfold or_else in e
    neither (some x) y e = absurd (none-some {a = x} e (unfold or_else in refl))

-- the binding of every Name that stands in a block is there
pub named_some : (F : File) → Scoped F → (j : ℕ) (x : Named) → get_elem? (resolved F).named j ≡ some x → (b : Binding) × (x.of ≡ some b)
named_some F ok j x e = go (opened x.of) (paired name_view (λ (p : ℕ × Option ℕ). p) (resolved F).named told ((told_all F ok).titles ∙ same told) j x e)
  where
    told : List (ℕ × Option ℕ)
    told = (module_names F ++ all_names (fn_blocks F.names F.root)) ++ all_names (blocks (steps F.names F.root plain 0 [] true []))

    same : (l : List (ℕ × Option ℕ)) → l ≡ map (λ (p : ℕ × Option ℕ). p) l
    same [] = refl
    same (p ∷ l) = ap (λ r. p ∷ r) (same l)

    all : Full told
    all = full_append _ _ (full_append _ _ (full_module F) (full_names _)) (full_names _)

    missing : x.of ≡ none → (name_view x).1 ≡ none
    missing q = unfold name_view map_o in (rw q refl)

    go : Opened x.of → (y : ℕ × Option ℕ) × (get_elem? told j ≡ some y) × (name_view x ≡ y) → (b : Binding) × (x.of ≡ some b)
    go (present b q) r = (b, q)
    go (absent q) (y, z, m) = absurd (full_at told j y all z (sym (ap (λ (p : ℕ × Option ℕ). p.1) m) ∙ missing q))

-- a weight that counts a number finds it
one_in : (x : ℕ) (l : List ℕ) → In x l → 1 ≤ total (one x) l
unfolding total one
one_in x (y ∷ l) (inl e) = rw (← e, eqb_self x) (omega arith)
one_in x (y ∷ l) (inr m) = omega (arith, one_in x l m)
one_in x [] x'' = elim x'' [ ]

one_found : (x : ℕ) (l : List Named) → 1 ≤ total (λ (y : Named). one x y.node) l → (j : ℕ) × (y : Named) × (get_elem? l j ≡ some y) × (y.node ≡ x)
unfolding total one
one_found x [] h = absurd (omega arith)
one_found x (y ∷ l) h = go (tested (eqb x y.node)) h (λ z. one_found x l z)
  where
    go : Tested (eqb x y.node) → 1 ≤ cond (eqb x y.node) 1 0 + total (λ (y : Named). cond (eqb x y.node) 1 0) l
        → (1 ≤ total (λ (y : Named). cond (eqb x y.node) 1 0) l → (j : ℕ) × (z : Named) × (get_elem? l j ≡ some z) × (z.node ≡ x)) → (j : ℕ) × (z : Named) × (get_elem? (y ∷ l) j ≡ some z) × (z.node ≡ x)
    go (was e) h rec = (zero, y, refl, sym (eqb-true x y.node e))
    go (wasnt e) h rec = let k : 1 ≤ 0 + total (λ (y : Named). cond (eqb x y.node) 1 0) l = rw e at h in let r = rec (omega arith) in (suc r.0, r.1, r.2, r.3)

pub named-every : (F : File) → Scoped F → Tidy F.root → (x : ℕ) → In x (names_in F.root) → NameRow F x
named-every F ok h x m = go (one_found x (resolved F).named (omega (arith, named_all F ok h (one x), one_in x (names_in F.root) m)))
  where
    go : (j : ℕ) × (y : Named) × (get_elem? (resolved F).named j ≡ some y) × (y.node ≡ x) → NameRow F x
    go (j, y, e, q) = let b = named_some F ok j y e in record { place = j; row = y; stands = e; of_node = q; binding = b.0; bound = b.1 }

-- a node has one row at most, among the Names' and the lookups' together: so a buffer by node holds them
pub node_once : (F : File) → Scoped F → Headed F.root → Distinct (nodes_in F.root) → (x : ℕ) → times x (map (λ (n : Named). n.node) (resolved F).named) + times x (map (λ (e : Event). e.node) (resolved F).log) ≤ 1
node_once F ok h d x = omega (
  arith,
  total-map (one x) (λ (n : Named). n.node) (resolved F).named,
  named_size (one x) F h,
  idents_all F ok x,
  names_idents (one x) F.root,
  one_once x (nodes_in F.root) d,
)
