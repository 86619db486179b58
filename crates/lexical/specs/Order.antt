-- In which order names are resolved: the Idents, and between them the comprehensions' blocks. Document 01's errors and comprehension slots come in this order.
use Rattle.std.specs.Prelude.{◌≡◌, refl, List, [], ◌∷◌, ◌++◌, map, Bool, true, false, ℕ}
use Rattle.std.proofs.Common.{ap, sym, ◌∙◌, append_assoc}
use Rattle.std.proofs.Math.Option.{Option}
use Rattle.lexical.specs.Tree.{in_order, inside, opening, behind, is_compr, is_look, is_fn, when, turn, Turn, listed, Forest, nil, node, empty, Way, way}
use Rattle.lexical.specs.Binders.{Names, Target, targets}
use Rattle.lexical.specs.Meaning.{Around, declares, Site, around}

-- resolving goes in steps: an Ident is looked up, a comprehension's variables are bound
pub data Step : Type 0 where
  ident : Site → Step
  opens : List Target → Step

unfoldable pub site_here : Way → ℕ → ℕ → List Around → List Step
site_here w at n up = when (is_look w) (ident (record { node = at; name = n; above = up }))

-- a child's steps `a` and its later siblings' `b`
unfoldable pub arranged : Turn → List Target → List Step → List Step → List Step
arranged in_order ts a b = a ++ b
arranged inside ts a b = a ++ b
arranged opening ts a b = a ++ (opens ts ∷ b)
arranged behind ts a b = b ++ a

-- the steps among the children of a node w, s, ts; f: is the first of them the node's first child; `up` is around that node
unfoldable pub steps : Names → Forest → Way → ℕ → List Target → Bool → List Around → List Step
steps N nil w s ts f up = []
steps N (node at k v kids rest) w s ts f up =
    let here = around w s ts f (empty rest) ∷ up in
    arranged (turn w f (empty rest)) ts (site_here (way k) at v here ++ steps N kids (way k) v (targets N k kids) true here) (steps N rest w s ts false up)

unfoldable pub idents : List Step → List Site
idents [] = []
idents (ident x ∷ xs) = x ∷ idents xs
idents (opens ts ∷ xs) = idents xs

unfoldable pub blocks : List Step → List (List Target)
blocks [] = []
blocks (ident x ∷ xs) = blocks xs
blocks (opens ts ∷ xs) = ts ∷ blocks xs

-- a block's Names, each with the first Name there that declares the same
unfoldable pub block_names : List Target → List (ℕ × Option ℕ)
block_names ts = map (λ (t : Target). (t.node, declares t.name ts)) ts

unfoldable pub all_names : List (List Target) → List (ℕ × Option ℕ)
all_names [] = []
all_names (ts ∷ tss) = block_names ts ++ all_names tss

pub idents_append : (xs ys : List Step) → idents (xs ++ ys) ≡ idents xs ++ idents ys
unfolding idents
idents_append [] ys = refl
idents_append (ident x ∷ xs) ys = ap (λ l. x ∷ l) (idents_append xs ys)
idents_append (opens ts ∷ xs) ys = idents_append xs ys

pub blocks_append : (xs ys : List Step) → blocks (xs ++ ys) ≡ blocks xs ++ blocks ys
unfolding blocks
blocks_append [] ys = refl
blocks_append (ident x ∷ xs) ys = blocks_append xs ys
blocks_append (opens ts ∷ xs) ys = ap (λ l. ts ∷ l) (blocks_append xs ys)

pub all_names_append : (xs ys : List (List Target)) → all_names (xs ++ ys) ≡ all_names xs ++ all_names ys
unfolding all_names
all_names_append [] ys = refl
all_names_append (ts ∷ xs) ys = ap (λ l. block_names ts ++ l) (all_names_append xs ys) ∙ sym (append_assoc (block_names ts) (all_names xs) (all_names ys))

-- the blocks of the Defs and Lambdas, of the comprehensions, in node order
unfoldable pub fn_blocks : Names → Forest → List (List Target)
fn_blocks N f = listed (λ k. is_fn (way k)) (λ at k v kids. targets N k kids) f

unfoldable pub compr_blocks : Names → Forest → List (List Target)
compr_blocks N f = listed (λ k. is_compr (way k)) (λ at k v kids. targets N k kids) f
