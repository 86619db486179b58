-- In a tree of the table's shape every Name stands in a block, so each has its binding.
use Rattle.std.proofs.Common.{sym, ◌∙◌, ap₂}
use Rattle.std.proofs.Math.Path.{◌≡◌, refl, ap}
use mathlib.Core.List.{List, [], ◌∷◌, ◌++◌, map}
use Rattle.std.specs.Prelude.{Bool, ◌&&◌, ℕ, ◌+◌, length}
use Rattle.std.proofs.Math.Bool.{true, false, and-true, and-false}
use Rattle.std.proofs.Math.Option.{Option}
use native.Mathlib.Omega.{arith}
use Rattle.lexical.specs.Lists.{either}
use Rattle.lexical.specs.Sums.{total-map, total_append, total, total_ones}
use Rattle.lexical.specs.Tree.{Turn, turn, in_order, inside, opening, behind, is_look, is_fn, is_compr, is_name, when, listed, Forest, nil, node, empty, Way, plain, way, shut, name, pick, names_in}
use Rattle.lexical.specs.Table.{Exprs, TidyHere, Tidy}
use Rattle.lexical.specs.Binders.{Names, Marks, Target, target, gather, collect, unmarked, looping, targets}
use Rattle.lexical.specs.Module.{File}
use Rattle.lexical.specs.Meaning.{Around, around}
use Rattle.lexical.specs.Order.{compr_blocks, Step, ident, opens, site_here, arranged, steps, blocks, blocks_append, fn_blocks, block_names, all_names}
use Rattle.lexical.specs.State.{Named}
use Rattle.lexical.specs.Third.{resolved}
use Rattle.lexical.specs.Claims.{name_view, Scoped, module_names}
use Rattle.lexical.proofs.Laws.Collect.{collect_shut}
use Rattle.lexical.proofs.Theory.Count.{simple_given, names_node, def_given, deep_node, collect_node, own, given, own_share, deep, weigh, weigh_all, collect_any, plain_own, offered}
use Rattle.lexical.proofs.Theory.Kinds.{Sort, def6, name8, ident11, lambda12, compr13, other14, clause15, type18, simple, past, sort}
use Rattle.lexical.proofs.Theory.Last.{told_all}
use Rattle.lexical.proofs.Theory.Listed.{listed-total}
use Rattle.lexical.proofs.Theory.Sized.{opens-turn, opens_at}

-- the kinds of expressions
pub expr_shut : (pick 11 ≡ shut) × (pick 12 ≡ shut) × (pick 13 ≡ shut) × (pick 14 ≡ shut)
unfolding pick
expr_shut = (refl, refl, refl, refl)

pub exprs_none : (N : Names) (m : Marks) (f : Forest) → Exprs f → collect N m f ≡ []
unfolding Exprs
exprs_none N m nil h = unfold collect in refl
exprs_none N m (node at k v kids rest) h = collect_shut N m k h.0 at v kids rest ∙ exprs_none N m rest h.1

module _ (g : ℕ → ℕ) (N : Names) where
  no_weight : (f : Forest) → Exprs f → weigh g (collect N unmarked f) ≡ 0
  no_weight f h = rw (exprs_none N unmarked f h) (unfold total in refl)

  nil_weight : (f : Forest) → f ≡ nil → weigh g (collect N unmarked f) ≡ 0
  nil_weight f h = rw h (unfold collect total in refl)

  sort_whole : (k : ℕ) (m : Marks) (at v : ℕ) (kids : Forest) → Sort k → TidyHere k kids → given g N m at k v kids + own g N k kids ≡ offered g N k at kids
  unfolding pick way is_fn is_compr is_name when gather target targets total
  sort_whole k m at v kids (def6 e) h = rw e (def_given g N m at v kids (h.def e))
  sort_whole k m at v kids (name8 e) h = let z = nil_weight kids (h.name e) in rw e (omega arith)
  sort_whole k m at v kids (ident11 e) h = let z = nil_weight kids (h.ident e) in rw e (omega arith)
  sort_whole k m at v kids (lambda12 e) h = rw e (omega arith)
  sort_whole k m at v kids (compr13 e) h = rw e (omega (arith, collect_any g N kids looping unmarked))
  sort_whole k m at v kids (other14 e) h = let z = no_weight kids (h.other e) in rw e (omega arith)
  sort_whole k m at v kids (clause15 e) h = rw e (omega (arith, collect_any g N kids m unmarked))
  sort_whole k m at v kids (type18 e) h = let z = no_weight kids (h.type e) in rw e (omega arith)
  sort_whole k m at v kids (simple w p) h = omega (arith, plain_own g N k kids w, simple_given g N (pick k) m at v kids p)
  sort_whole k m at v kids (past l w p) h = absurd (omega (arith, h.low))

  -- what the block around takes of these nodes, the functions and the comprehensions: each Name once
  pub whole : (f : Forest) (m : Marks) → Tidy f → weigh g (collect N m f) + deep g N f ≡ total g (names_in f)
  whole nil m h = unfold collect fn_blocks compr_blocks names_in listed total in omega arith
  whole (node at k v kids rest) m h = let q : TidyHere k kids × Tidy kids × Tidy rest = (unfold Tidy in h) in omega (
    arith,
    sort_whole k m at v kids (sort k) q.0,
    whole kids unmarked q.1,
    whole rest m q.2,
    collect_node g N m at k v kids rest,
    deep_node g N at k v kids rest,
    names_node g N at k v kids rest,
  )

-- the comprehensions' blocks, as they are opened in resolving
module _ (g : ℕ → ℕ) (N : Names) where
  blocks_weight : (xs ys : List Step) → weigh_all g (blocks (xs ++ ys)) ≡ weigh_all g (blocks xs) + weigh_all g (blocks ys)
  blocks_weight xs ys = ap (weigh_all g) (blocks_append xs ys) ∙ total_append (weigh g) (blocks xs) (blocks ys)

  site_weight : (w : Way) (at n : ℕ) (up : List Around) → weigh_all g (blocks (site_here w at n up)) ≡ 0
  unfolding site_here when blocks total
  site_weight w at n up = either (is_look w) (λ b. weigh_all g (blocks (when b (ident (record { node = at; name = n; above = up })))) ≡ 0) refl refl

  arranged_weight : (t : Turn) (ts : List Target) (a b : List Step) → weigh_all g (blocks (arranged t ts a b)) ≡ weigh_all g (opens_at t ts) + (weigh_all g (blocks a) + weigh_all g (blocks b))
  unfolding arranged opens_at blocks total
  arranged_weight in_order ts a b = omega (arith, blocks_weight a b)
  arranged_weight inside ts a b = omega (arith, blocks_weight a b)
  arranged_weight opening ts a b = omega (arith, blocks_weight a (opens ts ∷ b))
  arranged_weight behind ts a b = omega (arith, blocks_weight b a)

  -- a comprehension with no children binds nothing
  no_kids : (k : ℕ) → weigh_all g (when (is_compr (way k)) (targets N k nil)) ≡ 0
  no_kids k = omega (arith, own_share g N k nil (sort k), nil_weight g N nil refl)

  steps_weight : (f : Forest) (w : Way) (s : ℕ) (ts : List Target) (b : Bool) (up : List Around) → (empty f ≡ true → weigh_all g (when (is_compr w && b) ts) ≡ 0)
      → weigh_all g (blocks (steps N f w s ts b up)) ≡ weigh_all g (when (is_compr w && b) ts) + weigh_all g (compr_blocks N f)
  unfolding steps compr_blocks
  steps_weight nil w s ts b up z = unfold blocks listed total in omega (arith, z (unfold empty in refl))
  steps_weight (node at k v kids rest) w s ts b up z =
      let here = around w s ts b (empty rest) ∷ up in
      omega (
        arith,
        arranged_weight (turn w b (empty rest)) ts (site_here (way k) at v here ++ steps N kids (way k) v (targets N k kids) true here) (steps N rest w s ts false up),
        blocks_weight (site_here (way k) at v here) (steps N kids (way k) v (targets N k kids) true here),
        site_weight (way k) at v here,
        steps_weight kids (way k) v (targets N k kids) true here (λ e. true_weight (way k) (targets N k kids) ∙ leaf kids e),
        steps_weight rest w s ts false up (λ e. false_weight w ts),
        ap (weigh_all g) (opens-turn w b (empty rest) ts),
        true_weight (way k) (targets N k kids),
        false_weight w ts,
        listed-total (λ k. is_compr (way k)) (λ at k v kids. targets N k kids) (weigh g) at k v kids rest,
      )
    where
      true_weight : (w : Way) (ts : List Target) → weigh_all g (when (is_compr w && true) ts) ≡ weigh_all g (when (is_compr w) ts)
      true_weight w ts = ap (λ b. weigh_all g (when b ts)) (and-true (is_compr w))

      false_weight : (w : Way) (ts : List Target) → weigh_all g (when (is_compr w && false) ts) ≡ 0
      false_weight w ts = ap (λ b. weigh_all g (when b ts)) (and-false (is_compr w)) ∙ (unfold when total in refl)

      leaf : (f : Forest) → empty f ≡ true → weigh_all g (when (is_compr (way k)) (targets N k f)) ≡ 0
      leaf nil e = no_kids k
      leaf (node at j v more rest) e = absurd (let z : true ≡ false = sym e ∙ (unfold empty in refl) in let y : ◌≡◌ {A = ℕ} 0 1 = cc in omega arith)

names_weight : (g : ℕ → ℕ) (tss : List (List Target)) → total (λ (p : ℕ × Option ℕ). g p.0) (all_names tss) ≡ weigh_all g tss
unfolding all_names block_names total
names_weight g [] = refl
names_weight g (ts ∷ tss) = total_append (λ (p : ℕ × Option ℕ). g p.0) (block_names ts) (all_names tss) ∙ ap₂ ◌+◌ (total-map (λ (p : ℕ × Option ℕ). g p.0) _ ts) (names_weight g tss)

-- every Name node stands among the Names with bindings as often as in the tree
pub named_all : (F : File) → Scoped F → Tidy F.root → (g : ℕ → ℕ) → total (λ (x : Named). g x.node) (resolved F).named ≡ total g (names_in F.root)
named_all F ok h g = omega (
  arith,
  seen,
  ap (total u) (told_all F ok).titles,
  total_append u (module_names F ++ all_names (fn_blocks F.names F.root)) (all_names (blocks (steps F.names F.root plain 0 [] true []))),
  total_append u (module_names F) (all_names (fn_blocks F.names F.root)),
  own,
  names_weight g (fn_blocks F.names F.root),
  names_weight g (blocks (steps F.names F.root plain 0 [] true [])),
  steps_weight g F.names F.root plain 0 [] true [] (λ e. none_open),
  none_open,
  whole g F.names F.root unmarked h,
)
  where
    u : ℕ × Option ℕ → ℕ
    u p = g p.0

    seen : total u (map name_view (resolved F).named) ≡ total (λ (x : Named). g x.node) (resolved F).named
    seen = total-map u name_view (resolved F).named ∙ (unfold name_view in refl)

    own : total u (module_names F) ≡ weigh g (collect F.names unmarked F.root)
    own = unfold module_names in total-map u _ (collect F.names unmarked F.root)

    none_open : weigh_all g (when (is_compr plain && true) []) ≡ 0
    none_open = unfold is_compr when total in refl

pub named_count : (F : File) → Scoped F → Tidy F.root → length (resolved F).named ≡ length (names_in F.root)
named_count F ok h = omega (arith, named_all F ok h (λ x. 1), total_ones (resolved F).named, total_ones (names_in F.root))
