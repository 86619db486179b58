-- Every Name is taken by one block at most: the module's, one Def's or Lambda's, or one comprehension's. Of any tree: every node.
use Rattle.std.proofs.Math.Path.{◌≡◌, refl}
use Rattle.std.specs.Prelude.{List, Bool, ℕ, ◌+◌, ◌≤◌, eqb}
use Rattle.std.proofs.Math.Bool.{true, false}
use native.Mathlib.Omega.{arith}
use Rattle.lexical.specs.Lists.{eqb-true, eqb-false, Tested, was, wasnt, tested}
use Rattle.lexical.specs.Sums.{total, total_append}
use Rattle.lexical.specs.Tree.{listed, Forest, nil, node, after, way, is_fn, is_compr, plain, Pick, through, shut, head, name, loop, load, param, pick, is_name, when, nodes_in, names_in}
use Rattle.lexical.specs.Table.{Headed, FirstName}
use Rattle.lexical.specs.Binders.{Names, Marks, Target, target, head_target, gather, collect, unmarked, looping, targets}
use Rattle.lexical.specs.Order.{fn_blocks, compr_blocks}
use Rattle.lexical.proofs.Theory.Kinds.{Simple, Sort, def6, name8, ident11, lambda12, compr13, other14, clause15, type18, simple, past, sort}
use Rattle.lexical.proofs.Theory.Listed.{listed-total}

-- by their nodes: the targets of a block, of some blocks
abbrev pub weigh : (ℕ → ℕ) → List Target → ℕ
weigh g ts = total (λ (t : Target). g t.node) ts

abbrev pub weigh_all : (ℕ → ℕ) → List (List Target) → ℕ
weigh_all g tss = total (weigh g) tss

module _ (g : ℕ → ℕ) (N : Names) where
  -- what a node gives to the block around it, and what its own block takes
  abbrev pub given : Marks → ℕ → ℕ → ℕ → Forest → ℕ
  given m at k v kids = weigh g (gather N m (pick k) at v kids (λ m. collect N m kids))

  abbrev pub own : ℕ → Forest → ℕ
  own k kids = weigh_all g (when (is_fn (way k)) (targets N k kids)) + weigh_all g (when (is_compr (way k)) (targets N k kids))

  -- what it has to give
  abbrev pub offered : ℕ → ℕ → Forest → ℕ
  offered k at kids = total g (when (is_name (pick k)) at) + weigh g (collect N unmarked kids)

  -- the functions and comprehensions of some nodes
  abbrev pub deep : Forest → ℕ
  deep f = weigh_all g (fn_blocks N f) + weigh_all g (compr_blocks N f)

  pub deep_node : (at k v : ℕ) (kids rest : Forest) → deep (node at k v kids rest) ≡ own k kids + (deep kids + deep rest)
  unfolding fn_blocks compr_blocks
  deep_node at k v kids rest = omega (
    arith,
    listed-total (λ k. is_fn (way k)) (λ at k v kids. targets N k kids) (weigh g) at k v kids rest,
    listed-total (λ k. is_compr (way k)) (λ at k v kids. targets N k kids) (weigh g) at k v kids rest,
  )

  pub collect_node : (m : Marks) (at k v : ℕ) (kids rest : Forest) → weigh g (collect N m (node at k v kids rest)) ≡ given m at k v kids + weigh g (collect N m rest)
  unfolding collect
  collect_node m at k v kids rest = total_append (λ (t : Target). g t.node) (gather N m (pick k) at v kids (λ m. collect N m kids)) (collect N m rest)

  pub names_node : (at k v : ℕ) (kids rest : Forest) → total g (names_in (node at k v kids rest)) ≡ total g (when (is_name (pick k)) at) + (total g (names_in kids) + total g (names_in rest))
  unfolding names_in
  names_node at k v kids rest = listed-total (λ k. is_name (pick k)) (λ at k v kids. at) g at k v kids rest

  nodes_node : (at k v : ℕ) (kids rest : Forest) → total g (nodes_in (node at k v kids rest)) ≡ g at + (total g (nodes_in kids) + total g (nodes_in rest))
  unfolding nodes_in total when
  nodes_node at k v kids rest = omega (arith, listed-total (λ k. true) (λ at k v kids. at) g at k v kids rest)

  -- marks change no node
  gather_any : (p : Pick) (m m' : Marks) (at v : ℕ) (kids : Forest) (go : Marks → List Target) → ((m m' : Marks) → weigh g (go m) ≡ weigh g (go m')) → weigh g (gather N m p at v kids go) ≡ weigh g (gather N m' p at v kids go)
  unfolding gather head_target target total
  gather_any through m m' at v kids go h = h m m'
  gather_any shut m m' at v kids go h = refl
  gather_any head m m' at v nil go h = refl
  gather_any head m m' at v (node a k w kids rest) go h = refl
  gather_any name m m' at v kids go h = refl
  gather_any loop m m' at v kids go h = h _ _
  gather_any load m m' at v kids go h = h _ _
  gather_any param m m' at v kids go h = h _ _

  pub collect_any : (f : Forest) (m m' : Marks) → weigh g (collect N m f) ≡ weigh g (collect N m' f)
  collect_any nil m m' = unfold collect in refl
  collect_any (node at k v kids rest) m m' = omega (
    arith,
    collect_node m at k v kids rest,
    collect_node m' at k v kids rest,
    gather_any (pick k) m m' at v kids (λ m. collect N m kids) (λ m m'. collect_any kids m m'),
    collect_any rest m m',
  )

  pub simple_given : (p : Pick) (m : Marks) (at v : ℕ) (kids : Forest) → Simple p → weigh g (gather N m p at v kids (λ m. collect N m kids)) ≡ total g (when (is_name p) at) + weigh g (collect N unmarked kids)
  unfolding gather Simple is_name when total
  simple_given through m at v kids h = omega (arith, collect_any kids m unmarked)
  simple_given shut m at v kids h = absurd h
  simple_given head m at v kids h = absurd h
  simple_given name m at v kids h = absurd h
  simple_given loop m at v kids h = omega (arith, collect_any kids (record { loop = true; load = m.load; param = m.param }) unmarked)
  simple_given load m at v kids h = omega (arith, collect_any kids (record { loop = m.loop; load = true; param = m.param }) unmarked)
  simple_given param m at v kids h = omega (arith, collect_any kids (record { loop = m.loop; load = m.load; param = true }) unmarked)

  pub plain_own : (k : ℕ) (kids : Forest) → way k ≡ plain → own k kids ≡ 0
  unfolding is_fn is_compr when total
  plain_own k kids e = rw e refl

  pub def_given : (m : Marks) (at v : ℕ) (kids : Forest) → FirstName kids → given m at 6 v kids + own 6 kids ≡ offered 6 at kids
  unfolding pick way is_fn is_compr is_name when gather head_target target targets after total collect FirstName
  def_given m at v nil h = omega arith
  def_given m at v (node a k w kids rest) h = rw h (omega arith)

  -- what is taken of a node and its children, by the block around it and by its own
  share : (k : ℕ) (m : Marks) (at v : ℕ) (kids : Forest) → Sort k → (k ≡ 6 → FirstName kids) → given m at k v kids + own k kids ≤ offered k at kids
  unfolding pick way is_fn is_compr is_name when gather target targets total
  share k m at v kids (def6 e) h = rw e (omega (arith, def_given m at v kids (h e)))
  share k m at v kids (name8 e) h = rw e (omega arith)
  share k m at v kids (ident11 e) h = rw e (omega arith)
  share k m at v kids (lambda12 e) h = rw e (omega arith)
  share k m at v kids (compr13 e) h = rw e (omega (arith, collect_any kids looping unmarked))
  share k m at v kids (other14 e) h = rw e (omega arith)
  share k m at v kids (clause15 e) h = rw e (omega (arith, collect_any kids m unmarked))
  share k m at v kids (type18 e) h = rw e (omega arith)
  share k m at v kids (simple w p) h = omega (arith, plain_own k kids w, simple_given (pick k) m at v kids p)
  share k m at v kids (past l w p) h = rw (w, p) (omega arith)

  -- what the block around takes of these nodes, the functions among them and the comprehensions: of each Name once at most
  pub counted : (f : Forest) (m : Marks) → Headed f → weigh g (collect N m f) + deep f ≤ total g (names_in f)
  counted nil m h = unfold collect fn_blocks compr_blocks names_in listed total in omega arith
  counted (node at k v kids rest) m h = let q : (k ≡ 6 → FirstName kids) × Headed kids × Headed rest = (unfold Headed in h) in omega (
    arith,
    share k m at v kids (sort k) q.0,
    counted kids unmarked q.1,
    counted rest m q.2,
    collect_node m at k v kids rest,
    deep_node at k v kids rest,
    names_node at k v kids rest,
  )

  -- of any tree, with no shape asked: a Def may begin with a node of any kind, which is then taken in its place
  after_less : (f : Forest) → weigh g (collect N unmarked (after f)) ≤ weigh g (collect N unmarked f)
  unfolding after
  after_less nil = omega arith
  after_less (node at k v kids rest) = omega (arith, collect_node unmarked at k v kids rest)

  pub own_share : (k : ℕ) (kids : Forest) → Sort k → own k kids ≤ weigh g (collect N unmarked kids)
  unfolding way is_fn is_compr when targets total
  own_share k kids (def6 e) = rw e (omega (arith, after_less kids))
  own_share k kids (name8 e) = rw e (omega arith)
  own_share k kids (ident11 e) = rw e (omega arith)
  own_share k kids (lambda12 e) = rw e (omega arith)
  own_share k kids (compr13 e) = rw e (omega (arith, collect_any kids looping unmarked))
  own_share k kids (other14 e) = rw e (omega arith)
  own_share k kids (clause15 e) = rw e (omega arith)
  own_share k kids (type18 e) = rw e (omega arith)
  own_share k kids (simple w p) = omega (arith, plain_own k kids w)
  own_share k kids (past l w p) = omega (arith, plain_own k kids w)

  name_here : (k at : ℕ) → total g (when (is_name (pick k)) at) ≤ g at
  unfolding when total
  name_here k at = go (is_name (pick k))
    where
      go : (b : Bool) → total g (when b at) ≤ g at
      go true = omega arith
      go false = omega arith

  abbrev Held : Forest → Type 0
  Held f = weigh g (collect N unmarked f) + deep f ≤ total g (nodes_in f)

  def_held : (m : Marks) (at v a j w : ℕ) (more rest : Forest) → Held more → Held rest → given m at 6 v (node a j w more rest) + (own 6 (node a j w more rest) + deep (node a j w more rest)) ≤ g at + total g (nodes_in (node a j w more rest))
  unfolding pick gather head_target target way is_fn is_compr when targets after total
  def_held m at v a j w more rest x y = omega (arith, deep_node a j w more rest, nodes_node a j w more rest, own_share j more (sort j))

  -- what is taken of a node and of all below it, where what is below its children is counted
  here_held : (m : Marks) (at k v : ℕ) (kids : Forest) → Tested (eqb k 6) → Held kids → (k ≡ 6 → (a j w : ℕ) (more rest : Forest) → kids ≡ node a j w more rest → Held more × Held rest)
      → given m at k v kids + (own k kids + deep kids) ≤ g at + total g (nodes_in kids)
  here_held m at k v kids (wasnt e) p q = omega (arith, share k m at v kids (sort k) (λ z. absurd (eqb-false k 6 e z)), name_here k at)
  here_held m at k v nil (was e) p q = rw (eqb-true k 6 e) (unfold pick gather head_target way is_fn is_compr when targets after total collect in omega (arith, p))
  here_held m at k v (node a j w more rest) (was e) p q = let r = q (eqb-true k 6 e) a j w more rest refl in rw (eqb-true k 6 e) (def_held m at v a j w more rest r.0 r.1)

  pub counted_nodes : (f : Forest) (m : Marks) → weigh g (collect N m f) + deep f ≤ total g (nodes_in f)
  counted_nodes nil m = unfold collect fn_blocks compr_blocks nodes_in listed total in omega arith
  counted_nodes (node at k v nil rest) m = omega (
    arith,
    collect_node m at k v nil rest,
    deep_node at k v nil rest,
    nodes_node at k v nil rest,
    counted_nodes rest m,
    here_held m at k v nil (tested (eqb k 6)) (counted_nodes nil unmarked) (λ e a j w more next z. absurd (no_node z)),
  )
    where
      no_node : {a j w : ℕ} {more next : Forest} → nil ≡ node a j w more next → ⊥
      no_node z = let y : ◌≡◌ {A = ℕ} 0 1 = cc in omega arith
  counted_nodes (node at k v (node b i x more next) rest) m = omega (
    arith,
    collect_node m at k v (node b i x more next) rest,
    deep_node at k v (node b i x more next) rest,
    nodes_node at k v (node b i x more next) rest,
    counted_nodes rest m,
    here_held m at k v (node b i x more next) (tested (eqb k 6)) (counted_nodes (node b i x more next) unmarked) (same (counted_nodes more unmarked) (counted_nodes next unmarked)),
  )
    where
      same : Held more → Held next → k ≡ 6 → (a j w : ℕ) (more' next' : Forest) → node b i x more next ≡ node a j w more' next' → Held more' × Held next'
      same p q e a j w more' next' z = let y : more ≡ more' = cc in let y' : next ≡ next' = cc in rw (← y, ← y') (p, q)
