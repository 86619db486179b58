-- How much the walks can add to a measure of the state, by the blocks and the Idents of the tree. Of every file.
use Rattle.std.specs.Prelude.{◌≡◌, refl, Bool, cond, ◌&&◌, ℕ, ◌+◌, ◌≤◌}
use Rattle.std.proofs.Math.Path.{ap}
use mathlib.Core.List.{List, [], ◌∷◌}
use Rattle.std.proofs.Math.Bool.{true, false, and-true, and-false}
use Rattle.std.proofs.Math.Option.{Option, none, some}
use native.Mathlib.Omega.{arith}
use Rattle.lexical.specs.Lists.{first, either}
use Rattle.lexical.specs.Sums.{total}
use Rattle.lexical.specs.Tree.{Turn, turn, in_order, inside, opening, behind, is_look, is_fn, is_compr, when, look, fn, compr, clause, type, Forest, nil, node, empty, Way, plain, way, top, idents_in}
use Rattle.lexical.specs.Binders.{Names, Target, targets}
use Rattle.lexical.specs.Module.{Outer, File, outer_of}
use Rattle.lexical.specs.Order.{compr_blocks, fn_blocks}
use Rattle.lexical.specs.State.{Binding, Found, St, Row, Ctx}
use Rattle.lexical.specs.Block.{block, called}
use Rattle.lexical.specs.First.{start}
use Rattle.lexical.specs.Second.{declare_fn, declare_here, declare, rows, second}
use Rattle.lexical.specs.Third.{hand, copy_in, bring_to, bring, logged, look_found, enter, inner, below, look_up, order, walk, outermost, resolved}
use Rattle.lexical.proofs.Theory.Count.{weigh, weigh_all}
use Rattle.lexical.proofs.Theory.Listed.{listed-total}

-- a block adds at most the weight g of its Names, a lookup the weight h of its Ident, a copy nothing
pub record Sized (g h : ℕ → ℕ) (S : St → ℕ) : Type 0 where
  pub blocks : (s : ℕ) (ts : List Target) (st : St) → S (block s ts st).1 ≤ S st + weigh g ts
  pub copies : (s : ℕ) (b : Binding) (r : ℕ × St) → S (copy_in s b r).1 ≤ S r.1
  pub logs : (at n : ℕ) (ss : List ℕ) (f : Found) (st : St) → S (logged at n ss f st) ≤ S st + h at

-- what a child's turn binds: a comprehension's variables, with its first child
unfoldable pub opens_at : Turn → List Target → List (List Target)
opens_at in_order ts = []
opens_at inside ts = []
opens_at opening ts = ts ∷ []
opens_at behind ts = []

pub opens-turn : (w : Way) (f l : Bool) (ts : List Target) → opens_at (turn w f l) ts ≡ when (is_compr w && f) ts
unfolding opens_at turn is_compr when
opens-turn plain f l ts = refl
opens-turn look f l ts = refl
opens-turn fn f true ts = refl
opens-turn fn f false ts = refl
opens-turn compr true l ts = refl
opens-turn compr false l ts = refl
opens-turn clause true l ts = refl
opens-turn clause false l ts = refl
opens-turn type f l ts = refl

module _ (g h : ℕ → ℕ) (S : St → ℕ) (Z : Sized g h S) where
  here_size : (w : Way) (s : ℕ) (ts : List Target) (x : List Row × St) → S (declare_here w s ts x).1 ≤ S x.1 + weigh_all g (when (is_fn w) ts)
  unfolding declare_here declare_fn when total
  here_size w s ts x = either (is_fn w) (λ b. S (cond b (declare_fn s ts x) x).1 ≤ S x.1 + weigh_all g (when b ts)) (omega (arith, Z.blocks s ts x.1)) (omega arith)

  pub declare_size : (N : Names) (f : Forest) (x : List Row × St) → S (declare N f x).1 ≤ S x.1 + weigh_all g (fn_blocks N f)
  unfolding declare fn_blocks
  declare_size N nil x = omega arith
  declare_size N (node at k v kids rest) x =
      let x₁ = declare_here (way k) v (targets N k kids) x in
      omega (
        arith,
        here_size (way k) v (targets N k kids) x,
        declare_size N kids x₁,
        declare_size N rest (declare N kids x₁),
        listed-total (λ k. is_fn (way k)) (λ at k v kids. targets N k kids) (weigh g) at k v kids rest,
      )

  bring_to_size : (o : Option ℕ) (s : ℕ) (b : Binding) (st : St) (r : ℕ × St) → S r.1 ≤ S st → S (bring_to o s b st r).1 ≤ S st
  unfolding bring_to
  bring_to_size none s b st r le = omega (arith, Z.copies s b r)
  bring_to_size (some k) s b st r le = omega arith

  bring_size : (ss : List ℕ) (b : Binding) (st : St) → S (bring ss b st).1 ≤ S st
  unfolding bring
  bring_size [] b st = omega arith
  bring_size (s ∷ ss) b st = bring_to_size (hand s b.id st) s b st (bring ss b st) (bring_size ss b st)

  found_size : (o : Option Binding) (u : Outer) (at n : ℕ) (c : Ctx) (st : St) → S (look_found o u at n c st) ≤ S st + h at
  unfolding look_found
  found_size none u at n c st = Z.logs at n c.scopes _ st
  found_size (some b) u at n c st = omega (arith, Z.logs at n c.scopes (cond c.ty (Found.refused b (bring c.scopes b st).0) (Found.local b (bring c.scopes b st).0)) (bring c.scopes b st).1, bring_size c.scopes b st)

  module _ (N : Names) (D : ℕ → List Binding) (out : ℕ → Outer) where
    look_size : (w : Way) (at n : ℕ) (c : Ctx) (st : St) → S (look_up N D out w at n c st) ≤ S st + total h (when (is_look w) at)
    unfolding look_up when total
    look_size w at n c st = either (is_look w) (λ b. S (cond b (look_found (first (called n) c.env) (out n) at n c st) st) ≤ S st + total h (when b at)) (omega (arith, found_size (first (called n) c.env) (out n) at n c st)) (omega arith)

    abbrev Adds : (Ctx → St → St) → ℕ → Type 0
    Adds f a = (c : Ctx) (st : St) → S (f c st) ≤ S st + a

    order_size : (t : Turn) (s : ℕ) (ts : List Target) (here next : Ctx → St → St) (a b : ℕ) → Adds here a → Adds next b → Adds (order N D out t s ts here next) (weigh_all g (opens_at t ts) + (a + b))
    unfolding order opens_at total
    order_size in_order s ts here next a b p q = λ c st. omega (arith, p c st, q c (here c st))
    order_size inside s ts here next a b p q = λ c st. omega (arith, p (enter s (D s) c) st, q c (here (enter s (D s) c) st))
    order_size opening s ts here next a b p q = λ c st. let r = block (top c.scopes) ts (here c st) in omega (arith, p c st, Z.blocks (top c.scopes) ts (here c st), q (inner r.0 c) r.1)
    order_size behind s ts here next a b p q = λ c st. omega (arith, q c st, p c (next c st))

    later : (w : Way) (ts : List Target) → weigh_all g (when (is_compr w && false) ts) ≡ 0
    unfolding when total
    later w ts = ap (λ b. weigh_all g (when b ts)) (and-false (is_compr w))

    pub walk_size : (f : Forest) (w : Way) (s : ℕ) (ts : List Target) (b : Bool) → Adds (walk N D out f w s ts b) (weigh_all g (when (is_compr w && b) ts) + (weigh_all g (compr_blocks N f) + total h (idents_in f)))
    unfolding walk compr_blocks idents_in
    walk_size nil w s ts b = λ c st. omega arith
    walk_size (node at k v kids rest) w s ts b = λ c st. omega (
      arith,
      order_size (turn w b (empty rest)) s ts
          (λ c st. walk N D out kids (way k) v (targets N k kids) true (below (way k) c) (look_up N D out (way k) at v c st)) (λ c st. walk N D out rest w s ts false c st) _ _
          (λ c st. let m = look_size (way k) at v c st in
          let n = walk_size kids (way k) v (targets N k kids) true (below (way k) c) (look_up N D out (way k) at v c st) in
          let z : S (walk N D out kids (way k) v (targets N k kids) true (below (way k) c) (look_up N D out (way k) at v c st)) ≤ S st + (total h (when (is_look (way k)) at) + (weigh_all g (when (is_compr (way k) && true) (targets N k kids)) + (weigh_all g (compr_blocks N kids) + total h (idents_in kids)))) = omega arith in z)
          (λ c st. walk_size rest w s ts false c st) c st,
      ap (weigh_all g) (opens-turn w b (empty rest) ts),
      ap (λ b. weigh_all g (when b (targets N k kids))) (and-true (is_compr (way k))),
      later w ts,
      listed-total (λ k. is_compr (way k)) (λ at k v kids. targets N k kids) (weigh g) at k v kids rest,
      listed-total (λ k. is_look (way k)) (λ at k v kids. at) h at k v kids rest,
    )

  pub size : (F : File) → S (resolved F) ≤ S (start F) + (weigh_all g (fn_blocks F.names F.root) + (weigh_all g (compr_blocks F.names F.root) + total h (idents_in F.root)))
  unfolding resolved second is_compr when total
  size F = omega (
    arith,
    declare_size F.names F.root ([], start F),
    walk_size F.names (rows (second F).0) (outer_of F) F.root plain 0 [] true outermost (second F).1,
  )
