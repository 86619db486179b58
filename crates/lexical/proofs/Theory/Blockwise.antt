-- What every block, every copy and every lookup keeps holds of a file's last state, where a fact G is known of each block of the tree.
use Rattle.std.specs.Prelude.{◌≡◌, Bool, cond, ℕ}
use Rattle.std.proofs.Math.Path.{refl}
use mathlib.Core.List.{List, [], ◌∷◌}
use Rattle.std.proofs.Math.Bool.{true, false}
use Rattle.std.proofs.Math.Option.{Option, none, some}
use Rattle.lexical.specs.Lists.{If, either, first}
use Rattle.lexical.specs.Tree.{turn, is_look, is_fn, is_compr, Forest, nil, node, empty, Way, plain, look, fn, compr, clause, type, way, top}
use Rattle.lexical.specs.Binders.{Names, Target, targets}
use Rattle.lexical.specs.Module.{Outer, File, outer_of}
use Rattle.lexical.specs.State.{Binding, Found, St, Row, Ctx}
use Rattle.lexical.specs.Block.{block, called}
use Rattle.lexical.specs.First.{start}
use Rattle.lexical.specs.Second.{declare_fn, declare_here, declare, rows, second}
use Rattle.lexical.specs.Third.{hand, copy_in, bring_to, bring, logged, look_found, enter, inner, typed, below, look_up, order, walk, outermost, resolved}
use Rattle.lexical.proofs.Theory.Induct.{inner_scope}
use Rattle.lexical.proofs.Theory.Owners.{AllBlocks}

pub record KeptBy (G : ℕ → List Target → Type 0) (P : St → Type 0) : Type 0 where
  pub blocks : (s : ℕ) (ts : List Target) (st : St) → G s ts → P st → P (block s ts st).1
  pub copies : (s : ℕ) (b : Binding) (r : ℕ × St) → P r.1 → P (copy_in s b r).1
  pub logs : (at n : ℕ) (ss : List ℕ) (f : Found) (st : St) → P st → P (logged at n ss f st)

module _ (G : ℕ → List Target → Type 0) (P : St → Type 0) (K : KeptBy G P) where
  -- walk two
  here_keeps : (w : Way) (s : ℕ) (ts : List Target) (x : List Row × St) → If (is_fn w) (G s ts) → P x.1 → P (declare_here w s ts x).1
  unfolding declare_here declare_fn
  here_keeps w s ts x = either (is_fn w) (λ b. If b (G s ts) → P x.1 → P (cond b (declare_fn s ts x) x).1) (λ g h. K.blocks s ts x.1 g h) (λ g h. h)

  declare_keeps : (N : Names) (f : Forest) (w : Way) (s o : ℕ) (x : List Row × St) → AllBlocks N G f w s o → P x.1 → P (declare N f x).1
  unfolding declare AllBlocks
  declare_keeps N nil w s o x a h = h
  declare_keeps N (node at k v kids rest) w s o x a h = declare_keeps N rest w s o _ a.3 (declare_keeps N kids (way k) v _ _ a.2 (here_keeps (way k) v (targets N k kids) x a.0 h))

  -- walk three
  bring_to_keeps : (o : Option ℕ) (s : ℕ) (b : Binding) (st : St) (r : ℕ × St) → P st → P r.1 → P (bring_to o s b st r).1
  unfolding bring_to
  bring_to_keeps none s b st r h h' = K.copies s b r h'
  bring_to_keeps (some k) s b st r h h' = h

  bring_keeps : (ss : List ℕ) (b : Binding) (st : St) → P st → P (bring ss b st).1
  unfolding bring
  bring_keeps [] b st h = h
  bring_keeps (s ∷ ss) b st h = bring_to_keeps (hand s b.id st) s b st (bring ss b st) h (bring_keeps ss b st h)

  found_keeps : (o : Option Binding) (u : Outer) (at n : ℕ) (c : Ctx) (st : St) → P st → P (look_found o u at n c st)
  unfolding look_found
  found_keeps none u at n c st h = K.logs at n c.scopes _ st h
  found_keeps (some b) u at n c st h = K.logs at n c.scopes _ _ (bring_keeps c.scopes b st h)

  module _ (N : Names) (D : ℕ → List Binding) (out : ℕ → Outer) where
    look_keeps : (w : Way) (at n : ℕ) (c : Ctx) (st : St) → P st → P (look_up N D out w at n c st)
    unfolding look_up
    look_keeps w at n c st h = either (is_look w) (λ b. P (cond b (look_found (first (called n) c.env) (out n) at n c st) st)) (found_keeps (first (called n) c.env) (out n) at n c st h) h

    -- in scope o
    abbrev Runs : ℕ → (Ctx → St → St) → Type 0
    Runs o f = (c : Ctx) (st : St) → top c.scopes ≡ o → P st → P (f c st)

    order_keeps : (w : Way) (f l : Bool) (s : ℕ) (ts : List Target) (o : ℕ) (here next : Ctx → St → St) → If (is_compr w) (G o ts) → Runs (inner_scope w s l o) here → Runs o next → Runs o (order N D out (turn w f l) s ts here next)
    unfolding order turn inner_scope is_fn is_compr top enter inner
    order_keeps plain f l s ts o here next g a b = λ c st t h. b c _ t (a c st t h)
    order_keeps look f l s ts o here next g a b = λ c st t h. b c _ t (a c st t h)
    order_keeps type f l s ts o here next g a b = λ c st t h. b c _ t (a c st t h)
    order_keeps fn f false s ts o here next g a b = λ c st t h. b c _ t (a c st t h)
    order_keeps fn f true s ts o here next g a b = λ c st t h. b c _ t (a (enter s (D s) c) st refl h)
    order_keeps compr false l s ts o here next g a b = λ c st t h. b c _ t (a c st t h)
    order_keeps compr true l s ts o here next g a b = λ c st t h. b _ _ t (K.blocks (top c.scopes) ts _ (rw t g) (a c st t h))
    order_keeps clause false l s ts o here next g a b = λ c st t h. b c _ t (a c st t h)
    order_keeps clause true l s ts o here next g a b = λ c st t h. a c _ t (b c st t h)

    walk_keeps : (f : Forest) (w : Way) (s : ℕ) (ts : List Target) (b : Bool) (o : ℕ) → AllBlocks N G f w s o → If (is_compr w) (G o ts) → Runs o (walk N D out f w s ts b)
    unfolding walk AllBlocks below typed
    walk_keeps nil w s ts b o a g = λ c st t h. h
    walk_keeps (node at k v kids rest) w s ts b o a g = order_keeps w b (empty rest) s ts o _ _ g
        (λ c st t h. walk_keeps kids (way k) v (targets N k kids) true (inner_scope w s (empty rest) o) a.2 a.1 (below (way k) c) _ t (look_keeps (way k) at v c st h))
        (walk_keeps rest w s ts false o a.3 g)

  pub blockwise : (F : File) → AllBlocks F.names G F.root plain 0 0 → P (start F) → P (resolved F)
  unfolding resolved second outermost
  blockwise F a h = walk_keeps F.names (rows (second F).0) (outer_of F) F.root plain 0 [] true 0 a (unfold is_compr in tt) outermost (second F).1 (unfold top in refl) (declare_keeps F.names F.root plain 0 0 ([], start F) a h)
