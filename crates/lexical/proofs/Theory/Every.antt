-- What every step of the walks keeps holds of every file's last state. Four kinds of step; assumes nothing of the scope numbers.
use mathlib.Core.List.{List, [], ◌∷◌}
use Rattle.std.specs.Prelude.{cond, Bool, ℕ}
use Rattle.std.proofs.Math.Bool.{true, false}
use Rattle.std.proofs.Math.Option.{Option, none, some}
use Rattle.lexical.specs.Lists.{either, first}
use Rattle.lexical.specs.Tree.{Turn, turn, in_order, inside, opening, behind, is_look, is_fn, Forest, nil, node, empty, Way, plain, way, top}
use Rattle.lexical.specs.Binders.{Names, Target, targets, Var, merge}
use Rattle.lexical.specs.Module.{Outer, File, outer_of}
use Rattle.lexical.specs.State.{Binding, Found, St, Row, Ctx}
use Rattle.lexical.specs.Block.{new, add, bind, naming, block, called}
use Rattle.lexical.specs.First.{start}
use Rattle.lexical.specs.Second.{declare_fn, declare_here, declare, second}
use Rattle.lexical.specs.Third.{hand, copy_in, bring_to, bring, logged, look_found, enter, below, look_up, order, walk, outermost, resolved}

-- a fresh binding, a block's Names, a copy, a lookup
pub record Kept (P : St → Type 0) : Type 0 where
  pub adds : (s : ℕ) (v : Var) (st : St) → P st → P (add s (new s v st) st)
  pub names : (ts : List Target) (bs : List Binding) (st : St) → P st → P (naming ts bs st)
  pub copies : (s : ℕ) (b : Binding) (r : ℕ × St) → P r.1 → P (copy_in s b r).1
  pub logs : (at n : ℕ) (ss : List ℕ) (f : Found) (st : St) → P st → P (logged at n ss f st)

module _ (P : St → Type 0) (K : Kept P) where
  pub every_bind : (s : ℕ) (vs : List Var) (st : St) → P st → P (bind s vs st).1
  unfolding bind
  every_bind s [] st h = h
  every_bind s (v ∷ vs) st h = every_bind s vs (add s (new s v st) st) (K.adds s v st h)

  pub every-block : (s : ℕ) (ts : List Target) (st : St) → P st → P (block s ts st).1
  unfolding block
  every-block s ts st h = K.names ts _ _ (every_bind s (merge [] ts) st h)

  bring_to_keeps : (o : Option ℕ) (s : ℕ) (b : Binding) (st : St) (r : ℕ × St) → P st → P r.1 → P (bring_to o s b st r).1
  unfolding bring_to
  bring_to_keeps none s b st r h h' = K.copies s b r h'
  bring_to_keeps (some k) s b st r h h' = h

  pub every-bring : (ss : List ℕ) (b : Binding) (st : St) → P st → P (bring ss b st).1
  unfolding bring
  every-bring [] b st h = h
  every-bring (s ∷ ss) b st h = bring_to_keeps (hand s b.id st) s b st (bring ss b st) h (every-bring ss b st h)

  here_keeps : (w : Way) (s : ℕ) (ts : List Target) (x : List Row × St) → P x.1 → P (declare_here w s ts x).1
  unfolding declare_here declare_fn
  here_keeps w s ts x h = either (is_fn w) (λ b. P (cond b (declare_fn s ts x) x).1) (every-block s ts x.1 h) h

  pub every-declare : (N : Names) (f : Forest) (x : List Row × St) → P x.1 → P (declare N f x).1
  unfolding declare
  every-declare N nil x h = h
  every-declare N (node at k v kids rest) x h = every-declare N rest _ (every-declare N kids _ (here_keeps (way k) v (targets N k kids) x h))

  found_keeps : (o : Option Binding) (u : Outer) (at n : ℕ) (c : Ctx) (st : St) → P st → P (look_found o u at n c st)
  unfolding look_found
  found_keeps none u at n c st h = K.logs at n c.scopes _ st h
  found_keeps (some b) u at n c st h = K.logs at n c.scopes _ _ (every-bring c.scopes b st h)

  module _ (N : Names) (D : ℕ → List Binding) (out : ℕ → Outer) where
    look_keeps : (w : Way) (at n : ℕ) (c : Ctx) (st : St) → P st → P (look_up N D out w at n c st)
    unfolding look_up is_look
    look_keeps w at n c st h = either (is_look w) (λ b. P (cond b (look_found (first (called n) c.env) (out n) at n c st) st)) (found_keeps (first (called n) c.env) (out n) at n c st h) h

    abbrev Runs : (Ctx → St → St) → Type 0
    Runs f = (c : Ctx) (st : St) → P st → P (f c st)

    order_keeps : (t : Turn) (s : ℕ) (ts : List Target) (here next : Ctx → St → St) → Runs here → Runs next → Runs (order N D out t s ts here next)
    unfolding order
    order_keeps in_order s ts here next a b = λ c st h. b c _ (a c st h)
    order_keeps inside s ts here next a b = λ c st h. b c _ (a (enter s (D s) c) st h)
    order_keeps opening s ts here next a b = λ c st h. b _ _ (every-block (top c.scopes) ts _ (a c st h))
    order_keeps behind s ts here next a b = λ c st h. a c _ (b c st h)

    pub every_walk : (f : Forest) (w : Way) (s : ℕ) (ts : List Target) (b : Bool) (c : Ctx) (st : St) → P st → P (walk N D out f w s ts b c st)
    unfolding walk
    every_walk nil w s ts b c st h = h
    every_walk (node at k v kids rest) w s ts b c st h = order_keeps (turn w b (empty rest)) s ts _ _
        (λ c st h. every_walk kids (way k) v (targets N k kids) true (below (way k) c) _ (look_keeps (way k) at v c st h))
        (λ c st h. every_walk rest w s ts false c st h) c st h

  pub every : (F : File) → P (start F) → P (resolved F)
  unfolding resolved second
  every F h = every_walk F.names _ (outer_of F) F.root plain 0 [] true outermost _ (every-declare F.names F.root ([], start F) h)
