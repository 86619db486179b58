-- Walk two: the bindings of a function's row belong to the function.
use Prim.Native.Nat.{ℕ}
use mathlib.Core.Path.{◌≡◌, refl, ◌∙◌}
use mathlib.Core.Bool.{cond}
use mathlib.Core.List.{List, [], ◌∷◌}
use mathlib.Core.Option.{some}
use lib.Dec.{eqb}
use lib.ListN.{get_elem?}
use Rattle.lexical.specs.Lists.{first, either, none-some, eqb-true, Opened, absent, present, opened}
use Rattle.lexical.specs.Places.{All, all_none, all_cons, all_snoc, first-at}
use Rattle.lexical.specs.Tree.{Forest, nil, node, Way, is_fn, way}
use Rattle.lexical.specs.Binders.{Names, Target, Var, targets, merge}
use Rattle.lexical.specs.Module.{File}
use Rattle.lexical.specs.State.{Binding, St, Row}
use Rattle.lexical.specs.Block.{new, add, bind, block}
use Rattle.lexical.specs.First.{start}
use Rattle.lexical.specs.Second.{declare_fn, declare_here, declare, rows, row_names, second}

abbrev Owned : Row → Type 0
Owned r = All (λ (b : Binding). b.owner ≡ r.scope) r.names

bind_owners : (s : ℕ) (vs : List Var) (st : St) → All (λ (b : Binding). b.owner ≡ s) (bind s vs st).0
unfolding bind
bind_owners s [] st = all_none _
bind_owners s (v ∷ vs) st = all_cons _ (new s v st) (bind s vs (add s (new s v st) st)).0 (unfold new in refl) (bind_owners s vs (add s (new s v st) st))

here_owners : (w : Way) (s : ℕ) (ts : List Target) (x : List Row × St) → All Owned x.0 → All Owned (declare_here w s ts x).0
unfolding declare_here declare_fn block
here_owners w s ts x h = either (is_fn w) (λ b. All Owned (cond b (declare_fn s ts x) x).0) (all_snoc Owned x.0 _ h (bind_owners s (merge [] ts) x.1)) h

declare_owners : (N : Names) (f : Forest) (x : List Row × St) → All Owned x.0 → All Owned (declare N f x).0
unfolding declare
declare_owners N nil x h = h
declare_owners N (node at k v kids rest) x h = declare_owners N rest _ (declare_owners N kids _ (here_owners (way k) v (targets N k kids) x h))

pub second_owners : (F : File) (s k : ℕ) (b : Binding) → get_elem? (rows (second F).0 s) k ≡ some b → b.owner ≡ s
unfolding rows row_names second
second_owners F s k b e = go (opened (first (λ (r : Row). eqb r.scope s) (second F).0)) e
  where
    all : All Owned (second F).0
    all = declare_owners F.names F.root ([], start F) (all_none Owned)

    go : Opened (first (λ (r : Row). eqb r.scope s) (second F).0) → get_elem? (rows (second F).0 s) k ≡ some b → b.owner ≡ s
    go (absent q) e = absurd (none-some refl (rw q at e))
    go (present r q) e = let (j, at, t) = first-at _ (second F).0 r q in all j r at k b (rw q at e) ∙ eqb-true r.scope s t
