-- Walk two (document 01, "Second, each Def and Lambda"): parent before children, children in table order, each function's variables get their bindings and slots.
use Rattle.std.specs.Prelude.{List, [], ◌∷◌, ◌++◌, Bool, cond, ℕ, eqb}
use Rattle.std.proofs.Math.Option.{Option, none, some}
use Rattle.lexical.specs.Lists.{first}
use Rattle.lexical.specs.Tree.{is_fn, Forest, nil, node, Way, way}
use Rattle.lexical.specs.Binders.{Names, Target, targets}
use Rattle.lexical.specs.Module.{File}
use Rattle.lexical.specs.State.{Binding, St, Row}
use Rattle.lexical.specs.Block.{block}
use Rattle.lexical.specs.First.{start}

unfoldable pub declare_fn : ℕ → List Target → List Row × St → List Row × St
declare_fn s ts x = let r = block s ts x.1 in (x.0 ++ (record { scope = s; names = r.0 } ∷ []), r.1)

unfoldable pub declare_here : Way → ℕ → List Target → List Row × St → List Row × St
declare_here w s ts x = cond (is_fn w) (declare_fn s ts x) x

unfoldable pub declare : Names → Forest → List Row × St → List Row × St
declare N nil x = x
declare N (node at k v kids rest) x = declare N rest (declare N kids (declare_here (way k) v (targets N k kids) x))

-- the bindings of the function of a scope number
unfoldable pub row_names : Option Row → List Binding
row_names none = []
row_names (some r) = r.names

abbrev pub keyed : ℕ → Row → Bool
keyed s r = eqb r.scope s

unfoldable pub rows : List Row → ℕ → List Binding
rows t s = row_names (first (keyed s) t)

unfoldable pub second : File → List Row × St
second F = declare F.names F.root ([], start F)
