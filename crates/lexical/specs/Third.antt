-- Walk three (document 01, "Third, resolving"): every Ident is looked up, and locals of outer scopes are copied inward on the way.
use Rattle.std.specs.Prelude.{List, [], ◌∷◌, ◌++◌, Bool, true, false, cond, ◌&&◌, ℕ, eqb}
use Rattle.std.proofs.Math.Option.{Option, none, some}
use Rattle.lexical.specs.Lists.{first, map_o}
use Rattle.lexical.specs.Tree.{in_order, inside, opening, behind, turn, is_look, Turn, Forest, nil, node, empty, Way, plain, way, top}
use Rattle.lexical.specs.Binders.{Names, Target, targets}
use Rattle.lexical.specs.Module.{Outer, File, outer_of}
use Rattle.lexical.specs.Meaning.{type_at}
use Rattle.lexical.specs.State.{Binding, Slot, Found, local, refused, outside, St, Ctx}
use Rattle.lexical.specs.Block.{fresh, slot_for, called, block}
use Rattle.lexical.specs.Second.{rows, second}

-- the slot of scope s that has binding i's value, if there is one
unfoldable pub holds : ℕ → ℕ → Slot → Bool
holds s i r = eqb r.scope s && eqb r.id i

unfoldable pub hand_in : ℕ → ℕ → List Slot → Option ℕ
hand_in s i rs = map_o (λ (r : Slot). r.num) (first (holds s i) rs)

abbrev pub hand : ℕ → ℕ → St → Option ℕ
hand s i st = hand_in s i st.slots

-- a local's slot in the innermost scope: at hand there, or copied from the scope outside, where it is brought first
unfoldable pub copy_in : ℕ → Binding → ℕ × St → ℕ × St
copy_in s b r = let k = fresh s r.1 in
    (k, record { made = r.1.made; named = r.1.named; slots = r.1.slots ++ (slot_for s k b ∷ []); copies = r.1.copies ++ (record { scope = s; parent = r.0; child = k; id = b.id } ∷ []); log = r.1.log })

unfoldable pub bring_to : Option ℕ → ℕ → Binding → St → ℕ × St → ℕ × St
bring_to (some k) s b st r = (k, st)
bring_to none s b st r = copy_in s b r

unfoldable pub bring : List ℕ → Binding → St → ℕ × St
bring [] b st = (b.slot, st)
bring (s ∷ ss) b st = bring_to (hand s b.id st) s b st (bring ss b st)

-- a lookup: a local is brought to the innermost scope, also where a type refuses it
unfoldable pub logged : ℕ → ℕ → List ℕ → Found → St → St
logged at n ss f st = record { made = st.made; named = st.named; slots = st.slots; copies = st.copies; log = st.log ++ (record { node = at; name = n; scopes = ss; found = f } ∷ []) }

unfoldable pub look_found : Option Binding → Outer → ℕ → ℕ → Ctx → St → St
look_found none o at n c st = logged at n c.scopes (outside o) st
look_found (some b) o at n c st = let r = bring c.scopes b st in logged at n c.scopes (cond c.ty (refused b r.0) (local b r.0)) r.1

-- the context inside a comprehension, inside a function
unfoldable pub inner : List Binding → Ctx → Ctx
inner bs c = record { env = bs ++ c.env; scopes = c.scopes; ty = c.ty }

unfoldable pub enter : ℕ → List Binding → Ctx → Ctx
enter s bs c = record { env = bs ++ c.env; scopes = s ∷ c.scopes; ty = c.ty }

unfoldable pub typed : Bool → Ctx → Ctx
typed t c = record { env = c.env; scopes = c.scopes; ty = t }

-- the context of a node's children
unfoldable pub below : Way → Ctx → Ctx
below w c = typed (type_at w c.ty) c

-- D: each function's bindings, by scope number; out: what a name means outside
module _ (N : Names) (D : ℕ → List Binding) (out : ℕ → Outer) where
  -- an Ident is looked up: the innermost binding of its name, else outside
  unfoldable pub look_up : Way → ℕ → ℕ → Ctx → St → St
  look_up w at n c st = cond (is_look w) (look_found (first (called n) c.env) (out n) at n c st) st

  -- a child's walk `here` and its later siblings' walk `rest`, for a parent of scope s that binds ts
  unfoldable pub order : Turn → ℕ → List Target → (Ctx → St → St) → (Ctx → St → St) → Ctx → St → St
  order in_order s ts here rest c st = rest c (here c st)
  order inside s ts here rest c st = rest c (here (enter s (D s) c) st)
  order opening s ts here rest c st = let r = block (top c.scopes) ts (here c st) in rest (inner r.0 c) r.1
  order behind s ts here rest c st = here c (rest c st)

  -- sibling nodes, for a parent of way w, scope s and targets ts; f: is the first of them its first child
  unfoldable pub walk : Forest → Way → ℕ → List Target → Bool → Ctx → St → St
  walk nil w s ts f c st = st
  walk (node at k v kids rest) w s ts f c st =
      order (turn w f (empty rest)) s ts
      (λ c st. walk kids (way k) v (targets N k kids) true (below (way k) c) (look_up (way k) at v c st))
      (λ c st. walk rest w s ts false c st) c st

-- a file's last state: its root resolved at module level, after walk two
unfoldable pub outermost : Ctx
outermost = record { env = []; scopes = 0 ∷ []; ty = false }

unfoldable pub resolved : File → St
resolved F = walk F.names (rows (second F).0) (outer_of F) F.root plain 0 [] true outermost (second F).1
