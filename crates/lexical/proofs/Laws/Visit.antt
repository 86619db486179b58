-- Walk three at each kind of node, in the shapes of the table. Equations for code, which then needs no table of ways.
use Rattle.std.specs.Prelude.{◌≡◌, List, [], Bool, ℕ}
use Rattle.std.proofs.Math.Path.{refl, ap}
use Rattle.std.proofs.Common.{◌∙◌}
use Rattle.std.proofs.Math.Bool.{true, false}
use Rattle.lexical.specs.Lists.{first}
use Rattle.lexical.specs.Tree.{is_look, turn, Forest, nil, node, empty, plain, look, fn, compr, clause, type, way, top, ◌⊕◌}
use Rattle.lexical.specs.Binders.{Names, Target, collect, looping, targets}
use Rattle.lexical.specs.Module.{Outer, File, outer_of}
use Rattle.lexical.specs.Meaning.{type_at}
use Rattle.lexical.specs.State.{Binding, St, Ctx}
use Rattle.lexical.specs.Block.{block, called}
use Rattle.lexical.specs.Second.{rows, second}
use Rattle.lexical.specs.Third.{look_found, inner, enter, typed, below, look_up, order, walk, outermost, resolved}
use Rattle.lexical.proofs.Theory.Kinds.{Sort, def6, name8, ident11, lambda12, compr13, other14, clause15, type18, simple, past, sort}

-- walk three: one node, and siblings in their order
module _ (N : Names) (D : ℕ → List Binding) (out : ℕ → Outer) where
  unfoldable pub visit : ℕ → ℕ → ℕ → Forest → Ctx → St → St
  visit at k v kids c st = walk N D out kids (way k) v (targets N k kids) true (below (way k) c) (look_up N D out (way k) at v c st)

  unfoldable pub each : Forest → Ctx → St → St
  each nil c st = st
  each (node at k v kids rest) c st = each rest c (visit at k v kids c st)

  pub each_nil : (c : Ctx) (st : St) → each nil c st ≡ st
  unfolding each
  each_nil c st = refl

  pub each_node : (at k v : ℕ) (kids rest : Forest) (c : Ctx) (st : St) → each (node at k v kids rest) c st ≡ each rest c (visit at k v kids c st)
  unfolding each
  each_node at k v kids rest c st = refl

  pub each_append : (f g : Forest) (c : Ctx) (st : St) → each (f ⊕ g) c st ≡ each g c (each f c st)
  unfolding each ◌⊕◌
  each_append nil g c st = refl
  each_append (node at k v kids rest) g c st = each_append rest g c _

  -- siblings of which none comes first or last in a way of its own
  pub walk_plain : (f : Forest) (s : ℕ) (ts : List Target) (b : Bool) (c : Ctx) (st : St) → walk N D out f plain s ts b c st ≡ each f c st
  unfolding walk order turn each visit
  walk_plain nil s ts b c st = refl
  walk_plain (node at k v kids rest) s ts b c st = walk_plain rest s ts false c _

  pub walk_look : (f : Forest) (s : ℕ) (ts : List Target) (b : Bool) (c : Ctx) (st : St) → walk N D out f look s ts b c st ≡ each f c st
  unfolding walk order turn each visit
  walk_look nil s ts b c st = refl
  walk_look (node at k v kids rest) s ts b c st = walk_look rest s ts false c _

  pub walk_type : (f : Forest) (s : ℕ) (ts : List Target) (b : Bool) (c : Ctx) (st : St) → walk N D out f type s ts b c st ≡ each f c st
  unfolding walk order turn each visit
  walk_type nil s ts b c st = refl
  walk_type (node at k v kids rest) s ts b c st = walk_type rest s ts false c _

  pub walk_clause : (f : Forest) (s : ℕ) (ts : List Target) (c : Ctx) (st : St) → walk N D out f clause s ts false c st ≡ each f c st
  unfolding walk order turn each visit
  walk_clause nil s ts c st = refl
  walk_clause (node at k v kids rest) s ts c st = walk_clause rest s ts c _

  pub walk_compr : (f : Forest) (s : ℕ) (ts : List Target) (c : Ctx) (st : St) → walk N D out f compr s ts false c st ≡ each f c st
  unfolding walk order turn each visit
  walk_compr nil s ts c st = refl
  walk_compr (node at k v kids rest) s ts c st = walk_compr rest s ts c _

  -- a function's children: the last one inside
  pub walk_fn : (at k v a j u : ℕ) (kids more rest : Forest) (s : ℕ) (ts : List Target) (b : Bool) (c : Ctx) (st : St)
      → walk N D out (node at k v kids (node a j u more rest)) fn s ts b c st ≡ walk N D out (node a j u more rest) fn s ts false c (visit at k v kids c st)
  unfolding walk order turn visit empty
  walk_fn at k v a j u kids more rest s ts b c st = refl

  pub walk_fn_last : (at k v : ℕ) (kids : Forest) (s : ℕ) (ts : List Target) (b : Bool) (c : Ctx) (st : St)
      → walk N D out (node at k v kids nil) fn s ts b c st ≡ visit at k v kids (enter s (D s) c) st
  unfolding walk order turn visit empty
  walk_fn_last at k v kids s ts b c st = refl

  pub walk_body : (f : Forest) (at k v : ℕ) (kids : Forest) (s : ℕ) (ts : List Target) (b : Bool) (c : Ctx) (st : St)
      → walk N D out (f ⊕ node at k v kids nil) fn s ts b c st ≡ visit at k v kids (enter s (D s) c) (each f c st)
  unfolding ◌⊕◌ each
  walk_body nil at k v kids s ts b c st = walk_fn_last at k v kids s ts b c st
  walk_body (node a j u more nil) at k v kids s ts b c st = walk_fn a j u at k v more kids nil s ts b c st ∙ walk_fn_last at k v kids s ts false c _
  walk_body (node a j u more (node a' j' u' more' rest)) at k v kids s ts b c st = walk_fn a j u a' j' u' more more' (rest ⊕ node at k v kids nil) s ts b c st ∙ walk_body (node a' j' u' more' rest) at k v kids s ts false c _

  -- by kind: children in table order
  abbrev Passes : ℕ → Type 0
  Passes k = (at v : ℕ) (kids : Forest) (c : Ctx) (st : St) → visit at k v kids c st ≡ each kids c st

  passes : (k : ℕ) → way k ≡ plain → Passes k
  unfolding visit below typed type_at look_up is_look
  passes k e at v kids c st = rw e (walk_plain kids v (targets N k kids) true c st)

  pub visit_block : Passes 0
  visit_block = passes 0 (unfold way in refl)

  pub visit_plain : Passes 1
  visit_plain = passes 1 (unfold way in refl)

  pub visit_assign : Passes 2
  visit_assign = passes 2 (unfold way in refl)

  pub visit_modify : Passes 3
  visit_modify = passes 3 (unfold way in refl)

  pub visit_if : Passes 4
  visit_if = passes 4 (unfold way in refl)

  pub visit_for : Passes 5
  visit_for = passes 5 (unfold way in refl)

  pub visit_load : Passes 7
  visit_load = passes 7 (unfold way in refl)

  pub visit_tuple : Passes 9
  visit_tuple = passes 9 (unfold way in refl)

  pub visit_place : Passes 10
  visit_place = passes 10 (unfold way in refl)

  pub visit_other : Passes 14
  visit_other = passes 14 (unfold way in refl)

  pub visit_if_clause : Passes 16
  visit_if_clause = passes 16 (unfold way in refl)

  pub visit_param : Passes 17
  visit_param = passes 17 (unfold way in refl)

  pub visit_name : (at v : ℕ) (c : Ctx) (st : St) → visit at 8 v nil c st ≡ st
  unfolding visit way below typed type_at look_up is_look walk
  visit_name at v c st = refl

  pub visit_ident : (at v : ℕ) (c : Ctx) (st : St) → visit at 11 v nil c st ≡ look_found (first (called v) c.env) (out v) at v c st
  unfolding visit way below typed type_at look_up is_look walk look_found
  visit_ident at v c st = refl

  pub visit_type : (at v : ℕ) (kids : Forest) (c : Ctx) (st : St) → visit at 18 v kids c st ≡ each kids (typed true c) st
  unfolding visit way below typed type_at look_up is_look
  visit_type at v kids c st = walk_type kids v _ true (typed true c) st

  -- the expression, then the target
  pub visit_for_clause : (at v a j u : ℕ) (more rest : Forest) (c : Ctx) (st : St) → visit at 15 v (node a j u more rest) c st ≡ visit a j u more c (each rest c st)
  unfolding visit way below typed type_at look_up is_look walk order turn
  visit_for_clause at v a j u more rest c st = ap (λ (y : St). visit a j u more c y) (walk_clause rest v _ c st)

  -- Name, Params and Type outside, then the body inside
  pub visit_def : (at v : ℕ) (f : Forest) (a j u : ℕ) (more : Forest) (c : Ctx) (st : St)
      → visit at 6 v (f ⊕ node a j u more nil) c st ≡ visit a j u more (enter v (D v) (typed false c)) (each f (typed false c) st)
  visit_def at v f a j u more c st = (unfold visit way below typed type_at look_up is_look in walk_body f a j u more v _ true (typed false c) st)

  -- Params outside, then the expression inside
  pub visit_lambda : (at v : ℕ) (f : Forest) (a j u : ℕ) (more : Forest) (c : Ctx) (st : St)
      → visit at 12 v (f ⊕ node a j u more nil) c st ≡ visit a j u more (enter v (D v) (typed false c)) (each f (typed false c) st)
  visit_lambda at v f a j u more c st = (unfold visit way below typed type_at look_up is_look in walk_body f a j u more v _ true (typed false c) st)

  -- the first clause, the variables of all clauses, the rest
  pub visit_compr : (at v a j u : ℕ) (more rest : Forest) (c : Ctx) (st : St)
      → let r = block (top c.scopes) (collect N looping (node a j u more rest)) (visit a j u more (typed false c) st) in
      visit at 13 v (node a j u more rest) c st ≡ each rest (inner r.0 (typed false c)) r.1
  unfolding visit way below typed type_at look_up is_look walk order turn targets
  visit_compr at v a j u more rest c st = walk_compr rest v _ _ _

  -- one, two, three siblings
  pub each-one : (a i x : ℕ) (f : Forest) (c : Ctx) (st : St) → each (node a i x f nil) c st ≡ visit a i x f c st
  unfolding each
  each-one a i x f c st = refl

  pub each_two : (a i x b j y : ℕ) (f g : Forest) (c : Ctx) (st : St) → each (node a i x f (node b j y g nil)) c st ≡ visit b j y g c (visit a i x f c st)
  unfolding each
  each_two a i x b j y f g c st = refl

  pub each_three : (a i x b j y d k z : ℕ) (f g h : Forest) (c : Ctx) (st : St)
      → each (node a i x f (node b j y g (node d k z h nil))) c st ≡ visit d k z h c (visit b j y g c (visit a i x f c st))
  unfolding each
  each_three a i x b j y d k z f g h c st = refl

  -- Assign: the target's expressions, the type, the value
  pub visit_assign_bare : (at v a i x b j y : ℕ) (f g : Forest) (c : Ctx) (st : St) → visit at 2 v (node a i x f (node b j y g nil)) c st ≡ visit b j y g c (visit a i x f c st)
  visit_assign_bare at v a i x b j y f g c st = visit_assign at v _ c st ∙ each_two a i x b j y f g c st

  pub visit_assign_typed : (at v a i x b y d k z : ℕ) (f g h : Forest) (c : Ctx) (st : St)
      → visit at 2 v (node a i x f (node b 18 y g (node d k z h nil))) c st ≡ visit d k z h c (each g (typed true c) (visit a i x f c st))
  visit_assign_typed at v a i x b y d k z f g h c st = visit_assign at v _ c st ∙ each_three a i x b 18 y d k z f g h c st ∙ ap (λ (w : St). visit d k z h c w) (visit_type b y g c _)

  pub visit_modify_two : (at v a i x b j y : ℕ) (f g : Forest) (c : Ctx) (st : St) → visit at 3 v (node a i x f (node b j y g nil)) c st ≡ visit b j y g c (visit a i x f c st)
  visit_modify_two at v a i x b j y f g c st = visit_modify at v _ c st ∙ each_two a i x b j y f g c st

  pub visit_if_two : (at v a i x b j y : ℕ) (f g : Forest) (c : Ctx) (st : St) → visit at 4 v (node a i x f (node b j y g nil)) c st ≡ visit b j y g c (visit a i x f c st)
  visit_if_two at v a i x b j y f g c st = visit_if at v _ c st ∙ each_two a i x b j y f g c st

  pub visit_if_three : (at v a i x b j y d k z : ℕ) (f g h : Forest) (c : Ctx) (st : St)
      → visit at 4 v (node a i x f (node b j y g (node d k z h nil))) c st ≡ visit d k z h c (visit b j y g c (visit a i x f c st))
  visit_if_three at v a i x b j y d k z f g h c st = visit_if at v _ c st ∙ each_three a i x b j y d k z f g h c st

  pub visit_for_three : (at v a i x b j y d k z : ℕ) (f g h : Forest) (c : Ctx) (st : St)
      → visit at 5 v (node a i x f (node b j y g (node d k z h nil))) c st ≡ visit d k z h c (visit b j y g c (visit a i x f c st))
  visit_for_three at v a i x b j y d k z f g h c st = visit_for at v _ c st ∙ each_three a i x b j y d k z f g h c st

  pub visit_for_clause_two : (at v a i x b j y : ℕ) (f g : Forest) (c : Ctx) (st : St) → visit at 15 v (node a i x f (node b j y g nil)) c st ≡ visit a i x f c (visit b j y g c st)
  visit_for_clause_two at v a i x b j y f g c st = visit_for_clause at v a i x f _ c st ∙ ap (λ (w : St). visit a i x f c w) (each-one b j y g c st)

  pub visit_type_one : (at v a i x : ℕ) (f : Forest) (c : Ctx) (st : St) → visit at 18 v (node a i x f nil) c st ≡ visit a i x f (typed true c) st
  visit_type_one at v a i x f c st = visit_type at v _ c st ∙ each-one a i x f (typed true c) st

  -- a Param: its Name looks up nothing, so its type and its default are left
  pub visit_param_named : (at v a n : ℕ) (rest : Forest) (c : Ctx) (st : St) → visit at 17 v (node a 8 n nil rest) c st ≡ each rest c st
  visit_param_named at v a n rest c st = visit_param at v _ c st ∙ each_node a 8 n nil rest c st ∙ ap (λ (w : St). each rest c w) (visit_name a n c st)

  -- a Def with its Name: Params and Type, then the body
  pub visit_def_named : (at v a n : ℕ) (ps : Forest) (b j y : ℕ) (g : Forest) (c : Ctx) (st : St)
      → visit at 6 v (node a 8 n nil (ps ⊕ node b j y g nil)) c st ≡ visit b j y g (enter v (D v) (typed false c)) (each ps (typed false c) st)
  unfolding ◌⊕◌
  visit_def_named at v a n ps b j y g c st = visit_def at v (node a 8 n nil ps) b j y g c st
      ∙ ap (λ (w : St). visit b j y g (enter v (D v) (typed false c)) w) (each_node a 8 n nil ps (typed false c) st ∙ ap (λ (w : St). each ps (typed false c) w) (visit_name a n (typed false c) st))

  -- the other kinds: children in table order
  way_other : (k : ℕ) → Sort k → (k ≡ 6 → ⊥) → (k ≡ 11 → ⊥) → (k ≡ 12 → ⊥) → (k ≡ 13 → ⊥) → (k ≡ 15 → ⊥) → (k ≡ 18 → ⊥) → way k ≡ plain
  way_other k (def6 e) a b c d f g = absurd (a e)
  way_other k (name8 e) a b c d f g = rw e (unfold way in refl)
  way_other k (ident11 e) a b c d f g = absurd (b e)
  way_other k (lambda12 e) a b c d f g = absurd (c e)
  way_other k (compr13 e) a b c d f g = absurd (d e)
  way_other k (other14 e) a b c d f g = rw e (unfold way in refl)
  way_other k (clause15 e) a b c d f g = absurd (f e)
  way_other k (type18 e) a b c d f g = absurd (g e)
  way_other k (simple w p) a b c d f g = w
  way_other k (past l w p) a b c d f g = w

  pub visit_others : (k : ℕ) → (k ≡ 6 → ⊥) → (k ≡ 11 → ⊥) → (k ≡ 12 → ⊥) → (k ≡ 13 → ⊥) → (k ≡ 15 → ⊥) → (k ≡ 18 → ⊥) → Passes k
  visit_others k a b d e f g = passes k (way_other k (sort k) a b d e f g)

-- the whole file
pub resolved-each : (F : File) → resolved F ≡ each F.names (rows (second F).0) (outer_of F) F.root outermost (second F).1
unfolding resolved
resolved-each F = walk_plain F.names (rows (second F).0) (outer_of F) F.root 0 [] true outermost (second F).1
