-- T1: what walk three logs is what the Idents mean, in order.
use Rattle.std.specs.Prelude.{◌≡◌, ◌&&◌, Bool, ℕ, eqb}
use Rattle.std.proofs.Math.Path.{refl, sym, ap, ap₂}
use Rattle.std.proofs.Common.{◌∙◌}
use mathlib.Core.List.{List, [], ◌∷◌, ◌++◌, append_assoc, append-nil, map, map-append}
use Rattle.std.proofs.Math.Bool.{and-false, true, false, cond}
use Rattle.std.proofs.Math.Option.{Option, none, some}
use Rattle.lexical.specs.Lists.{first, map_o, or_else, eqb-true, Tested, was, wasnt, tested, or_else_none, or_else_assoc, map_o_or_else, map_o_cond, first_append}
use Rattle.lexical.specs.Tree.{is_fn, Forest, Way, plain, look, fn, compr, clause, type, top}
use Rattle.lexical.specs.Binders.{Names, Target, Var, new_var, again, note, merge}
use Rattle.lexical.specs.Module.{Outer}
use Rattle.lexical.specs.Meaning.{Around, around, reach, declares, declared_if, declared, owner_of, owned, type_at, in_type, deeper, scopes_of, means_in, meaning}
use Rattle.lexical.specs.Order.{Step, ident, opens, steps, idents, blocks, all_names, block_names, idents_append, blocks_append, all_names_append}
use Rattle.lexical.specs.State.{Binding, Found, St, Ctx}
use Rattle.lexical.specs.Block.{new, add, bind, name_of, naming, block, called}
use Rattle.lexical.specs.Third.{bring, logged, look_found, enter, inner, typed, below, look_up, walk}
use Rattle.lexical.specs.Claims.{seen, view, told, source, name_view}
use Rattle.lexical.proofs.Theory.Induct.{AllFn, Good, Keeps, Post, Laws, walked}
use Rattle.lexical.proofs.Theory.Same.{bring-named, bind_log, bind-named, bring_log}

unfoldable pub source_in : ℕ → List Binding → Option ℕ
source_in n bs = map_o (λ (b : Binding). b.var.source) (first (called n) bs)

note_step : (n : ℕ) (t : Target) (v : Var) (vs : List Var) → source n (note t vs) ≡ or_else (source n vs) (declares n (t ∷ []))
    → Tested (eqb v.name t.name) → Tested (eqb v.name n) → source n (note t (v ∷ vs)) ≡ or_else (source n (v ∷ vs)) (declares n (t ∷ []))
unfolding source note declares first map_o or_else new_var again
note_step n t v vs ih (was e) (was e') = rw (e, e') refl
note_step n t v vs ih (was e) (wasnt e') = rw (e, e', ← eqb-true v.name t.name e, e') (sym (or_else_none _))
note_step n t v vs ih (wasnt e) (was e') = rw (e, e') refl
note_step n t v vs ih (wasnt e) (wasnt e') = rw (e, e') ih

source-note : (n : ℕ) (t : Target) (vs : List Var) → source n (note t vs) ≡ or_else (source n vs) (declares n (t ∷ []))
unfolding source note declares first map_o or_else new_var
source-note n t [] = map_o_cond _ (eqb t.name n) (new_var t) none ∙ sym (map_o_cond _ (eqb t.name n) t none)
source-note n t (v ∷ vs) = note_step n t v vs (source-note n t vs) (tested _) (tested _)

declares_cons : (n : ℕ) (t : Target) (ts : List Target) → declares n (t ∷ ts) ≡ or_else (declares n (t ∷ [])) (declares n ts)
unfolding declares first
declares_cons n t ts = ap (map_o (λ (t : Target). t.node)) (first_append (λ (t : Target). eqb t.name n) (t ∷ []) ts) ∙ map_o_or_else _ _ _

pub source-merge : (n : ℕ) (vs : List Var) (ts : List Target) → source n (merge vs ts) ≡ or_else (source n vs) (declares n ts)
unfolding merge
source-merge n vs [] = sym (unfold declares first map_o in or_else_none _)
source-merge n vs (t ∷ ts) = source-merge n (note t vs) ts ∙ (rw (source-note, declares_cons n t ts, or_else_assoc) refl)

-- the variables of a block are its targets' names, each with the first that declares it
pub source_vars : (n : ℕ) (ts : List Target) → source n (merge [] ts) ≡ declares n ts
unfolding source first map_o or_else
source_vars n ts = source-merge n [] ts

pub source-bind : (n s : ℕ) (vs : List Var) (st : St) → source_in n (bind s vs st).0 ≡ source n vs
unfolding source_in source bind first called new map_o
source-bind n s [] st = refl
source-bind n s (v ∷ vs) st = map_o_cond _ (eqb v.name n) _ _ ∙ ap (cond (eqb v.name n) (some v.source)) (source-bind n s vs (add s (new s v st) st)) ∙ sym (map_o_cond _ (eqb v.name n) _ _)

-- with the scope that owns it
unfoldable pub home_in : ℕ → List Binding → Option (ℕ × ℕ)
home_in n bs = map_o (λ (b : Binding). (b.owner, b.var.source)) (first (called n) bs)

pub home_bind : (n s : ℕ) (vs : List Var) (st : St) → home_in n (bind s vs st).0 ≡ owned s (source n vs)
unfolding home_in source bind first called new map_o owned
home_bind n s [] st = refl
home_bind n s (v ∷ vs) st = map_o_cond _ (eqb v.name n) _ _ ∙ ap (cond (eqb v.name n) (some (s, v.source))) (home_bind n s vs (add s (new s v st) st))
    ∙ sym (ap (map_o (λ (x : ℕ). (s, x))) (map_o_cond _ (eqb v.name n) _ _) ∙ map_o_cond _ (eqb v.name n) _ _)

pub home_append : (n : ℕ) (xs ys : List Binding) → home_in n (xs ++ ys) ≡ or_else (home_in n xs) (home_in n ys)
unfolding home_in
home_append n xs ys = ap (map_o _) (first_append (called n) xs ys) ∙ map_o_or_else _ _ _

pub names_of : (bs : List Binding) (g : ℕ → Option ℕ) (us : List Target) → ((n : ℕ) → source_in n bs ≡ g n) → map name_view (map (name_of bs) us) ≡ map (λ (t : Target). (t.node, g t.name)) us
unfolding name_view name_of source_in
names_of bs g [] h = refl
names_of bs g (t ∷ us) h = ap₂ (λ x l. (t.node, x) ∷ l) (h t.name) (names_of bs g us h)

pub block_names_lem : (s : ℕ) (ts : List Target) (st : St) → map name_view (block s ts st).1.named ≡ map name_view st.named ++ block_names ts
unfolding block naming block_names
block_names_lem s ts st = map-append name_view (bind s (merge [] ts) st).1.named _
    ∙ ap₂ ◌++◌ (ap (map name_view) (bind-named s (merge [] ts) st)) (names_of (bind s (merge [] ts) st).0 (λ n. declares n ts) ts (λ n. source-bind n s (merge [] ts) st ∙ source_vars n ts))

module _ (N : Names) (D : ℕ → List Binding) (out : ℕ → Outer) (before : List (ℕ × Option ℕ)) where
  -- what the Idents and the Names met so far are told; the others were told before
  pub record J1 (st : St) (acc : List Step) : Type 0 where
    pub looks : map view st.log ≡ map (told out) (idents acc)
    pub titles : map name_view st.named ≡ before ++ all_names (blocks acc)

  -- the environment finds what the nodes around declare
  pub record Agree (c : Ctx) (up : List Around) (st : St) : Type 0 where
    pub agree : (n : ℕ) → home_in n c.env ≡ declared n up
    pub types : c.ty ≡ in_type up
    pub within : c.scopes ≡ scopes_of up

  -- walk two's row of a function has its targets' names
  abbrev pub Named1 : ℕ → ℕ → List Target → Type 0
  Named1 o s ts = (n : ℕ) → home_in n (D s) ≡ owned s (declares n ts)

  -- a node's names do not reach its first child, unless it is the last too
  reach_no : (w : Way) → reach w true false ≡ false
  unfolding reach
  reach_no plain = refl
  reach_no look = refl
  reach_no fn = refl
  reach_no compr = refl
  reach_no clause = refl
  reach_no type = refl

  push1 : (w : Way) (s : ℕ) (ts : List Target) (c : Ctx) (up : List Around) (st : St) → Agree c up st → Agree (below w c) (around w s ts true false ∷ up) st
  unfolding below typed declared declared_if reach in_type type_at scopes_of deeper
  push1 w s ts c up st h = record {
    agree = λ n. h.agree n ∙ sym (ap (λ b. declared_if b (owned (owner_of w s up) (declares n ts)) (declared n up)) (reach_no w));
    types = ap (type_at w) h.types;
    within = h.within ∙ sym (ap (λ b. cond (is_fn w && b) (s ∷ scopes_of up) (scopes_of up)) (reach_no w) ∙ ap (λ b. cond b (s ∷ scopes_of up) (scopes_of up)) (and-false (is_fn w)));
  }

  turn1 : (w : Way) (s : ℕ) (ts : List Target) (f l f' l' : Bool) (c : Ctx) (up : List Around) (st : St) → reach w f l ≡ reach w f' l'
      → Agree c (around w s ts f l ∷ up) st → Agree c (around w s ts f' l' ∷ up) st
  unfolding declared in_type scopes_of
  turn1 w s ts f l f' l' c up st e h = record { agree = λ n. h.agree n ∙ ap (λ b. declared_if b (owned (owner_of w s up) (declares n ts)) (declared n up)) e; types = h.types; within = h.within ∙ ap (λ b. deeper w b s (scopes_of up)) e }

  into1 : (s : ℕ) (ts : List Target) (f : Bool) (c : Ctx) (up : List Around) (st : St) (acc : List Step) → J1 st acc → Named1 (top c.scopes) s ts
      → Agree c (around fn s ts f false ∷ up) st → Agree (enter s (D s) c) (around fn s ts f true ∷ up) st
  unfolding enter declared declared_if owner_of reach in_type scopes_of deeper is_fn
  into1 s ts f c up st acc j g h = record { agree = λ n. home_append n (D s) c.env ∙ ap₂ or_else (g n) (h.agree n); types = h.types; within = ap (λ l. s ∷ l) h.within }

  opens1 : (s : ℕ) (ts : List Target) (c : Ctx) (up : List Around) (st : St) (acc : List Step) → J1 st acc → Agree c (around compr s ts true false ∷ up) st
      → J1 (block (top c.scopes) ts st).1 (acc ++ (opens ts ∷ []))
      × Keeps Agree st (block (top c.scopes) ts st).1
      × Agree (inner (block (top c.scopes) ts st).0 c) (around compr s ts false false ∷ up) (block (top c.scopes) ts st).1
  unfolding idents blocks all_names block naming inner declared declared_if owner_of reach in_type scopes_of deeper is_fn top
  opens1 s ts c up st acc j h = (
    record {
      looks = ap (map view) (bind_log _ _ st) ∙ j.looks ∙ ap (map (told out)) (sym (idents_append acc (opens ts ∷ []) ∙ append-nil (idents acc)));
      titles = block_names_lem (top c.scopes) ts st ∙ ap (λ l. l ++ block_names ts) j.titles ∙ append_assoc before (all_names (blocks acc)) (block_names ts)
          ∙ ap (λ l. before ++ l) (ap (λ l. all_names (blocks acc) ++ l) (sym (append-nil (block_names ts))) ∙ sym (ap all_names (blocks_append acc (opens ts ∷ [])) ∙ all_names_append (blocks acc) (ts ∷ [])));
    },
    (λ c up k. record { agree = k.agree; types = k.types; within = k.within }),
    record { agree = λ n. home_append n _ c.env ∙ ap₂ or_else (home_bind n _ (merge [] ts) st ∙ ap₂ owned (ap top h.within) (source_vars n ts)) (h.agree n); types = h.types; within = h.within },
  )

  logged1 : (at n : ℕ) (c : Ctx) (up : List Around) (st : St) (acc : List Step) (f : Found) → J1 st acc → c.scopes ≡ scopes_of up → seen f ≡ means_in (declared n up) (in_type up) (out n)
      → J1 (logged at n c.scopes f st) (acc ++ (ident (record { node = at; name = n; above = up }) ∷ []))
  unfolding logged view told meaning idents blocks
  logged1 at n c up st acc f j w e = record {
    looks = map-append view st.log _ ∙ ap₂ ◌++◌ j.looks (ap₂ (λ l m. (at, n, l, m) ∷ []) w e) ∙ sym (map-append (told out) (idents acc) _) ∙ ap (map (told out)) (sym (idents_append acc _));
    titles = j.titles ∙ ap (λ l. before ++ all_names l) (sym (blocks_append acc (ident (record { node = at; name = n; above = up }) ∷ []) ∙ append-nil (blocks acc)));
  }

  seen-cond : (t : Bool) (b : Binding) (k : ℕ) (o : Outer) → seen (cond t (Found.refused b k) (Found.local b k)) ≡ means_in (some (b.owner, b.var.source)) t o
  unfolding seen means_in
  seen-cond true b k o = refl
  seen-cond false b k o = refl

  found1 : (at n : ℕ) (c : Ctx) (up : List Around) (st : St) (acc : List Step) (o : Option Binding) → J1 st acc → Agree c up st
      → map_o (λ (b : Binding). (b.owner, b.var.source)) o ≡ declared n up → J1 (look_found o (out n) at n c st) (acc ++ (ident (record { node = at; name = n; above = up }) ∷ []))
  unfolding look_found map_o means_in
  found1 at n c up st acc none j h e = logged1 at n c up st acc _ j h.within (rw (← e) (unfold seen in refl))
  found1 at n c up st acc (some b) j h e = logged1 at n c up (bring c.scopes b st).1 acc _ (record { looks = ap (map view) (bring_log c.scopes b st) ∙ j.looks; titles = ap (map name_view) (bring-named c.scopes b st) ∙ j.titles }) h.within
      (rw (← e, ← h.types) (seen-cond c.ty b _ (out n)))

  scan1 : (at n : ℕ) (c : Ctx) (up : List Around) (st : St) (acc : List Step) → J1 st acc → Agree c up st
      → Post J1 Agree st acc (look_found (first (called n) c.env) (out n) at n c st) (ident (record { node = at; name = n; above = up }) ∷ [])
  unfolding look_up home_in
  scan1 at n c up st acc j h = (found1 at n c up st acc (first (called n) c.env) j h (h.agree n), λ c up k. record { agree = k.agree; types = k.types; within = k.within })

  laws1 : Laws N D out J1 Agree Named1
  laws1 = record { push = push1; turn = turn1; into = into1; scan = scan1; binds = opens1 }

  -- T1, for any rows of walk two that have the functions' names
  pub means : (root : Forest) (c : Ctx) (st : St) → AllFn N Named1 root plain 0 0 → c.env ≡ [] → c.ty ≡ false → c.scopes ≡ 0 ∷ [] → st.log ≡ [] → map name_view st.named ≡ before
      → J1 (walk N D out root plain 0 [] true c st) (steps N root plain 0 [] true [])
  means root c st all e t o l b = (walked N D out J1 Agree Named1 laws1 root plain 0 [] true [] 0 all (unfold Good is_fn in tt) c st [] (ap top o ∙ (unfold top in refl))
      (record { looks = ap (map view) l ∙ (unfold idents in refl); titles = b ∙ (unfold blocks all_names in (sym (append-nil before))) })
      (record { agree = λ n. unfold declared declared_if reach in (ap (home_in n) e ∙ (unfold home_in first map_o in refl)); types = t ∙ (unfold in_type type_at in refl); within = o ∙ (unfold scopes_of deeper is_fn in refl) })).0
