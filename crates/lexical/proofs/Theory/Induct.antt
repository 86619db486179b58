-- One induction over walk three, for any state invariant J and any fit F of a context to the nodes around.
use Rattle.std.specs.Prelude.{◌≡◌, List, [], ◌∷◌, ◌++◌, ◌&&◌, Bool, cond, ℕ}
use Rattle.std.proofs.Math.Path.{refl}
use Rattle.std.proofs.Common.{sym, subst, append_assoc, append-nil}
use Rattle.std.proofs.Math.Bool.{true, false}
use Rattle.lexical.specs.Lists.{either, first, if_both, If, if_map}
use Rattle.lexical.specs.Tree.{is_look, when, is_fn, turn, Forest, nil, node, empty, Way, plain, look, fn, compr, clause, type, way, top}
use Rattle.lexical.specs.Binders.{Names, Target, targets}
use Rattle.lexical.specs.Module.{Outer}
use Rattle.lexical.specs.Meaning.{Around, around, reach}
use Rattle.lexical.specs.Order.{Step, ident, opens, site_here, arranged, steps}
use Rattle.lexical.specs.State.{Binding, St, Ctx}
use Rattle.lexical.specs.Block.{called, block}
use Rattle.lexical.specs.Third.{look_found, enter, inner, typed, below, look_up, order, walk}

unfoldable pub inner_scope : Way → ℕ → Bool → ℕ → ℕ
inner_scope w s l o = cond (is_fn w && l) s o

-- G o s ts: of a Def or Lambda with scope s and targets ts directly in scope o
unfoldable pub Good : (ℕ → ℕ → List Target → Type 0) → Way → ℕ → ℕ → List Target → Type 0
Good G w o s ts = If (is_fn w) (G o s ts)

-- G of all of them among the children of a node w, s in scope o
unfoldable pub AllFn : Names → (ℕ → ℕ → List Target → Type 0) → Forest → Way → ℕ → ℕ → Type 0
AllFn N G nil w s o = Unit {0}
AllFn N G (node at k v kids rest) w s o =
    Good G (way k) (inner_scope w s (empty rest) o) v (targets N k kids)
    × AllFn N G kids (way k) v (inner_scope w s (empty rest) o)
    × AllFn N G rest w s o

abbrev pub Keeps : (Ctx → List Around → St → Type 0) → St → St → Type 0
Keeps F st st' = (c : Ctx) (up : List Around) → F c up st → F c up st'

abbrev pub Post : (St → List Step → Type 0) → (Ctx → List Around → St → Type 0) → St → List Step → St → List Step → Type 0
Post J F st acc st' more = J st' (acc ++ more) × Keeps F st st'

pub record Laws (N : Names) (D : ℕ → List Binding) (out : ℕ → Outer)
    (J : St → List Step → Type 0) (F : Ctx → List Around → St → Type 0) (G : ℕ → ℕ → List Target → Type 0) : Type 0 where
  pub push : (w : Way) (s : ℕ) (ts : List Target) (c : Ctx) (up : List Around) (st : St) → F c up st → F (below w c) (around w s ts true false ∷ up) st
  pub turn : (w : Way) (s : ℕ) (ts : List Target) (f l f' l' : Bool) (c : Ctx) (up : List Around) (st : St) → reach w f l ≡ reach w f' l'
      → F c (around w s ts f l ∷ up) st → F c (around w s ts f' l' ∷ up) st
  pub into : (s : ℕ) (ts : List Target) (f : Bool) (c : Ctx) (up : List Around) (st : St) (acc : List Step) → J st acc → G (top c.scopes) s ts
      → F c (around fn s ts f false ∷ up) st → F (enter s (D s) c) (around fn s ts f true ∷ up) st
  pub scan : (at n : ℕ) (c : Ctx) (up : List Around) (st : St) (acc : List Step) → J st acc → F c up st
      → Post J F st acc (look_found (first (called n) c.env) (out n) at n c st) (ident (record { node = at; name = n; above = up }) ∷ [])
  pub binds : (s : ℕ) (ts : List Target) (c : Ctx) (up : List Around) (st : St) (acc : List Step) → J st acc → F c (around compr s ts true false ∷ up) st
      → J (block (top c.scopes) ts st).1 (acc ++ (opens ts ∷ []))
      × Keeps F st (block (top c.scopes) ts st).1
      × F (inner (block (top c.scopes) ts st).0 c) (around compr s ts false false ∷ up) (block (top c.scopes) ts st).1

module _ (N : Names) (D : ℕ → List Binding) (out : ℕ → Outer)
    (J : St → List Step → Type 0) (F : Ctx → List Around → St → Type 0) (G : ℕ → ℕ → List Target → Type 0)
    (L : Laws N D out J F G) where
  stay : (st : St) (acc : List Step) → J st acc → Post J F st acc st []
  stay st acc j = (rw append-nil j, λ c up h. h)

  and_then : {st st₁ st₂ : St} (acc a b : List Step) → Post J F st acc st₁ a → Post J F st₁ (acc ++ a) st₂ b → Post J F st acc st₂ (a ++ b)
  and_then acc a b p q = (rw append_assoc at q.0, λ c up h. q.1 c up (p.1 c up h))

  looked : (w : Way) (at v : ℕ) (c : Ctx) (up : List Around) (st : St) (acc : List Step) → J st acc → F c up st
      → Post J F st acc (look_up N D out w at v c st) (site_here w at v up)
  unfolding look_up site_here when
  looked w at v c up st acc j h = either (is_look w) (λ b. Post J F st acc (cond b (look_found (first (called v) c.env) (out v) at v c st) st) (when b (ident (record { node = at; name = v; above = up }))))
      (L.scan at v c up st acc j h) (stay st acc j)

  -- what the walk of a child, and of the children after it, is to give
  abbrev Run : Way → ℕ → List Target → Bool → Bool → List Around → ℕ → (Ctx → St → St) → List Step → Type 0
  Run w s ts f l up o run new = (c : Ctx) (st : St) (acc : List Step) → top c.scopes ≡ o → J st acc → F c (around w s ts f l ∷ up) st → Post J F st acc (run c st) new

  in_turn : (w : Way) (s : ℕ) (ts : List Target) (f l : Bool) (up : List Around) (o : ℕ) (here next : Ctx → St → St) (a b : List Step)
      → reach w f false ≡ reach w f l → reach w f false ≡ reach w false false
      → Run w s ts f l up o here a → Run w s ts false false up o next b → Run w s ts f false up o (λ c st. next c (here c st)) (a ++ b)
  in_turn w s ts f l up o here next a b e e' h n c st acc t j fit =
      let p = h c st acc t j (L.turn w s ts f false f l c up st e fit) in
      and_then acc a b p (n c (here c st) (acc ++ a) t p.0 (L.turn w s ts f false false false c up (here c st) e' (p.1 c (around w s ts f false ∷ up) fit)))

  ordered : (w : Way) (s : ℕ) (ts : List Target) (f l : Bool) (up : List Around) (o : ℕ) (here next : Ctx → St → St) (a b : List Step)
      → Good G w o s ts → Run w s ts f l up (inner_scope w s l o) here a → Run w s ts false false up o next b
      → Run w s ts f false up o (order N D out (turn w f l) s ts here next) (arranged (turn w f l) ts a b)
  unfolding order turn arranged Good inner_scope is_fn reach top enter inner
  ordered plain s ts f l up o here next a b g h n = in_turn plain s ts f l up o here next a b refl refl h n
  ordered look s ts f l up o here next a b g h n = in_turn look s ts f l up o here next a b refl refl h n
  ordered type s ts f l up o here next a b g h n = in_turn type s ts f l up o here next a b refl refl h n
  ordered fn s ts f false up o here next a b g h n = in_turn fn s ts f false up o here next a b refl refl h n
  ordered fn s ts f true up o here next a b g h n = λ c st acc t j fit.
      let p = h (enter s (D s) c) st acc refl j (L.into s ts f c up st acc j (subst (λ x. G x s ts) (sym t) g) fit) in
      and_then acc a b p (n c (here (enter s (D s) c) st) (acc ++ a) t p.0
      (L.turn fn s ts f false false false c up _ refl (p.1 c (around fn s ts f false ∷ up) fit)))
  ordered compr s ts false l up o here next a b g h n = in_turn compr s ts false l up o here next a b refl refl h n
  ordered compr s ts true l up o here next a b g h n = λ c st acc t j fit.
      let p = h c st acc t j (L.turn compr s ts true false true l c up st refl fit) in
      let q = L.binds s ts c up (here c st) (acc ++ a) p.0 (p.1 c (around compr s ts true false ∷ up) fit) in
      let r = block (top c.scopes) ts (here c st) in
      let z = n (inner r.0 c) r.1 ((acc ++ a) ++ (opens ts ∷ [])) t q.0 q.2 in
      and_then acc a (opens ts ∷ b) p (rw (append_assoc (acc ++ a) (opens ts ∷ []) b) at z.0, λ c' up' k. z.1 c' up' (q.1 c' up' k))
  ordered clause s ts false l up o here next a b g h n = in_turn clause s ts false l up o here next a b refl refl h n
  ordered clause s ts true l up o here next a b g h n = λ c st acc t j fit.
      let p = n c st acc t j (L.turn clause s ts true false false false c up st refl fit) in
      and_then acc b a p (h c (next c st) (acc ++ b) t p.0 (L.turn clause s ts true false true l c up (next c st) refl (p.1 c (around clause s ts true false ∷ up) fit)))

  pub walked : (f : Forest) (w : Way) (s : ℕ) (ts : List Target) (b : Bool) (up : List Around) (o : ℕ)
      → AllFn N G f w s o → Good G w o s ts → Run w s ts b false up o (walk N D out f w s ts b) (steps N f w s ts b up)
  unfolding walk steps AllFn below typed
  walked nil w s ts b up o all g = λ c st acc t j fit. stay st acc j
  walked (node at k v kids rest) w s ts b up o all g =
      ordered w s ts b (empty rest) up o
      (λ c st. walk N D out kids (way k) v (targets N k kids) true (below (way k) c) (look_up N D out (way k) at v c st))
      (λ c st. walk N D out rest w s ts false c st) _ _ g
      (λ c st acc t j fit.
      let here = around w s ts b (empty rest) ∷ up in
      let p = looked (way k) at v c here st acc j fit in
      and_then acc (site_here (way k) at v here) _ p (walked kids (way k) v (targets N k kids) true here (inner_scope w s (empty rest) o) all.1 all.0
      (below (way k) c) (look_up N D out (way k) at v c st) (acc ++ site_here (way k) at v here) t p.0
      (L.push (way k) v (targets N k kids) c here _ (p.1 c here fit))))
      (walked rest w s ts false up o all.2 g)

pub good_map : (G H : ℕ → ℕ → List Target → Type 0) → ((o s : ℕ) (ts : List Target) → G o s ts → H o s ts)
    → (w : Way) (o s : ℕ) (ts : List Target) → Good G w o s ts → Good H w o s ts
unfolding Good
good_map G H h w o s ts g = if_map (is_fn w) (h o s ts) g

pub all_fn_map : (N : Names) (G H : ℕ → ℕ → List Target → Type 0) → ((o s : ℕ) (ts : List Target) → G o s ts → H o s ts)
    → (f : Forest) (w : Way) (s o : ℕ) → AllFn N G f w s o → AllFn N H f w s o
unfolding AllFn
all_fn_map N G H h nil w s o a = tt
all_fn_map N G H h (node at k v kids rest) w s o a =
    (good_map G H h (way k) _ v (targets N k kids) a.0, all_fn_map N G H h kids (way k) v _ a.1, all_fn_map N G H h rest w s o a.2)

good_both : (G H : ℕ → ℕ → List Target → Type 0) (w : Way) (o s : ℕ) (ts : List Target) → Good G w o s ts → Good H w o s ts → Good (λ o s ts. G o s ts × H o s ts) w o s ts
unfolding Good
good_both G H w o s ts g h = if_both _ _ (is_fn w) g h

pub all_fn_both : (N : Names) (G H : ℕ → ℕ → List Target → Type 0) (f : Forest) (w : Way) (s o : ℕ)
    → AllFn N G f w s o → AllFn N H f w s o → AllFn N (λ o s ts. G o s ts × H o s ts) f w s o
unfolding AllFn
all_fn_both N G H nil w s o a b = tt
all_fn_both N G H (node at k v kids rest) w s o a b =
    (good_both G H (way k) _ v (targets N k kids) a.0 b.0, all_fn_both N G H kids (way k) v _ a.1 b.1, all_fn_both N G H rest w s o a.2 b.2)
