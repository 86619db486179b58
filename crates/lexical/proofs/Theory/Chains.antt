-- T2 and the heart of T3: every local that is looked up leads home along the copies, and every copy is needed.
use Rattle.std.specs.Prelude.{◌≡◌, ◌⊎◌, Bool, true, false, cond, eqb}
use Rattle.std.proofs.Math.Path.{refl, ap, subst}
use Rattle.std.proofs.Common.{sym, ◌∙◌, arith}
use Rattle.std.proofs.Math.Logic.{inl, inr}
use mathlib.Core.List.{List, [], ◌∷◌, ◌++◌}
use Rattle.std.proofs.Math.Option.{Option, none, some}
use Prim.Native.Nat.{ℕ}
use Rattle.std.proofs.Math.ListN.{get_elem?}
use Rattle.lexical.specs.Lists.{picked, first, eqb-true, or_else, none-some, Opened, absent, present, opened, Tested, was, wasnt, tested, first_append}
use Rattle.lexical.specs.Places.{all_snoc, some_end, All, some_left, all_none, Some, In}
use Rattle.lexical.specs.Tree.{is_fn, Forest, Way, plain, fn, compr, top}
use Rattle.lexical.specs.Binders.{Names, Target, merge}
use Rattle.lexical.specs.Module.{Outer}
use Rattle.lexical.specs.Meaning.{Around, around, reach}
use Rattle.lexical.specs.Order.{Step, ident, opens, steps}
use Rattle.lexical.specs.State.{Binding, Found, local, refused, outside, Event, St, Ctx}
use Rattle.lexical.specs.Block.{naming, block, called}
use Rattle.lexical.specs.Third.{bring, logged, look_found, enter, inner, typed, below, look_up, walk}
use Rattle.lexical.specs.Follow.{copied}
use Rattle.lexical.specs.Claims.{Titled, OfLocal}
use Rattle.lexical.proofs.Theory.Brought.{Chained, Between, Home, home_ext, home_in_lem, Brought, brought, Bound, blocked, titled_ext, titled_block}
use Rattle.lexical.proofs.Theory.Fine.{Fine}
use Rattle.lexical.proofs.Theory.Induct.{AllFn, Good, Keeps, Post, Laws, walked}
use Rattle.lexical.proofs.Theory.Lead.{Lead, Lead_ext, Ext, Ext-refl, Ext_trans}
use Rattle.lexical.proofs.Theory.Same.{bind_copies, bring-named, bring_log, bind_log}

-- what a lookup's local has
pub record Led (st : St) (n : ℕ) (ss : List ℕ) (b : Binding) (k : ℕ) : Type 0 where
  pub leads : Lead st ss k b
  pub known : get_elem? st.made b.id ≡ some b
  pub named : b.var.name ≡ n
  pub is_local : b.local ≡ true

abbrev pub LedFound : St → ℕ → List ℕ → Found → Type 0
LedFound st n ss f = OfLocal (Led st n ss) f

abbrev pub LedAll : St → List Event → Type 0
LedAll st es = All (λ (e : Event). LedFound st e.name e.scopes e.found) es

-- scope t needs a copy of binding i for this lookup, for some lookup
abbrev pub NeedsFound : ℕ → ℕ → List ℕ → Found → Type 0
NeedsFound t i ss (local b k) = (i ≡ b.id) × Between t ss b
NeedsFound t i ss (refused b k) = (i ≡ b.id) × Between t ss b
NeedsFound t i ss (outside o) = ⊥

abbrev pub Needs : ℕ → ℕ → List Event → Type 0
Needs t i es = Some (λ (e : Event). NeedsFound t i e.scopes e.found) es

pub of_local : (P Q : Binding → ℕ → Type 0) → ((b : Binding) (k : ℕ) → P b k → Q b k) → (f : Found) → OfLocal P f → OfLocal Q f
of_local P Q h (local b k) p = h b k p
of_local P Q h (refused b k) p = h b k p
of_local P Q h (outside o) p = tt

-- the local of a lookup that needs a copy
pub needing : (P : Binding → ℕ → Type 0) (t i : ℕ) (ss : List ℕ) (f : Found) → OfLocal P f → NeedsFound t i ss f → (b : Binding) × (k : ℕ) × P b k × (i ≡ b.id) × Between t ss b
needing P t i ss (local b k) p n = (b, k, p, n.0, n.1)
needing P t i ss (refused b k) p n = (b, k, p, n.0, n.1)
needing P t i ss (outside o) p n = absurd n

led_ext : {st st' : St} → Ext st st' → (n : ℕ) (ss : List ℕ) (f : Found) → LedFound st n ss f → LedFound st' n ss f
led_ext {st} {st'} x n ss f h = of_local (Led st n ss) (Led st' n ss) (λ b k l. record { leads = Lead_ext x ss k b l.leads; known = x.known _ _ l.known; named = l.named; is_local = l.is_local }) f h

pub log_ext : (at n : ℕ) (ss : List ℕ) (f : Found) (st : St) → Ext st (logged at n ss f st)
unfolding logged
log_ext at n ss f st = record { grow = λ s. omega arith; hands = λ s i k e. e; known = λ i b e. e; values = λ s k i e. e; keeps = λ s k h. refl }

log_fine : (chain : ℕ → List ℕ) (at n : ℕ) (ss : List ℕ) (f : Found) (st : St) → Fine chain st → Fine chain (logged at n ss f st)
unfolding logged
log_fine chain at n ss f st h = record { clean = h.clean; unset = h.unset; newid = h.newid; handy = λ s i k b e e'. Lead_ext (log_ext at n ss f st) (chain s) k b (h.handy s i k b e e'); once = h.once; had = h.had; shared = h.shared }

-- the scopes of a context
abbrev pub Nested : (ℕ → List ℕ) → List ℕ → Type 0
Nested chain [] = ⊥
Nested chain (s ∷ ss) = Chained chain (s ∷ ss)

pub nested_chained : (chain : ℕ → List ℕ) (l : List ℕ) → Nested chain l → Chained chain l
nested_chained chain (s ∷ ss) h = h
nested_chained chain [] h = elim h [ ]

nested-top : (chain : ℕ → List ℕ) (l : List ℕ) → Nested chain l → (ss : List ℕ) × (chain (top l) ≡ top l ∷ ss) × (chain (top l) ≡ l) × In (top l) l
unfolding top
nested-top chain (s ∷ ss) h = (ss, h.0, h.0, inl refl)
nested-top chain [] h = elim h [ ]

first_cases : {A : Type 0} (p : A → Bool) (xs ys : List A) (a : A) → first p (xs ++ ys) ≡ some a → (first p xs ≡ some a) ⊎ (first p ys ≡ some a)
first_cases p xs ys a e = go (opened (first p xs)) (sym (first_append p xs ys) ∙ e)
  where
    go : Opened (first p xs) → or_else (first p xs) (first p ys) ≡ some a → (first p xs ≡ some a) ⊎ (first p ys ≡ some a)
    go (present b q) z = inl (q ∙ (unfold or_else in (rw q at z)))
    go (absent q) z = inr (unfold or_else in (rw q at z))

-- every lookup is made in scopes that stand around one another
abbrev pub Nests : (ℕ → List ℕ) → List Event → Type 0
Nests chain es = All (λ (e : Event). Nested chain e.scopes) es

first-called : (n : ℕ) (b : Binding) (bs : List Binding) → first (called n) bs ≡ some b → b.var.name ≡ n
unfolding first called
first-called n b [] e = absurd (none-some refl e)
first-called n b (x ∷ bs) e = go (tested (eqb x.var.name n)) e (λ z. first-called n b bs z)
  where
    go : Tested (eqb x.var.name n) → cond (eqb x.var.name n) (some x) (first (called n) bs) ≡ some b → (first (called n) bs ≡ some b → b.var.name ≡ n) → b.var.name ≡ n
    go (was t) z rec = let y : some x ≡ some b = rw t at z in let w : x ≡ b = cc in sym (ap (λ (c : Binding). c.var.name) w) ∙ eqb-true _ _ t
    go (wasnt t) z rec = rec (rw t at z)

module _ (N : Names) (D : ℕ → List Binding) (out : ℕ → Outer) (chain : ℕ → List ℕ) (st₀ : St) where
  pub record J2 (st : St) (acc : List Step) : Type 0 where
    pub fine : Fine chain st
    pub since : Ext st₀ st
    pub led : LedAll st st.log
    pub titled : Titled st st.named
    pub nests : Nests chain st.log
    pub needed : (t i : ℕ) → In i (copied t st.copies) → Needs t i st.log

  pub record Fit2 (c : Ctx) (up : List Around) (st : St) : Type 0 where
    pub homed : (n : ℕ) (b : Binding) → first (called n) c.env ≡ some b → Home c.scopes b st
    pub nested : Nested chain c.scopes

  pub record Rowed (o s : ℕ) (ts : List Target) : Type 0 where
    pub inner_of : chain s ≡ s ∷ chain o
    pub at_homes : (n : ℕ) (b : Binding) → first (called n) (D s) ≡ some b → Home (s ∷ []) b st₀

  fit_ext : {st st' : St} → Ext st st' → Keeps Fit2 st st'
  fit_ext x c up h = record { homed = λ n b e. home_ext c.scopes b x (h.homed n b e); nested = h.nested }

  push2 : (w : Way) (s : ℕ) (ts : List Target) (c : Ctx) (up : List Around) (st : St) → Fit2 c up st → Fit2 (below w c) (around w s ts true false ∷ up) st
  unfolding below typed
  push2 w s ts c up st h = record { homed = h.homed; nested = h.nested }

  turn2 : (w : Way) (s : ℕ) (ts : List Target) (f l f' l' : Bool) (c : Ctx) (up : List Around) (st : St) → reach w f l ≡ reach w f' l'
      → Fit2 c (around w s ts f l ∷ up) st → Fit2 c (around w s ts f' l' ∷ up) st
  turn2 w s ts f l f' l' c up st e h = record { homed = h.homed; nested = h.nested }

  into2 : (s : ℕ) (ts : List Target) (f : Bool) (c : Ctx) (up : List Around) (st : St) (acc : List Step) → J2 st acc → Rowed (top c.scopes) s ts
      → Fit2 c (around fn s ts f false ∷ up) st → Fit2 (enter s (D s) c) (around fn s ts f true ∷ up) st
  unfolding enter
  into2 s ts f c up st acc j g h = record {
    homed = λ n b e. go n b (first_cases (called n) (D s) c.env b e);
    nested = (g.inner_of ∙ ap (λ l. s ∷ l) (nested-top chain c.scopes h.nested).2, nested_chained chain c.scopes h.nested);
  }
    where
      go : (n : ℕ) (b : Binding) → (first (called n) (D s) ≡ some b) ⊎ (first (called n) c.env ≡ some b) → Home (s ∷ c.scopes) b st
      go n b (inl e) = home_in_lem s (s ∷ c.scopes) b st (inl refl) (home_ext (s ∷ []) b j.since (g.at_homes n b e))
      go n b (inr e) = let z = h.homed n b e in record { inside = inr z.inside; at_home = z.at_home; is_known = z.is_known; is_local = z.is_local }

  module _ (s : ℕ) (ts : List Target) (c : Ctx) (up : List Around) (st : St) (acc : List Step) (j : J2 st acc) (h : Fit2 c (around compr s ts true false ∷ up) st) where
    abbrev s₁ : ℕ
    s₁ = top c.scopes

    abbrev bs₁ : List Binding
    bs₁ = (block s₁ ts st).0

    abbrev st₁ : St
    st₁ = (block s₁ ts st).1

    bound₁ : Bound chain s₁ st bs₁ st₁
    bound₁ = let t = nested-top chain c.scopes h.nested in blocked chain s₁ t.0 t.1 ts st j.fine

    opens_J : J2 st₁ (acc ++ (opens ts ∷ []))
    unfolding block naming
    opens_J = record {
      fine = bound₁.fine;
      since = Ext_trans j.since bound₁.ext;
      led = subst (LedAll st₁) (sym (bind_log s₁ (merge [] ts) st)) (λ i e q. led_ext bound₁.ext e.name e.scopes e.found (j.led i e q));
      titled = titled_block chain s₁ ts st bound₁ j.titled;
      nests = subst (λ l. Nests chain l) (sym (bind_log s₁ (merge [] ts) st)) j.nests;
      needed = λ t i m. subst (λ l. Needs t i l) (sym (bind_log s₁ (merge [] ts) st)) (j.needed t i (subst (λ l. In i (copied t l)) (bind_copies s₁ (merge [] ts) st) m));
    }

    opens_F : Fit2 (inner bs₁ c) (around compr s ts false false ∷ up) st₁
    unfolding inner
    opens_F = record { homed = λ n b e. go n b (first_cases (called n) bs₁ c.env b e); nested = h.nested }
      where
        go : (n : ℕ) (b : Binding) → (first (called n) bs₁ ≡ some b) ⊎ (first (called n) c.env ≡ some b) → Home c.scopes b st₁
        go n b (inl e) = home_in_lem s₁ c.scopes b st₁ (nested-top chain c.scopes h.nested).3 (bound₁.homes n b e)
        go n b (inr e) = home_ext c.scopes b bound₁.ext (h.homed n b e)

    opens2 : J2 st₁ (acc ++ (opens ts ∷ [])) × Keeps Fit2 st st₁ × Fit2 (inner bs₁ c) (around compr s ts false false ∷ up) st₁
    opens2 = (opens_J, fit_ext bound₁.ext, opens_F)

  logged2 : (at n : ℕ) (ss : List ℕ) (f : Found) (st : St) (acc : List Step) → Fine chain st → Ext st₀ st → LedAll st st.log → Titled st st.named → Nests chain st.log → Nested chain ss → LedFound st n ss f
      → ((t i : ℕ) → In i (copied t st.copies) → Needs t i st.log ⊎ NeedsFound t i ss f) → J2 (logged at n ss f st) acc
  unfolding logged
  logged2 at n ss f st acc fi si le ti nl ns lf ne = record {
    fine = log_fine chain at n ss f st fi;
    since = Ext_trans si (log_ext at n ss f st);
    led = all_snoc _ st.log (record { node = at; name = n; scopes = ss; found = f }) (λ i e q. led_ext (log_ext at n ss f st) e.name e.scopes e.found (le i e q)) (led_ext (log_ext at n ss f st) n ss f lf);
    titled = titled_ext (log_ext at n ss f st) st.named ti;
    nests = all_snoc _ st.log (record { node = at; name = n; scopes = ss; found = f }) nl ns;
    needed = λ t i m. go t i (ne t i m);
  }
    where
      go : (t i : ℕ) → Needs t i st.log ⊎ NeedsFound t i ss f → Needs t i (st.log ++ (record { node = at; name = n; scopes = ss; found = f } ∷ []))
      go t i (inl x) = some_left _ st.log _ x
      go t i (inr x) = some_end _ st.log (record { node = at; name = n; scopes = ss; found = f }) x

  led_cond : (t : Bool) (b : Binding) (k n : ℕ) (st : St) (ss : List ℕ) → Led st n ss b k → LedFound st n ss (cond t (refused b k) (local b k))
  led_cond true b k n st ss l = l
  led_cond false b k n st ss l = l

  need_cond : (u : Bool) (b : Binding) (k t i : ℕ) (ss : List ℕ) → (i ≡ b.id) × Between t ss b → NeedsFound t i ss (cond u (refused b k) (local b k))
  need_cond true b k t i ss h = h
  need_cond false b k t i ss h = h

  found2 : (at n : ℕ) (c : Ctx) (up : List Around) (st : St) (acc acc' : List Step) (o : Option Binding) → J2 st acc → Fit2 c up st → first (called n) c.env ≡ o
      → J2 (look_found o (out n) at n c st) acc' × Ext st (look_found o (out n) at n c st)
  unfolding look_found
  found2 at n c up st acc acc' none j h e = (logged2 at n c.scopes _ st acc' j.fine j.since j.led j.titled j.nests h.nested tt (λ t i m. inl (j.needed t i m)), log_ext at n c.scopes _ st)
  found2 at n c up st acc acc' (some b) j h e = (
    logged2 at n ss _ st' acc' br.fine (Ext_trans j.since br.ext)
        (subst (LedAll st') (sym (bring_log ss b st)) (λ i e q. led_ext br.ext e.name e.scopes e.found (j.led i e q)))
        (subst (λ l. Titled st' l) (sym (bring-named ss b st)) (titled_ext br.ext st.named j.titled)) (subst (λ l. Nests chain l) (sym (bring_log ss b st)) j.nests) h.nested
        (led_cond c.ty b _ n st' ss (record { leads = br.leads; known = br.ext.known _ _ (h.homed n b e).is_known; named = first-called n b c.env e; is_local = (h.homed n b e).is_local }))
        (λ t i m. why t i (br.newer t i m)),
    Ext_trans br.ext (log_ext at n ss _ st'),
  )
    where
      ss : List ℕ
      ss = c.scopes

      st' : St
      st' = (bring ss b st).1

      br : Brought chain ss b st (bring ss b st)
      br = brought chain ss b st (nested_chained chain ss h.nested) j.fine (h.homed n b e)

      why : (t i : ℕ) → In i (copied t st.copies) ⊎ ((i ≡ b.id) × Between t ss b) → Needs t i st'.log ⊎ NeedsFound t i ss (cond c.ty (refused b (bring ss b st).0) (local b (bring ss b st).0))
      why t i (inl m) = inl (subst (λ l. Needs t i l) (sym (bring_log ss b st)) (j.needed t i m))
      why t i (inr m) = inr (need_cond c.ty b _ t i ss m)

  scan2 : (at n : ℕ) (c : Ctx) (up : List Around) (st : St) (acc : List Step) → J2 st acc → Fit2 c up st
      → Post J2 Fit2 st acc (look_found (first (called n) c.env) (out n) at n c st) (ident (record { node = at; name = n; above = up }) ∷ [])
  unfolding look_up
  scan2 at n c up st acc j h = let x = found2 at n c up st acc (acc ++ (ident (record { node = at; name = n; above = up }) ∷ [])) (first (called n) c.env) j h refl in (x.0, fit_ext x.1)

  laws2 : Laws N D out J2 Fit2 Rowed
  laws2 = record { push = push2; turn = turn2; into = into2; scan = scan2; binds = opens2 }

  pub chains : (root : Forest) (c : Ctx) → AllFn N Rowed root plain 0 0 → c.env ≡ [] → c.scopes ≡ 0 ∷ [] → chain 0 ≡ 0 ∷ [] → Fine chain st₀ → st₀.log ≡ [] → st₀.copies ≡ [] → Titled st₀ st₀.named
      → J2 (walk N D out root plain 0 [] true c st₀) (steps N root plain 0 [] true [])
  chains root c all e o z f l k ti = (walked N D out J2 Fit2 Rowed laws2 root plain 0 [] true [] 0 all (unfold Good is_fn in tt) c st₀ [] (ap top o ∙ (unfold top in refl))
      (record { fine = f; since = Ext-refl st₀; led = rw l (all_none _); titled = ti; nests = rw l (all_none _); needed = λ t i m. absurd (unfold copied picked in (rw k at m)) })
      (record { homed = λ n b q. absurd (unfold first in (none-some {o = first (called n) []} refl (rw e at q))); nested = rw o (z, tt) })).0
