-- Captured, by the meanings: a local that some Ident of another scope means; a module name that some Ident inside a function means.
use Rattle.std.proofs.Math.Path.{◌≡◌, sym, ap, subst}
use Rattle.std.specs.Prelude.{refl, ◌⊎◌, ◌↔◌, Bool, cond, not, ◌&&◌, ◌||◌, ℕ, zero, suc, ◌+◌, ◌≤◌, ◌<◌, eqb, drop}
use Rattle.std.proofs.Common.{◌∙◌, inr}
use Rattle.std.proofs.Math.Logic.{inl}
use mathlib.Core.List.{List, [], ◌∷◌}
use Rattle.std.proofs.Math.Bool.{true, false}
use Rattle.std.proofs.Math.Option.{some}
use native.Mathlib.Omega.{arith}
use Rattle.std.proofs.Math.Decide.{dec_lt}
use Rattle.std.proofs.Math.ListN.{get_elem?}
use Rattle.lexical.specs.Lists.{none-some, eqb_self, eqb-not, eqb-true, eqb-false, Tested, was, wasnt, tested}
use Rattle.lexical.specs.Places.{Some, In, Distinct}
use Rattle.lexical.specs.Sums.{one, total}
use Rattle.lexical.specs.Tree.{top, nodes_in}
use Rattle.lexical.specs.Binders.{Var, unmarked}
use Rattle.lexical.specs.Module.{Outer, module', global, missing, Entry, File, module_vars, outer_of}
use Rattle.lexical.specs.Meaning.{declared, in_type, scopes_of, local, refused, outside, means_in, Site, meaning}
use Rattle.lexical.specs.State.{Binding, Found, Event, Named}
use Rattle.lexical.specs.Block.{new}
use Rattle.lexical.specs.First.{entry_slot, module_binding, module_bindings, start}
use Rattle.lexical.specs.Third.{resolved}
use Rattle.lexical.specs.Records.{in_function, captures_outer, captures_found, captured}
use Rattle.lexical.specs.Claims.{seen, Scoped, Across, Inside, sites_of}
use Rattle.lexical.proofs.Laws.Capacity.{made_size, named_nodes_size}
use Rattle.lexical.proofs.Theory.Chains.{LedFound}
use Rattle.lexical.proofs.Theory.Count.{counted_nodes}
use Rattle.lexical.proofs.Theory.Last.{last}
use Rattle.lexical.proofs.Theory.Outcome.{event_of, meaning_of, means_outside, scopes_of_lem, site_of, means_refused, means_local}
use Rattle.lexical.proofs.Theory.Outer.{module_binding_lem}
use Rattle.lexical.proofs.Theory.Slots.{both_true}

-- a local is told by the Name that declares it
one_none : (x : ℕ) (l : List ℕ) → (In x l → ⊥) → total (one x) l ≡ 0
unfolding total one
one_none x [] n = refl
one_none x (y ∷ l) n = rw (eqb-not x y (λ e. n (inl e))) (omega (arith, one_none x l (λ m. n (inr m))))

pub one_once : (x : ℕ) (l : List ℕ) → Distinct l → total (one x) l ≤ 1
unfolding total one
one_once x [] d = omega arith
one_once x (y ∷ l) d = go (tested (eqb x y)) (one_once x l d.1)
  where
    go : Tested (eqb x y) → total (one x) l ≤ 1 → one x y + total (one x) l ≤ 1
    go (was e) h = rw e (omega (arith, one_none x l (subst (λ z. In z l → ⊥) (sym (eqb-true x y e)) d.0)))
    go (wasnt e) h = rw e (omega arith)

total-at : {A : Type 0} (u : A → ℕ) (xs : List A) (i : ℕ) (a : A) → get_elem? xs i ≡ some a → u a ≤ total u xs
unfolding total
total-at u [] i a e = absurd (none-some refl e)
total-at u (x ∷ xs) zero a e = let z : x ≡ a = cc in omega (arith, ap u z)
total-at u (x ∷ xs) (suc i) a e = omega (arith, total-at u xs i a e)

total_two : {A : Type 0} (u : A → ℕ) (xs : List A) (i j : ℕ) (a b : A) → get_elem? xs i ≡ some a → get_elem? xs j ≡ some b → i < j → u a + u b ≤ total u xs
unfolding total
total_two u [] i j a b e q l = absurd (none-some refl e)
total_two u (x ∷ xs) i zero a b e q l = absurd (omega arith)
total_two u (x ∷ xs) zero (suc j) a b e q l = let z : x ≡ a = cc in omega (arith, ap u z, total-at u xs j b q)
total_two u (x ∷ xs) (suc i) (suc j) a b e q l = omega (arith, total_two u xs i j a b e q (omega arith))

-- where the weights come to 1 at most, only one element weighs 1
pub total-one : {A : Type 0} (u : A → ℕ) (xs : List A) (i j : ℕ) (a b : A) → total u xs ≤ 1 → get_elem? xs i ≡ some a → get_elem? xs j ≡ some b → u a ≡ 1 → u b ≡ 1 → i ≡ j
total-one u xs i j a b most e q p r = go (dec_lt i j) (dec_lt j i)
  where
    go : Dec (i < j) → Dec (j < i) → i ≡ j
    go (yes l) z = absurd (omega (arith, total_two u xs i j a b e q l))
    go (no l) (yes z) = absurd (omega (arith, total_two u xs j i b a q e z))
    go (no l) (no z) = omega arith

-- what a local weighs
unfoldable local_weight : (ℕ → ℕ) → Binding → ℕ
local_weight g b = cond b.local (g b.var.source) 0

module_weight : (g : ℕ → ℕ) (taken : List ℕ) (es : List Entry) (vs : List Var) → total (local_weight g) (module_bindings taken es vs) ≡ 0
unfolding module_bindings module_binding total local_weight
module_weight g taken es [] = refl
module_weight g taken es (v ∷ vs) = omega (arith, module_weight g (entry_slot es taken ∷ taken) (drop 1 es) vs)

-- how many locals a Name declares
locals_of : (F : File) → Distinct (nodes_in F.root) → (x : ℕ) → total (local_weight (one x)) (resolved F).made ≤ 1
unfolding start
locals_of F d x = omega (
  arith,
  made_size (one x) (local_weight (one x)) (λ s v st. unfold local_weight new in refl) F,
  module_weight (one x) [] F.entries (module_vars F),
  counted_nodes (one x) F.names F.root unmarked,
  one_once x (nodes_in F.root) d,
)

pub source_unique : (F : File) → Distinct (nodes_in F.root) → (i j : ℕ) (b c : Binding) → get_elem? (resolved F).made i ≡ some b → get_elem? (resolved F).made j ≡ some c
    → b.local ≡ true → c.local ≡ true → b.var.source ≡ c.var.source → i ≡ j
unfolding local_weight one
source_unique F d i j b c e q l m s = total-one (local_weight (one b.var.source)) (resolved F).made i j b c (locals_of F d b.var.source) e q (weight b l refl) (weight c m (sym s))
  where
    weight : (a : Binding) → a.local ≡ true → a.var.source ≡ b.var.source → local_weight (one b.var.source) a ≡ 1
    weight a t z = rw (t, z, eqb_self b.var.source) refl

-- a Name has one binding, so a buffer by node holds it
pub named_once : (F : File) → Distinct (nodes_in F.root) → (i j : ℕ) (x y : Named) → get_elem? (resolved F).named i ≡ some x → get_elem? (resolved F).named j ≡ some y → x.node ≡ y.node → i ≡ j
unfolding one
named_once F d i j x y e q s = total-one (λ (z : Named). one x.node z.node) (resolved F).named i j x y most e q (weight x refl) (weight y (sym s))
  where
    weight : (z : Named) → z.node ≡ x.node → one x.node z.node ≡ 1
    weight z t = rw (t, eqb_self x.node) refl

    most : total (λ (z : Named). one x.node z.node) (resolved F).named ≤ 1
    most = omega (arith, named_nodes_size (one x.node) F, one_once x.node (nodes_in F.root) d)

-- some lookup captures it
captured-some : (i : ℕ) (es : List Event) → captured i es ≡ true → (j : ℕ) × (e : Event) × (get_elem? es j ≡ some e) × (captures_found i e.scopes e.found ≡ true)
unfolding captured
captured-some i [] h = absurd (let z : ◌≡◌ {A = ℕ} 0 1 = cc in omega arith)
captured-some i (x ∷ es) h = go (tested (captures_found i x.scopes x.found)) (λ z. captured-some i es z)
  where
    go : Tested (captures_found i x.scopes x.found) → (captured i es ≡ true → (j : ℕ) × (e : Event) × (get_elem? es j ≡ some e) × (captures_found i e.scopes e.found ≡ true))
        → (j : ℕ) × (e : Event) × (get_elem? (x ∷ es) j ≡ some e) × (captures_found i e.scopes e.found ≡ true)
    go (was t) rec = (zero, x, refl, t)
    go (wasnt t) rec = let r = rec (rw t at h) in (suc r.0, r.1, r.2, r.3)

captured-at : (i : ℕ) (es : List Event) (j : ℕ) (e : Event) → get_elem? es j ≡ some e → captures_found i e.scopes e.found ≡ true → captured i es ≡ true
unfolding captured
captured-at i [] j e q h = absurd (none-some refl q)
captured-at i (x ∷ es) zero e q h = let z : x ≡ e = cc in rw (ap (λ (y : Event). captures_found i y.scopes y.found) z ∙ h) refl
captured-at i (x ∷ es) (suc j) e q h = or_right (captures_found i x.scopes x.found) (captured i es) (captured-at i es j e q h)
  where
    or_right : (a b : Bool) → b ≡ true → (a || b) ≡ true
    or_right true b h = refl
    or_right false b h = h

-- declared is to mean a local, or to be refused one in a type
pub declared_means : (out : ℕ → Outer) (s : Site) (d : ℕ × ℕ) → (declared s.name s.above ≡ some d) ↔ ((meaning out s ≡ local d) ⊎ (meaning out s ≡ refused d))
unfolding meaning
declared_means out s d = (there, back)
  where
    means : (t : Bool) → (means_in (some d) t (out s.name) ≡ local d) ⊎ (means_in (some d) t (out s.name) ≡ refused d)
    means true = inr (unfold means_in in refl)
    means false = inl (unfold means_in in refl)

    there : declared s.name s.above ≡ some d → (meaning out s ≡ local d) ⊎ (meaning out s ≡ refused d)
    there e = rw e (means (in_type s.above))

    back : (meaning out s ≡ local d) ⊎ (meaning out s ≡ refused d) → declared s.name s.above ≡ some d
    back (inl e) = means_local _ _ _ d (sym e)
    back (inr e) = means_refused _ _ _ d (sym e)

not-true : (a : Bool) → not a ≡ true → a ≡ false
not-true true e = absurd (let z : ◌≡◌ {A = ℕ} 0 1 = cc in omega arith)
not-true false e = refl

module _ (F : File) (ok : Scoped F) (i : ℕ) (b : Binding) (at : get_elem? (resolved F).made i ≡ some b) where
  -- a local looked up is the one at its number
  same_local : (c : Binding) → get_elem? (resolved F).made c.id ≡ some c → i ≡ c.id → c ≡ b
  same_local c q e = let z : get_elem? (resolved F).made i ≡ some c = subst (λ x. get_elem? (resolved F).made x ≡ some c) (sym e) q in cc

  across : (c : Binding) (s : Site) (ss : List ℕ) → get_elem? (resolved F).made c.id ≡ some c → ss ≡ scopes_of s.above → declared s.name s.above ≡ some (c.owner, c.var.source)
      → (eqb i c.id ≡ true) × (not (eqb c.owner (top ss)) ≡ true) → Across b.owner b.var.source s
  across c s ss q w m h = let z : c ≡ b = same_local c q (eqb-true i c.id h.0) in subst (λ (x : Binding). Across x.owner x.var.source s) z
      (record { means = m; apart = λ e. eqb-false c.owner (top ss) (not-true _ h.1) (e ∙ ap top (sym w)) })

  local_from : b.local ≡ true → (s : Site) (n : ℕ) (ss : List ℕ) (f : Found) → LedFound (resolved F) n ss f → ss ≡ scopes_of s.above → seen f ≡ meaning (outer_of F) s → captures_found i ss f ≡ true → Across b.owner b.var.source s
  unfolding seen captures_found captures_outer meaning
  local_from l s n ss (Found.local c k) h w m t = across c s ss h.known w (means_local _ _ _ _ m) (both_true _ _ t)
  local_from l s n ss (Found.refused c k) h w m t = across c s ss h.known w (means_refused _ _ _ _ m) (both_true _ _ t)
  local_from l s n ss (Found.outside o) h w m t = absurd (outer o (means_outside _ _ _ o m).1 t)
    where
      outer : (o : Outer) → outer_of F s.name ≡ o → captures_outer i ss o ≡ true → ⊥
      outer (module' j) e t = let p = both_true _ _ t in
          let r = module_binding_lem F ok s.name j e in
          let z : get_elem? (resolved F).made i ≡ some r.binding = subst (λ x. get_elem? (resolved F).made x ≡ some r.binding) (sym (eqb-true i j p.0)) r.stands in
          let y : r.binding ≡ b = cc in
          let x : true ≡ false = sym l ∙ sym (ap (λ (a : Binding). a.local) y) ∙ r.of_module_lem in
          let v : ◌≡◌ {A = ℕ} 0 1 = cc in omega arith
      outer (global g) e t = absurd (let z : ◌≡◌ {A = ℕ} 0 1 = cc in omega arith)
      outer missing e t = absurd (let z : ◌≡◌ {A = ℕ} 0 1 = cc in omega arith)

  local_no : b.local ≡ false → (c : Binding) → get_elem? (resolved F).made c.id ≡ some c → c.local ≡ true → eqb i c.id ≡ true → ⊥
  local_no l c q m t = let z : c ≡ b = same_local c q (eqb-true i c.id t) in
      let x : true ≡ false = sym m ∙ ap (λ (a : Binding). a.local) z ∙ l in let y : ◌≡◌ {A = ℕ} 0 1 = cc in omega arith

  module_from : b.local ≡ false → (s : Site) (n : ℕ) (ss : List ℕ) (f : Found) → LedFound (resolved F) n ss f → ss ≡ scopes_of s.above → seen f ≡ meaning (outer_of F) s → captures_found i ss f ≡ true → Inside (outer_of F) i s
  unfolding seen captures_found captures_outer
  module_from l s n ss (Found.local c k) h w m t = absurd (local_no l c h.known h.is_local (both_true _ _ t).0)
  module_from l s n ss (Found.refused c k) h w m t = absurd (local_no l c h.known h.is_local (both_true _ _ t).0)
  module_from l s n ss (Found.outside (module' j)) h w m t = let p = both_true (eqb i j) (in_function ss) t in
      record { means = sym m ∙ ap (λ x. outside (module' x)) (sym (eqb-true i j p.0)); within = ap in_function (sym w) ∙ p.1 }
  module_from l s n ss (Found.outside (global g)) h w m t = absurd (let z : ◌≡◌ {A = ℕ} 0 1 = cc in omega arith)
  module_from l s n ss (Found.outside missing) h w m t = absurd (let z : ◌≡◌ {A = ℕ} 0 1 = cc in omega arith)

  home_of : (s : Site) (c : Binding) → declared s.name s.above ≡ some (c.owner, c.var.source) → Across b.owner b.var.source s → ◌≡◌ {A = ℕ × ℕ} (c.owner, c.var.source) (b.owner, b.var.source)
  home_of s c m a = cc (m, a.means)

  source_of : (s : Site) (c : Binding) → declared s.name s.above ≡ some (c.owner, c.var.source) → Across b.owner b.var.source s → c.var.source ≡ b.var.source
  source_of s c m a = ap (λ (p : ℕ × ℕ). p.1) (home_of s c m a)

  reach : (s : Site) (c : Binding) (ss : List ℕ) → c.id ≡ i → declared s.name s.above ≡ some (c.owner, c.var.source) → ss ≡ scopes_of s.above → Across b.owner b.var.source s
      → (eqb i c.id && not (eqb c.owner (top ss))) ≡ true
  reach s c ss e m w a = rw (e, eqb_self i, w, eqb-not c.owner (top (scopes_of s.above)) (λ q. a.apart (sym (ap (λ (p : ℕ × ℕ). p.0) (home_of s c m a)) ∙ q))) refl

  to_local : (s : Site) (n : ℕ) (ss : List ℕ) (f : Found) → ((c : Binding) → get_elem? (resolved F).made c.id ≡ some c → c.local ≡ true → c.var.source ≡ b.var.source → c.id ≡ i)
      → LedFound (resolved F) n ss f → ss ≡ scopes_of s.above → seen f ≡ meaning (outer_of F) s → Across b.owner b.var.source s → captures_found i ss f ≡ true
  unfolding seen captures_found meaning
  to_local s n ss (Found.local c k) u h w m a = reach s c ss (u c h.known h.is_local (source_of s c (means_local _ _ _ _ m) a)) (means_local _ _ _ _ m) w a
  to_local s n ss (Found.refused c k) u h w m a = reach s c ss (u c h.known h.is_local (source_of s c (means_refused _ _ _ _ m) a)) (means_refused _ _ _ _ m) w a
  to_local s n ss (Found.outside o) u h w m a = absurd (none-some (means_outside _ _ _ o m).0 a.means)

  to_module : (s : Site) (n : ℕ) (ss : List ℕ) (f : Found) → ss ≡ scopes_of s.above → seen f ≡ meaning (outer_of F) s → Inside (outer_of F) i s → captures_found i ss f ≡ true
  unfolding seen captures_found captures_outer
  to_module s n ss (Found.local c k) w m a = absurd (let q : local (c.owner, c.var.source) ≡ outside (module' i) = m ∙ a.means in let z : ◌≡◌ {A = ℕ} 0 1 = cc in omega arith)
  to_module s n ss (Found.refused c k) w m a = absurd (let q : refused (c.owner, c.var.source) ≡ outside (module' i) = m ∙ a.means in let z : ◌≡◌ {A = ℕ} 0 1 = cc in omega arith)
  to_module s n ss (Found.outside o) w m a = let q : outside o ≡ outside (module' i) = m ∙ a.means in let z : o ≡ module' i = cc in rw (z, eqb_self i, w) a.within

  -- a local is captured if some Ident of another scope means it, and only then
  pub across_captured : Distinct (nodes_in F.root) → b.local ≡ true → (captured i (resolved F).log ≡ true) ↔ Some (Across b.owner b.var.source) (sites_of F)
  across_captured d l = (there, back)
    where
      there : captured i (resolved F).log ≡ true → Some (Across b.owner b.var.source) (sites_of F)
      there t = let p = captured-some i (resolved F).log t in let q = site_of F ok p.0 p.1 p.2 in
          (p.0, q.0, q.1, local_from l q.0 p.1.name p.1.scopes p.1.found ((last F ok).led p.0 p.1 p.2) (scopes_of_lem F p.1 q.0 q.2) (meaning_of F p.1 q.0 q.2) p.3)

      back : Some (Across b.owner b.var.source) (sites_of F) → captured i (resolved F).log ≡ true
      back (j, s, q, a) = let p = event_of F ok j s q in
          captured-at i (resolved F).log j p.0 p.1 (to_local s p.0.name p.0.scopes p.0.found (λ c k m z. source_unique F d c.id i c b k at m l z)
          ((last F ok).led j p.0 p.1) (scopes_of_lem F p.0 s (sym p.2)) (meaning_of F p.0 s (sym p.2)) a)

  -- a module binding, if some Ident inside a function means it
  pub inside_captured : b.local ≡ false → (captured i (resolved F).log ≡ true) ↔ Some (Inside (outer_of F) i) (sites_of F)
  inside_captured l = (there, back)
    where
      there : captured i (resolved F).log ≡ true → Some (Inside (outer_of F) i) (sites_of F)
      there t = let p = captured-some i (resolved F).log t in let q = site_of F ok p.0 p.1 p.2 in
          (p.0, q.0, q.1, module_from l q.0 p.1.name p.1.scopes p.1.found ((last F ok).led p.0 p.1 p.2) (scopes_of_lem F p.1 q.0 q.2) (meaning_of F p.1 q.0 q.2) p.3)

      back : Some (Inside (outer_of F) i) (sites_of F) → captured i (resolved F).log ≡ true
      back (j, s, q, a) = let p = event_of F ok j s q in
          captured-at i (resolved F).log j p.0 p.1 (to_module s p.0.name p.0.scopes p.0.found (scopes_of_lem F p.0 s (sym p.2)) (meaning_of F p.0 s (sym p.2)) a)
