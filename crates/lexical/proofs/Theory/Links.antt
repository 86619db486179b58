-- Which scopes stand around each function, as a table of the tree; where the scope numbers are distinct it is found again.
use Rattle.std.specs.Prelude.{◌≡◌, refl, List, [], ◌∷◌, ◌++◌, map, ◌&&◌, Bool, ℕ, eqb}
use Rattle.std.proofs.Math.Path.{sym, ap}
use Rattle.std.proofs.Common.{◌∙◌, ap₂, inl, inr}
use Rattle.std.proofs.lemmas.List.{map-append}
use Rattle.std.proofs.Math.Bool.{cond, true, false}
use Rattle.std.proofs.Math.Option.{Option, none, some}
use Rattle.lexical.specs.Lists.{either, If, first, eqb_self, eqb-not, eqb-true, Opened, absent, present, opened}
use Rattle.lexical.specs.Places.{In, Distinct, All, all_none, all_cons, all_append, first-at}
use Rattle.lexical.specs.Tree.{when, listed, is_fn, Forest, nil, node, empty, Way, way, scopes_in}
use Rattle.lexical.specs.Binders.{Names, Target, targets}
use Rattle.lexical.specs.Meaning.{deeper}
use Rattle.lexical.proofs.Theory.Induct.{AllFn, Good, inner_scope}

pub record Link : Type 0 where
  pub scope : ℕ
  pub chain : List ℕ

unfoldable pub own_link : Way → ℕ → List ℕ → List Link
own_link w s ch = when (is_fn w) (record { scope = s; chain = s ∷ ch })

unfoldable pub links : Forest → Way → ℕ → List ℕ → List Link
links nil w s ch = []
links (node at k v kids rest) w s ch = own_link (way k) v (deeper w (empty rest) s ch) ++ (links kids (way k) v (deeper w (empty rest) s ch) ++ links rest w s ch)

abbrev pub link_of : ℕ → Link → Bool
link_of t l = eqb l.scope t

unfoldable pub chain_at : ℕ → Option Link → List ℕ
chain_at t none = t ∷ []
chain_at t (some l) = l.chain

unfoldable pub chain_in : List Link → ℕ → List ℕ
chain_in T t = chain_at t (first (link_of t) T)

abbrev keys : List Link → List ℕ
keys ls = map (λ (l : Link). l.scope) ls

keys_own : (w : Way) (s : ℕ) (ch : List ℕ) → keys (own_link w s ch) ≡ when (is_fn w) s
unfolding own_link when
keys_own w s ch = either (is_fn w) (λ b. keys (when b (record { scope = s; chain = s ∷ ch })) ≡ when b s) refl refl

pub keys-links : (f : Forest) (w : Way) (s : ℕ) (ch : List ℕ) → keys (links f w s ch) ≡ scopes_in f
unfolding links scopes_in listed
keys-links nil w s ch = refl
keys-links (node at k v kids rest) w s ch = map-append _ (own_link (way k) v (deeper w (empty rest) s ch)) _
    ∙ ap₂ ◌++◌ (keys_own (way k) v (deeper w (empty rest) s ch))
    (map-append _ (links kids (way k) v (deeper w (empty rest) s ch)) _ ∙ ap₂ ◌++◌ (keys-links kids (way k) v (deeper w (empty rest) s ch)) (keys-links rest w s ch))

abbrev Covers : List Link → List Link → Type 0
Covers T [] = Unit {0}
Covers T (l ∷ ls) = (first (link_of l.scope) T ≡ some l) × Covers T ls

covers_more : (x : Link) (T ls : List Link) → (In x.scope (keys ls) → ⊥) → Covers T ls → Covers (x ∷ T) ls
unfolding first
covers_more x T [] n c = tt
covers_more x T (l ∷ ls) n c = ((rw (eqb-not x.scope l.scope (λ e. n (inl e))) c.0), covers_more x T ls (λ m. n (inr m)) c.1)

pub covers_self : (T : List Link) → Distinct (keys T) → Covers T T
unfolding first
covers_self [] d = tt
covers_self (x ∷ T) d = ((rw (eqb_self x.scope) refl), covers_more x T T d.0 (covers_self T d.1))

covers_split : (T xs ys : List Link) → Covers T (xs ++ ys) → Covers T xs × Covers T ys
covers_split T [] ys c = (tt, c)
covers_split T (x ∷ xs) ys c = let p = covers_split T xs ys c.1 in ((c.0, p.0), p.1)

pub no_link : (t : ℕ) (T : List Link) → (In t (keys T) → ⊥) → first (link_of t) T ≡ none
unfolding first
no_link t [] n = refl
no_link t (x ∷ T) n = rw (eqb-not x.scope t (λ e. n (inl (sym e)))) (no_link t T (λ m. n (inr m)))

-- a scope's chain begins with the scope
own_head : (w : Way) (s : ℕ) (ch : List ℕ) → All (λ (l : Link). (ss : List ℕ) × (l.chain ≡ l.scope ∷ ss)) (own_link w s ch)
unfolding own_link when
own_head w s ch = either (is_fn w) (λ b. All (λ (l : Link). (ss : List ℕ) × (l.chain ≡ l.scope ∷ ss)) (when b (record { scope = s; chain = s ∷ ch })))
    (all_cons _ (record { scope = s; chain = s ∷ ch }) [] (ch, refl) (all_none _)) (all_none _)

pub link_heads : (f : Forest) (w : Way) (s : ℕ) (ch : List ℕ) → All (λ (l : Link). (ss : List ℕ) × (l.chain ≡ l.scope ∷ ss)) (links f w s ch)
unfolding links
link_heads nil w s ch = all_none _
link_heads (node at k v kids rest) w s ch = all_append _ (own_link (way k) v (deeper w (empty rest) s ch)) _ (own_head (way k) v (deeper w (empty rest) s ch))
    (all_append _ (links kids (way k) v (deeper w (empty rest) s ch)) _ (link_heads kids (way k) v (deeper w (empty rest) s ch)) (link_heads rest w s ch))

pub chain_head : (T : List Link) → All (λ (l : Link). (ss : List ℕ) × (l.chain ≡ l.scope ∷ ss)) T → (t : ℕ) → (ss : List ℕ) × (chain_in T t ≡ t ∷ ss)
unfolding chain_in
chain_head T h t = go (opened (first (link_of t) T))
  where
    go : Opened (first (link_of t) T) → (ss : List ℕ) × (chain_at t (first (link_of t) T) ≡ t ∷ ss)
    go (absent e) = ([], rw e (unfold chain_at in refl))
    go (present l e) = let r = first-at (link_of t) T l e in let p = h r.0 l r.1 in (p.0, rw e (unfold chain_at in (p.1 ∙ ap (λ x. x ∷ p.0) (eqb-true l.scope t r.2))))

module _ (N : Names) (T : List Link) where
  abbrev Linked : ℕ → ℕ → List Target → Type 0
  Linked o s ts = chain_in T s ≡ s ∷ chain_in T o

  deeper_ok : (w : Way) (s o : ℕ) (l : Bool) (ch : List ℕ) (ts : List Target) → ch ≡ chain_in T o → Good Linked w o s ts → deeper w l s ch ≡ chain_in T (inner_scope w s l o)
  unfolding deeper inner_scope Good
  deeper_ok w s o l ch ts e g = go (is_fn w) l g
    where
      go : (b l : Bool) → If b (Linked o s ts) → cond (b && l) (s ∷ ch) ch ≡ chain_in T (cond (b && l) s o)
      go true true g = ap (λ x. s ∷ x) e ∙ sym g
      go true false g = e
      go false l g = e

  own_ok : (w : Way) (s o : ℕ) (ch : List ℕ) (ts : List Target) → ch ≡ chain_in T o → Covers T (own_link w s ch) → Good Linked w o s ts
  unfolding own_link when Good chain_in chain_at
  own_ok w s o ch ts e = either (is_fn w) (λ b. Covers T (when b (record { scope = s; chain = s ∷ ch })) → If b (Linked o s ts)) (λ c. ap (chain_at s) c.0 ∙ ap (λ x. s ∷ x) e) (λ c. tt)

  pub linked : (f : Forest) (w : Way) (s o : ℕ) (ch : List ℕ) (ts : List Target) → ch ≡ chain_in T o → Good Linked w o s ts → Covers T (links f w s ch) → AllFn N Linked f w s o
  unfolding links AllFn
  linked nil w s o ch ts e g c = tt
  linked (node at k v kids rest) w s o ch ts e g c =
      let ch' = deeper w (empty rest) s ch in
      let o' = inner_scope w s (empty rest) o in
      let e' : ch' ≡ chain_in T o' = deeper_ok w s o (empty rest) ch ts e g in
      let p = covers_split T (own_link (way k) v ch') _ c in
      let q = covers_split T (links kids (way k) v ch') _ p.1 in
      let here : Good Linked (way k) o' v (targets N k kids) = own_ok (way k) v o' ch' (targets N k kids) e' p.0 in
      (here, linked kids (way k) v o' ch' (targets N k kids) e' here q.0, linked rest w s o ch ts e g q.1)
