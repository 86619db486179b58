-- T3: no other scheme of copies that serves the same lookups has fewer copies in any scope.
use Rattle.std.specs.Prelude.{◌≡◌, refl, ◌⊎◌, List, [], ◌∷◌, map, Bool, true, false, cond, ℕ, ◌≤◌, eqb, length}
use Rattle.std.proofs.Common.{sym, ap, subst, inl, arith}
use Rattle.std.proofs.Math.Logic.{inr}
use Rattle.std.proofs.Math.Option.{some}
use Rattle.std.proofs.lemmas.List.{length-map}
use Rattle.lexical.specs.Lists.{picked, picked-length, first, map_o, count, eqb-true, none-some, Opened, absent, present, opened, Tested, was, wasnt, tested}
use Rattle.lexical.specs.Places.{All, In}
use Rattle.lexical.specs.Module.{File}
use Rattle.lexical.specs.State.{Binding, Copy, Event, St}
use Rattle.lexical.specs.Third.{resolved}
use Rattle.lexical.specs.Follow.{copied, copy_to, from_in}
use Rattle.lexical.specs.Claims.{Scoped}
use Rattle.lexical.specs.Schemes.{or_zero, Copies, copies_into, AtHand, ours, Scheme, Serves, pairs}
use Rattle.lexical.proofs.Theory.Brought.{Between}
use Rattle.lexical.proofs.Theory.Chains.{Led, of_local, needing, Needs}
use Rattle.lexical.proofs.Theory.Last.{last}
use Rattle.lexical.proofs.Theory.Lead.{LeadBy, Lead}
use Rattle.lexical.proofs.Theory.Pigeon.{at_most}
use Rattle.lexical.proofs.Theory.Slots.{both_true}

abbrev held : Scheme → ℕ → List ℕ
held S t = map (λ (c : ℕ × ℕ). S.value t c.1) (S.copies t)

copies_held : (S : Scheme) (s p k : ℕ) (cs : List (ℕ × ℕ)) → Copies p k cs → In (S.value s k) (map (λ (c : ℕ × ℕ). S.value s c.1) cs)
copies_held S s p k (c ∷ cs) (inl e) = inl (ap (S.value s) (sym e.1))
copies_held S s p k (c ∷ cs) (inr m) = inr (copies_held S s p k cs m)
copies_held S s p k [] x' = elim x' [ ]

between_held : (S : Scheme) (t : ℕ) (ss : List ℕ) (k : ℕ) (b : Binding) → AtHand S ss k b → Between t ss b → In b.id (held S t)
between_held S t (s ∷ ss) k b (v, inl e) w = absurd (w.0 e)
between_held S t (s ∷ ss) k b (v, inr (p, m, a)) (n, inl e) = rw (e, ← v) (copies_held S s p k (S.copies s) m)
between_held S t (s ∷ ss) k b (v, inr (p, m, a)) (n, inr w) = between_held S t ss p b a w
between_held S t [] k b x'' w = elim x'' [ ]

needs_held : (S : Scheme) (t i : ℕ) (es : List Event) → All (λ (e : Event). Serves S e.scopes e.found) es → Needs t i es → In i (held S t)
needs_held S t i es h (j, e, q, n) = let r = needing (λ b k. (j : ℕ) × AtHand S e.scopes j b) t i e.scopes e.found (h j e q) n in
    subst (λ x. In x (held S t)) (sym r.3) (between_held S t e.scopes r.2.0 r.0 r.2.1 r.4)

copied-count : (t : ℕ) (cs : List Copy) → length (copied t cs) ≡ count (λ (c : Copy). eqb c.scope t) cs
unfolding copied
copied-count t cs = picked-length (λ (c : Copy). eqb c.scope t) (λ c. c.id) cs

pub least : (F : File) → Scoped F → (S : Scheme) → All (λ (e : Event). Serves S e.scopes e.found) (resolved F).log → (t : ℕ) → copies_into t (resolved F).copies ≤ length (S.copies t)
least F ok S h t = omega (
  arith,
  sym (copied-count t (resolved F).copies),
  length-map (S.copies t) (λ (c : ℕ × ℕ). S.value t c.1),
  at_most (copied t (resolved F).copies) (held S t) ((last F ok).fine.once t) (λ i m. needs_held S t i (resolved F).log h ((last F ok).needed t i m)),
)

pairs-count : (t : ℕ) (cs : List Copy) → length (pairs t cs) ≡ count (λ (c : Copy). eqb c.scope t) cs
unfolding pairs
pairs-count t cs = picked-length (λ (c : Copy). eqb c.scope t) (λ c. (c.parent, c.child)) cs

pub from-pairs : (s k p : ℕ) (cs : List Copy) → from_in s k cs ≡ some p → Copies p k (pairs s cs)
unfolding from_in first map_o pairs picked
from-pairs s k p [] e = absurd (none-some refl e)
from-pairs s k p (c ∷ cs) e = go (tested (copy_to s k c)) e (λ z. from-pairs s k p cs z)
  where
    found : (eqb c.scope s ≡ true) × (eqb c.child k ≡ true) → c.parent ≡ p → Copies p k (cond (eqb c.scope s) ((c.parent, c.child) ∷ pairs s cs) (pairs s cs))
    found t z = rw t.0 (inl (z, eqb-true c.child k t.1))

    later : (b : Bool) → Copies p k (pairs s cs) → Copies p k (cond b ((c.parent, c.child) ∷ pairs s cs) (pairs s cs))
    later true m = inr m
    later false m = m

    go : Tested (copy_to s k c) → map_o (λ (c : Copy). c.parent) (cond (copy_to s k c) (some c) (first (copy_to s k) cs)) ≡ some p → (from_in s k cs ≡ some p → Copies p k (pairs s cs))
        → Copies p k (cond (eqb c.scope s) ((c.parent, c.child) ∷ pairs s cs) (pairs s cs))
    go (was t) z rec = found (both_true (eqb c.scope s) (eqb c.child k) (unfold copy_to in t)) (let y : some c.parent ≡ some p = rw t at z in (let x : c.parent ≡ p = cc in x))
    go (wasnt t) z rec = later (eqb c.scope s) (rec (rw t at z))

lead_at-hand : (st : St) (ss : List ℕ) (k : ℕ) (b : Binding) → Lead st ss k b → AtHand (ours st) ss k b
unfolding Lead ours or_zero
lead_at-hand st [] k b l = l
lead_at-hand st (s ∷ ss) k b l = (rw l.1 refl, go (opened (from_in s k st.copies)) l.2 (λ p m. lead_at-hand st ss p b m))
  where
    go : Opened (from_in s k st.copies) → LeadBy (from_in s k st.copies) s k b (λ p. Lead st ss p b) → ((p : ℕ) → Lead st ss p b → AtHand (ours st) ss p b)
        → (s ≡ b.owner) ⊎ ((p : ℕ) × Copies p k (pairs s st.copies) × AtHand (ours st) ss p b)
    go (absent e) m rec = inl (let y : (s ≡ b.owner) × (k ≡ b.slot) = (unfold LeadBy in (rw e at m)) in y.0)
    go (present p e) m rec = inr (p, from-pairs s k p st.copies e, rec p (unfold LeadBy in (rw e at m)))

pub ours_serves : (F : File) → Scoped F → All (λ (e : Event). Serves (ours (resolved F)) e.scopes e.found) (resolved F).log
ours_serves F ok j e q = of_local (Led (resolved F) e.name e.scopes) (λ b k. (j : ℕ) × AtHand (ours (resolved F)) e.scopes j b) (λ b k l. (k, lead_at-hand (resolved F) e.scopes k b l.leads)) e.found ((last F ok).led j e q)

pub ours-count : (F : File) (t : ℕ) → length ((ours (resolved F)).copies t) ≡ copies_into t (resolved F).copies
unfolding ours
ours-count F t = pairs-count t (resolved F).copies
