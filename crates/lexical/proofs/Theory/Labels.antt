-- T3 by labels: a scheme that has every local at hand where an Ident means it is one that serves every lookup, each local told by its scope and its Name.
use Rattle.std.specs.Prelude.{◌≡◌, refl, ◌⊎◌, List, [], ◌∷◌, Bool, ◌&&◌, ℕ, ◌≤◌, eqb, length}
use Rattle.std.proofs.Common.{sym, ◌∙◌, subst}
use Rattle.std.proofs.Math.Path.{ap}
use Rattle.std.proofs.Math.Logic.{inl, inr}
use Rattle.std.proofs.Math.Bool.{true}
use Rattle.std.proofs.Math.Option.{some}
use Rattle.std.proofs.Math.ListN.{get_elem?}
use Rattle.lexical.specs.Lists.{first, map_o, eqb_self, eqb-true, none-some, Opened, absent, present, opened}
use Rattle.lexical.specs.Places.{Distinct, first-at, first_has}
use Rattle.lexical.specs.Tree.{nodes_in}
use Rattle.lexical.specs.Module.{File, outer_of}
use Rattle.lexical.specs.Meaning.{Site, declared, meaning, scopes_of}
use Rattle.lexical.specs.State.{Binding, Event, Found, St}
use Rattle.lexical.specs.Third.{resolved}
use Rattle.lexical.specs.Follow.{from_in}
use Rattle.lexical.specs.Claims.{Scoped, seen, sites_of}
use Rattle.lexical.specs.Schemes.{or_zero, Copies, copies_into, Scheme, AtHand, Serves, pairs}
use Rattle.lexical.specs.Labels.{Labelled, Has, ServesTree, label_of, label_in, labelled}
use Rattle.lexical.proofs.Theory.Captured.{source_unique}
use Rattle.lexical.proofs.Theory.Chains.{Led, LedFound}
use Rattle.lexical.proofs.Theory.Last.{last}
use Rattle.lexical.proofs.Theory.Lead.{Lead, LeadBy}
use Rattle.lexical.proofs.Theory.Least.{from-pairs, least}
use Rattle.lexical.proofs.Theory.Outcome.{event_of, site_of, scopes_of_lem, meaning_of, means_local, means_refused, means_outside}
use Rattle.lexical.proofs.Theory.Slots.{both_true}

-- the number of the local of a label
unfoldable labelled_by : ℕ × ℕ → Binding → Bool
labelled_by d b = b.local && (eqb b.owner d.0 && eqb b.var.source d.1)

unfoldable number_of : List Binding → ℕ × ℕ → ℕ
number_of bs d = or_zero (map_o (λ (b : Binding). b.id) (first (labelled_by d) bs))

unfoldable numbered : List Binding → Labelled → Scheme
numbered bs S = record { copies = S.copies; value = λ s k. number_of bs (S.local s k) }

module _ (F : File) (ok : Scoped F) (apart : Distinct (nodes_in F.root)) where
  number_is : (b : Binding) → get_elem? (resolved F).made b.id ≡ some b → b.local ≡ true → number_of (resolved F).made (b.owner, b.var.source) ≡ b.id
  unfolding number_of
  number_is b e l = go (opened (first (labelled_by (b.owner, b.var.source)) (resolved F).made))
    where
      passes : labelled_by (b.owner, b.var.source) b ≡ true
      passes = unfold labelled_by in (rw (l, eqb_self b.owner, eqb_self b.var.source) refl)

      same : (c : Binding) (j : ℕ) → get_elem? (resolved F).made j ≡ some c → (c.local ≡ true) × ((eqb c.owner b.owner && eqb c.var.source b.var.source) ≡ true) → c ≡ b
      same c j q p = let z : j ≡ b.id = source_unique F apart j b.id c b q e p.0 l (eqb-true _ _ (both_true (eqb c.owner b.owner) _ p.1).1) in
          let y : get_elem? (resolved F).made b.id ≡ some c = subst (λ x. get_elem? (resolved F).made x ≡ some c) z q in cc

      go : Opened (first (labelled_by (b.owner, b.var.source)) (resolved F).made) → or_zero (map_o (λ (b : Binding). b.id) (first (labelled_by (b.owner, b.var.source)) (resolved F).made)) ≡ b.id
      go (absent q) = absurd (first_has (labelled_by (b.owner, b.var.source)) (resolved F).made b.id b e passes q)
      go (present c q) = let r = first-at (labelled_by (b.owner, b.var.source)) (resolved F).made c q in
          rw q (unfold map_o or_zero in ap (λ (x : Binding). x.id) (same c r.0 r.1 (both_true c.local _ (unfold labelled_by in r.2))))

  has_at-hand : (S : Labelled) (ss : List ℕ) (k : ℕ) (b : Binding) → number_of (resolved F).made (b.owner, b.var.source) ≡ b.id → Has S ss k (b.owner, b.var.source) → AtHand (numbered (resolved F).made S) ss k b
  unfolding numbered
  has_at-hand S (s ∷ ss) k b n (v, inl e) = (ap (number_of (resolved F).made) v ∙ n, inl e)
  has_at-hand S (s ∷ ss) k b n (v, inr (p, m, h)) = (ap (number_of (resolved F).made) v ∙ n, inr (p, m, has_at-hand S ss p b n h))
  has_at-hand S [] k b n x'' = elim x'' [ ]

  serves : (S : Labelled) → ServesTree F S → (j : ℕ) (e : Event) → get_elem? (resolved F).log j ≡ some e → Serves (numbered (resolved F).made S) e.scopes e.found
  unfolding seen meaning
  serves S h j e q = let r = site_of F ok j e q in go r.0 r.1 e.found ((last F ok).led j e q) (scopes_of_lem F e r.0 r.2) (meaning_of F e r.0 r.2)
    where
      found : (s : Site) (b : Binding) (k : ℕ) → get_elem? (sites_of F) j ≡ some s → Led (resolved F) e.name e.scopes b k → e.scopes ≡ scopes_of s.above → declared s.name s.above ≡ some (b.owner, b.var.source)
          → (i : ℕ) × AtHand (numbered (resolved F).made S) e.scopes i b
      found s b k a l w m = let x = h j s a (b.owner, b.var.source) m in (x.0, rw w (has_at-hand S (scopes_of s.above) x.0 b (number_is b l.known l.is_local) x.1))

      go : (s : Site) → get_elem? (sites_of F) j ≡ some s → (f : Found) → LedFound (resolved F) e.name e.scopes f → e.scopes ≡ scopes_of s.above → seen f ≡ meaning (outer_of F) s → Serves (numbered (resolved F).made S) e.scopes f
      go s a (Found.local b k) l w m = found s b k a l w (means_local _ _ _ _ m)
      go s a (Found.refused b k) l w m = found s b k a l w (means_refused _ _ _ _ m)
      go s a (Found.outside o) l w m = tt

  pub labelled_least : (S : Labelled) → ServesTree F S → (t : ℕ) → copies_into t (resolved F).copies ≤ length (S.copies t)
  labelled_least S h t = unfold numbered in least F ok (numbered (resolved F).made S) (serves S h) t

-- the copies that are made are such a scheme
lead_has : (st : St) (ss : List ℕ) (k : ℕ) (b : Binding) → get_elem? st.made b.id ≡ some b → Lead st ss k b → Has (labelled st) ss k (b.owner, b.var.source)
unfolding Lead labelled label_in label_of
lead_has st [] k b e l = l
lead_has st (s ∷ ss) k b e l = (rw (l.1, e) refl, go (opened (from_in s k st.copies)) l.2 (λ p m. lead_has st ss p b e m))
  where
    go : Opened (from_in s k st.copies) → LeadBy (from_in s k st.copies) s k b (λ p. Lead st ss p b) → ((p : ℕ) → Lead st ss p b → Has (labelled st) ss p (b.owner, b.var.source))
        → (s ≡ b.owner) ⊎ ((p : ℕ) × Copies p k (pairs s st.copies) × Has (labelled st) ss p (b.owner, b.var.source))
    go (absent q) m rec = inl (let y : (s ≡ b.owner) × (k ≡ b.slot) = (unfold LeadBy in (rw q at m)) in y.0)
    go (present p q) m rec = inr (p, from-pairs s k p st.copies q, rec p (unfold LeadBy in (rw q at m)))

pub labelled_serves : (F : File) → Scoped F → ServesTree F (labelled (resolved F))
unfolding seen meaning
labelled_serves F ok j s a d m = let r = event_of F ok j s a in go r.0 r.0.found ((last F ok).led j r.0 r.1) (scopes_of_lem F r.0 s (sym r.2)) (meaning_of F r.0 s (sym r.2))
  where
    found : (b : Binding) (k n : ℕ) (ss : List ℕ) → Led (resolved F) n ss b k → ss ≡ scopes_of s.above → declared s.name s.above ≡ some (b.owner, b.var.source) → (i : ℕ) × Has (labelled (resolved F)) (scopes_of s.above) i d
    found b k n ss l w z = let y : ◌≡◌ {A = ℕ × ℕ} (b.owner, b.var.source) d = cc in
        (k, subst (λ x. Has (labelled (resolved F)) (scopes_of s.above) k x) y (lead_has (resolved F) (scopes_of s.above) k b l.known (subst (λ x. Lead (resolved F) x k b) w l.leads)))

    go : (e : Event) (f : Found) → LedFound (resolved F) e.name e.scopes f → e.scopes ≡ scopes_of s.above → seen f ≡ meaning (outer_of F) s → (i : ℕ) × Has (labelled (resolved F)) (scopes_of s.above) i d
    go e (Found.local b k) l w z = found b k e.name e.scopes l w (means_local _ _ _ _ z)
    go e (Found.refused b k) l w z = found b k e.name e.scopes l w (means_refused _ _ _ _ z)
    go e (Found.outside o) l w z = absurd (none-some (means_outside _ _ _ o z).0 m)
