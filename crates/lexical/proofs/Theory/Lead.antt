-- Where a slot's value comes from, as a fact that later states keep.
use Rattle.std.specs.Prelude.{◌≡◌, refl, List, [], ◌∷◌, ℕ, ◌≤◌, ◌<◌}
use Rattle.std.proofs.Common.{◌∙◌, ap₂, arith}
use Rattle.std.proofs.Math.Option.{Option, none, some}
use Rattle.std.proofs.Math.ListN.{get_elem?}
use Rattle.lexical.specs.State.{Binding, St}
use Rattle.lexical.specs.Block.{fresh}
use Rattle.lexical.specs.Third.{hand}
use Rattle.lexical.specs.Follow.{from_in, value_in, follow_by, follow}

-- the same as a fact: slot k of the first of these scopes holds b's value
unfoldable pub LeadBy : Option ℕ → ℕ → ℕ → Binding → (ℕ → Type 0) → Type 0
LeadBy none s k b go = (s ≡ b.owner) × (k ≡ b.slot)
LeadBy (some p) s k b go = go p

unfoldable pub Lead : St → List ℕ → ℕ → Binding → Type 0
Lead st [] k b = ⊥
Lead st (s ∷ ss) k b = (k < fresh s st) × (value_in s k st.slots ≡ some b.id) × LeadBy (from_in s k st.copies) s k b (λ p. Lead st ss p b)

follow_by_lead : (o : Option ℕ) (s k : ℕ) (b : Binding) (go : ℕ → ℕ × ℕ) (to : ℕ → Type 0)
    → ((p : ℕ) → to p → go p ≡ (b.owner, b.slot)) → LeadBy o s k b to → follow_by o (s, k) go ≡ (b.owner, b.slot)
unfolding follow_by LeadBy
follow_by_lead none s k b go to h l = ap₂ (λ (x y : ℕ). (x, y)) l.0 l.1
follow_by_lead (some p) s k b go to h l = h p l

pub follow_lead : (st : St) (ss : List ℕ) (k : ℕ) (b : Binding) → Lead st ss k b → follow st.copies ss k ≡ (b.owner, b.slot)
unfolding follow Lead
follow_lead st [] k b l = absurd l
follow_lead st (s ∷ ss) k b l = follow_by_lead (from_in s k st.copies) s k b _ (λ p. Lead st ss p b) (λ p. follow_lead st ss p b) l.2

-- a later state has all that an earlier one has
pub record Ext (st st' : St) : Type 0 where
  pub grow : (s : ℕ) → fresh s st ≤ fresh s st'
  pub hands : (s i k : ℕ) → hand s i st ≡ some k → hand s i st' ≡ some k
  pub known : (i : ℕ) (b : Binding) → get_elem? st.made i ≡ some b → get_elem? st'.made i ≡ some b
  pub values : (s k i : ℕ) → value_in s k st.slots ≡ some i → value_in s k st'.slots ≡ some i
  pub keeps : (s k : ℕ) → k < fresh s st → from_in s k st'.copies ≡ from_in s k st.copies

pub Ext-refl : (st : St) → Ext st st
Ext-refl st = record { grow = λ s. omega arith; hands = λ s i k e. e; known = λ i b e. e; values = λ s k i e. e; keeps = λ s k h. refl }

pub Ext_trans : {st st₁ st₂ : St} → Ext st st₁ → Ext st₁ st₂ → Ext st st₂
Ext_trans {st} {st₁} {st₂} a b = record {
  grow = λ s. omega (arith, a.grow s, b.grow s);
  hands = λ s i k e. b.hands s i k (a.hands s i k e);
  known = λ i x e. b.known i x (a.known i x e);
  values = λ s k i e. b.values s k i (a.values s k i e);
  keeps = λ s k h. b.keeps s k (omega (arith, a.grow s)) ∙ a.keeps s k h;
}

LeadBy-map : (o : Option ℕ) (s k : ℕ) (b : Binding) (to to' : ℕ → Type 0) → ((p : ℕ) → to p → to' p) → LeadBy o s k b to → LeadBy o s k b to'
unfolding LeadBy
LeadBy-map none s k b to to' h l = l
LeadBy-map (some p) s k b to to' h l = h p l

pub Lead_ext : {st st' : St} → Ext st st' → (ss : List ℕ) (k : ℕ) (b : Binding) → Lead st ss k b → Lead st' ss k b
unfolding Lead
Lead_ext e [] k b l = l
Lead_ext {st} {st'} e (s ∷ ss) k b l = (
  omega (arith, e.grow s, l.0),
  e.values s k b.id l.1,
  rw (e.keeps s k l.0) (LeadBy-map (from_in s k st.copies) s k b (λ p. Lead st ss p b) (λ p. Lead st' ss p b) (λ p. Lead_ext e ss p b) l.2),
)
