-- Captured on bytes: the bit of a binding's record is set exactly when some Ident means the binding from another scope; a module name, from inside a function.
--     captured_shown
use Rattle.std.specs.Prelude.{ℕ, ◌<◌, ◌≤◌, ◌≡◌, refl, ◌↔◌, Bool, true, false, length}
use Rattle.std.proofs.Math.Path.{sym, ap}
use Rattle.std.proofs.Common.{◌∙◌, subst, arith}
use mathlib.Core.List.{List}
use Rattle.std.proofs.Math.Option.{some}
use Rattle.std.proofs.Math.ListN.{get_or, get_elem?, length-map}
use Rattle.base.specs.UpTo.{at_some}
use Rattle.lexical.specs.Lists.{none-some}
use Rattle.lexical.specs.Places.{Some, Distinct, map_at}
use Rattle.lexical.specs.Tree.{Forest, nodes_in}
use Rattle.lexical.specs.Module.{File, outer_of}
use Rattle.lexical.specs.Meaning.{Site, declared, meaning}
use Rattle.lexical.specs.State.{Binding, Found, local, refused, outside}
use Rattle.lexical.specs.Third.{resolved}
use Rattle.lexical.specs.Records as rec
use Rattle.lexical.specs.Claims.{Scoped, OfLocal, Across, seen, sites_of}
use Rattle.lexical.proofs.Theorems.{captured_local, captured_module}
use Rattle.lexical.proofs.Laws.Numbers.{made_at}
use Rattle.lexical.proofs.Theory.Captured.{source_unique}
use Rattle.lexical.proofs.Theory.Chains.{Led}
use Rattle.lexical.proofs.Theory.Last.{last}
use Rattle.lexical.proofs.Theory.Outcome.{event_of, meaning_of, means_local, means_refused, means_outside}
use Rattle.nodefile.specs.Layout.{node_count}
use Rattle.nodefile.specs.FileOf.{file_of}
use Rattle.answer.specs.declared.Answer.{Answer}
use Rattle.answer.specs.Buffers.{Buffers}
use Rattle.scope.specs.Answer.{Given}
use Rattle.scope.specs.Ready.{Ready}
use Rattle.promise.specs.Shown.{binding_fields, CapturedShown}
use Rattle.scope.specs.Laws.Readies.{ready_scoped, ready_distinct}
use Rattle.promise.proofs.Laws.Records.{bindings_back}

-- ---- a Name declares a local of one scope only: its binding's

module _ (F : File) (ok : Scoped F) (d : Distinct (nodes_in F.root)) (i : ℕ) (x : Binding) (at : get_elem? (resolved F).made i ≡ some x) (l : x.local ≡ true) where
  same_owner : (c : Binding) → get_elem? (resolved F).made c.id ≡ some c → c.local ≡ true → (o : ℕ) → ◌≡◌ {A = ℕ × ℕ} (c.owner, c.var.source) (o, x.var.source) → o ≡ x.owner
  same_owner c k m o z =
      let y : c.id ≡ i = source_unique F d c.id i c x k at m l (ap (λ (v : ℕ × ℕ). v.1) z) in
      let w : get_elem? (resolved F).made i ≡ some c = subst (λ (j : ℕ). get_elem? (resolved F).made j ≡ some c) y k in
      let u : c ≡ x = cc in
      sym (ap (λ (v : ℕ × ℕ). v.0) z) ∙ ap (λ (b : Binding). b.owner) u

  owner_of_lem : (s : Site) (n : ℕ) (ss : List ℕ) (f : Found) → seen f ≡ meaning (outer_of F) s → OfLocal (Led (resolved F) n ss) f → (o : ℕ) → declared s.name s.above ≡ some (o, x.var.source) → o ≡ x.owner
  unfolding seen meaning
  owner_of_lem s n ss (local c k) m e o q = same_owner c e.known e.is_local o (let z : some (c.owner, c.var.source) ≡ some (o, x.var.source) = sym (means_local _ _ _ _ m) ∙ q in cc)
  owner_of_lem s n ss (refused c k) m e o q = same_owner c e.known e.is_local o (let z : some (c.owner, c.var.source) ≡ some (o, x.var.source) = sym (means_refused _ _ _ _ m) ∙ q in cc)
  owner_of_lem s n ss (outside u) m e o q = absurd (none-some (means_outside _ _ _ u m).0 q)

  across_any : Some (λ (s : Site). (o : ℕ) × Across o x.var.source s) (sites_of F) → Some (Across x.owner x.var.source) (sites_of F)
  across_any (j, s, q, (o, a)) =
      let (e, p, v) = event_of F ok j s q in
      (j, s, q, subst (λ (t : ℕ). Across t x.var.source s) (owner_of_lem s e.name e.scopes e.found (meaning_of F e s (sym v)) ((last F ok).led j e p) o a.means) a)

  local_captured : (rec.captured i (resolved F).log ≡ true) ↔ Some (λ (s : Site). (o : ℕ) × Across o x.var.source s) (sites_of F)
  local_captured =
      let c = captured_local F ok i x at d l in
      ((λ t. let (j, s, q, a) = c.0 t in (j, s, q, (x.owner, a))), λ t. c.1 (across_any t))

-- ---- the bits

bit-true : (b : Bool) → (rec.bit b ≡ 1) ↔ (b ≡ true)
unfolding rec.bit
bit-true true = ((λ e. refl), λ e. refl)
bit-true false = ((λ e. absurd (omega arith)), λ e. absurd (let z : ◌≡◌ {A = ℕ} 0 1 = cc in omega arith))

bit-false : (b : Bool) → rec.bit b ≡ 0 → b ≡ false
unfolding rec.bit
bit-false true e = absurd (omega arith)
bit-false false e = refl

module _ {bs : List ℕ} {root : Forest} (q : Ready bs root) (few : length (resolved (file_of bs root)).slots ≤ 4096) {b b' : Buffers} {a : Answer} (g : Given (file_of bs root) (node_count bs) b a b') where
  abbrev F : File
  F = file_of bs root

  of_binding_lem : (k : ℕ) (x : Binding) → get_elem? (resolved F).made k ≡ some x → CapturedShown F b' k
  unfolding rec.records rec.binding_row
  of_binding_lem k x e =
      let fields = bindings_back q few g k (rec.binding_row (resolved F).log x) (map_at (rec.binding_row (resolved F).log) (resolved F).made k x e) in
      let source : get_or (binding_fields b' k) 1 0 ≡ x.var.source = ap (λ (l : List ℕ). get_or l 1 0) fields in
      let bit : get_or (binding_fields b' k) 5 0 ≡ rec.bit (rec.captured k (resolved F).log) = ap (λ (l : List ℕ). get_or l 5 0) fields ∙ ap (λ (i : ℕ). rec.bit (rec.captured i (resolved F).log)) (made_at F k x e) in
      let is_local : get_or (binding_fields b' k) 6 0 ≡ rec.bit x.local = ap (λ (l : List ℕ). get_or l 6 0) fields in
      let set = bit-true (rec.captured k (resolved F).log) in
      record {
        of_local = λ l. rw (bit, source)
            (let c = local_captured F (ready_scoped q) (ready_distinct q) k x e ((bit-true x.local).0 (sym is_local ∙ l)) in
            ((λ t. c.0 (set.0 t)), λ t. set.1 (c.1 t)));
        of_module_lem = λ l. rw bit
            (let c = captured_module F (ready_scoped q) k x e (bit-false x.local (sym is_local ∙ l)) in
            ((λ t. c.0 (set.0 t)), λ t. set.1 (c.1 t)));
      }

  pub captured_shown : (k : ℕ) → k < a.bindings → CapturedShown F b' k
  unfolding rec.records
  captured_shown k h =
      let (x, e) = at_some (resolved F).made k (omega (arith, g.bindings, length-map (resolved F).made (rec.binding_row (resolved F).log))) in
      of_binding_lem k x e
