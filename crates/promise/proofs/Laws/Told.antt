-- T1 and T2 on bytes, proved: what the buffers of an accepted file say of each Ident.
--     ident_shown   its record or its error is what its meaning says
--     homeward      from a local slot the copies lead to the variable
use Rattle.std.specs.Prelude.{ℕ, ◌+◌, ◌<◌, ◌≤◌, ◌≡◌, length}
use Rattle.std.proofs.Math.Path.{refl, sym, ap}
use Rattle.std.proofs.Common.{◌∙◌, arith}
use mathlib.Core.List.{List, [], ◌∷◌, map}
use Rattle.std.proofs.Math.Option.{some}
use Rattle.std.proofs.Math.ListN.{get_elem?}
use Rattle.base.specs.UpTo.{at_behind}
use Rattle.bits.specs.Pack.{unpack}
use Rattle.lexical.specs.Places.{at-below}
use Rattle.lexical.specs.Tree.{Forest}
use Rattle.lexical.specs.Module.{File, module', global, missing, outer_of}
use Rattle.lexical.specs.Meaning.{Site, Meaning, local, refused, outside, meaning, scopes_of}
use Rattle.lexical.specs.Third.{resolved}
use Rattle.lexical.specs.Records as rec
use Rattle.lexical.specs.Claims.{Outcome}
use Rattle.lexical.proofs.Theory.Outcome.{outcome, node_of, means_local}
use Rattle.lexical.proofs.Theory.Last.{last}
use Rattle.nodefile.specs.Layout.{node_count}
use Rattle.nodefile.specs.FileOf.{file_of}
use Rattle.follow.specs.Place.{place_of}
use Rattle.answer.specs.declared.Answer.{Answer}
use Rattle.answer.specs.Buffers.{Buffers}
use Rattle.scope.specs.Answer.{Given}
use Rattle.scope.specs.Ready.{Ready}
use Rattle.promise.specs.Shown.{node_fields, ErrorShown, Shown, Homeward}
use Rattle.scope.specs.Laws.Readies.{ready_scoped, ready_headed, ready_distinct}
use Rattle.scope.specs.Laws.Rows.{rows_of, error_none}
use Rattle.scope.specs.Laws.Lists.{row_in}
use Rattle.promise.proofs.Laws.Events.{node_small, answer_bounds}
use Rattle.promise.proofs.Laws.Sites.{Lookup}
use Rattle.answer.specs.Records.{node_widths}
use Rattle.promise.proofs.Laws.Records.{node_at, node_read, errors-back, bound_so, copies_follow}

module _ {bs : List ℕ} {root : Forest} (q : Ready bs root) (few : length (resolved (file_of bs root)).slots ≤ 4096) {b b' : Buffers} {a : Answer} (g : Given (file_of bs root) (node_count bs) b a b') where
  abbrev F : File
  F = file_of bs root

  module _ (x n : ℕ) (l : Lookup F x n) where
    abbrev site : Site
    site = record { node = x; name = n; above = l.up }

    at_node : l.event.node ≡ x
    at_node = node_of F l.event site l.told_so

    -- a lookup with a row
    answered_so : (c s k : ℕ) → rec.answer_row (resolved F).made l.event.node l.event.found ≡ (x ∷ c ∷ s ∷ k ∷ []) ∷ [] → node_fields b' x ≡ c ∷ s ∷ k ∷ []
    unfolding rec.records rec.answers
    answered_so c s k e =
        let (j, at) = row_in (rec.answers (resolved F).made) (λ v. rec.answer_row (resolved F).made v.node v.found) refl (λ v vs. refl) (resolved F).log l.place l.event (x ∷ c ∷ s ∷ k ∷ []) l.stands e in
        let names = map rec.title_row (resolved F).named in
        let p : get_elem? (rows_of F) (length names + j) ≡ some (x ∷ c ∷ s ∷ k ∷ []) = at_behind names (rec.answers (resolved F).made (resolved F).log) j ∙ at in
        node_read q few g (length names + j) (x ∷ c ∷ s ∷ k ∷ []) p (omega (arith, at_node, node_small q few l.place l.event l.stands)) (answer_bounds q few l.place l.event l.stands (x ∷ c ∷ s ∷ k ∷ []) e)

    -- one with an error
    error_so : (code : ℕ) → rec.error_row l.event.node l.event.found ≡ (x ∷ code ∷ []) ∷ [] → ErrorShown a b' site code
    unfolding rec.records rec.errors
    error_so code e =
        let (j, at) = row_in rec.errors (λ v. rec.error_row v.node v.found) refl (λ v vs. refl) (resolved F).log l.place l.event (x ∷ code ∷ []) l.stands e in
        let low : x < node_count bs = omega (arith, at_node, node_small q few l.place l.event l.stands) in
        record {
          empty = ap (unpack node_widths) (node_at q few g x low ∙ error_none F (ready_scoped q) (ready_headed q) (ready_distinct q) j (x ∷ code ∷ []) at);
          place = j;
          known = omega (arith, g.errors, at-below (rec.errors (resolved F).log) j (x ∷ code ∷ []) at);
          recorded = errors-back q few g j (x ∷ code ∷ []) at;
        }

    shown : (m : Meaning) → Outcome F site m (rec.answer_row (resolved F).made l.event.node l.event.found) (rec.error_row l.event.node l.event.found) → Shown F a b' site m
    unfolding Outcome Shown rec.bit
    shown (local d) (o, _) = record {
      slot = o.slot;
      binding = o.binding.id;
      own = o.binding.slot;
      answered = answered_so 2 o.slot o.binding.id o.answered;
      shown = bound_so q few g o.binding.id o.binding o.known o.named o.source (ap rec.bit o.is_local);
      home = copies_follow q few g (scopes_of l.up) o.slot ∙ ap place_of o.home;
    }
    shown (refused d) (_, e) = error_so 2 e
    shown (outside (module' i)) (m, e, _) = record {
      slot = m.binding.slot;
      declared-by = m.binding.var.source;
      answered = answered_so 1 m.binding.slot i e;
      shown = bound_so q few g i m.binding m.stands m.called_so refl (ap rec.bit m.of_module_lem);
      sourced = m.sourced;
    }
    shown (outside (global g)) (h, e, _) = (answered_so 3 g 0 e, h.0, h.1)
    shown (outside missing) (h, _, e) = (error_so 1 e, h.0, h.1)

    pub ident_shown : Shown F a b' site (meaning (outer_of F) site)
    ident_shown = shown (meaning (outer_of F) site) (outcome F (ready_scoped q) site l.event ((last F (ready_scoped q)).led l.place l.event l.stands) l.told_so)

-- ---- an Ident answered by a local slot

module _ (F : File) (a : Answer) (b : Buffers) (s : Site) (k i : ℕ) (e : node_fields b s.node ≡ 2 ∷ k ∷ i ∷ []) where
  other_class : {c j l : ℕ} {P : Type 0} → (c ≡ 2 → ⊥) → node_fields b s.node ≡ c ∷ j ∷ l ∷ [] → P
  other_class {c} h q = absurd (h (let z : c ≡ 2 = cc in z))

  by-meaning : (m : Meaning) → m ≡ meaning (outer_of F) s → Shown F a b s m → Homeward a b s.name s.above k i
  unfolding Shown meaning
  by-meaning (local d) q h =
      let y : k ≡ h.slot = let z : 2 ∷ k ∷ i ∷ [] ≡ 2 ∷ h.slot ∷ h.binding ∷ [] = sym e ∙ h.answered in cc in
      let x : i ≡ h.binding = let z : 2 ∷ k ∷ i ∷ [] ≡ 2 ∷ h.slot ∷ h.binding ∷ [] = sym e ∙ h.answered in cc in
      rw (y, x) (record { scope = d.0; name = d.1; means = means_local _ _ _ d q; source_is = h.shown.source_is; home = h.home ∙ ap (λ (o : ℕ). place_of (d.0, o)) (sym h.shown.slot_is) })
  by-meaning (refused d) q h = other_class (λ y. omega arith) h.empty
  by-meaning (outside (module' j)) q h = other_class (λ y. omega arith) h.answered
  by-meaning (outside (global g)) q h = other_class (λ y. omega arith) h.0
  by-meaning (outside missing) q h = other_class (λ y. omega arith) h.0.empty

  pub homeward : Shown F a b s (meaning (outer_of F) s) → Homeward a b s.name s.above k i
  homeward h = by-meaning (meaning (outer_of F) s) refl h
