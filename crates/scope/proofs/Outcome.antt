-- What comes of a ready file with blank buffers: number 12 where a list was full, else its records.
use Prim.Native.Nat.{ℕ, ◌+◌, ◌-◌, ◌<◌, ◌≤◌}
use mathlib.Core.Path.{◌≡◌, refl, sym, ap, ◌∙◌, subst}
use mathlib.Core.Bool.{true, false}
use mathlib.Core.List.{List, ◌++◌}
use native.Mathlib.Omega.{arith}
use native.Mathlib.Decide.{dec_lt}
use lib.ListN.{length, get_or, take, drop, replicate, length-append, length-take, length-drop, length-replicate, length-map, get_or-append}
use lib.Seq.{get_or-take, get_or-drop, get_or-append-add, ext_get_or, length-take-le}
use Rattle.lexical.specs.Tree.{Forest}
use Rattle.lexical.specs.First.{start}
use Rattle.lexical.specs.Third.{resolved}
use Rattle.lexical.specs.Records as rec
use Rattle.lexical.proofs.Laws.Numbers.{made_start}
use Rattle.nodefile.specs.Layout.{node_count, nodes_of}
use Rattle.nodefile.proofs.Laws.Reads.{reads_one}
use Rattle.nodefile.specs.FileOf.{file_of}
use Rattle.store.specs.Sections.{mem}
use Rattle.store.specs.Rel.{Over, too_many_slots, too_many_bindings, too_many_errors}
use Rattle.store.proofs.Laws.Points.{Zeros, zeros}
use Rattle.answer.specs.declared.Answer.{Answer}
use Rattle.answer.specs.Refused.{refusal}
use Rattle.scope.specs.declared.Walked.{Walked}
use Rattle.answer.specs.Buffers.{Buffers, buffers}
use Rattle.answer.specs.Records.{entry_from}
use Rattle.scope.specs.Filled.{Filled, filled_end}
use Rattle.scope.specs.Copied.{PreCopy, Copied}
use Rattle.scope.specs.Ready.{Ready}
use Rattle.std.specs.Prelude.{Ok, Err}
use Rattle.store.specs.declared.ids.Full.{Full}
use Rattle.scope.specs.Walks.{Finished, PreWalk, WalkDone}
use Rattle.scope.specs.Answer.{too_many_slots, Given}
use Rattle.scope.specs.Accepted.{PreAccepted, Accepting, many, few}
use Rattle.scope.specs.Laws.Front.{get_past}
use Rattle.scope.specs.Laws.Readies.{ready_made, ready_errors}
use Rattle.scope.proofs.Numbers.{refused_with}
use Rattle.scope.proofs.Seven as fronts

-- ---- lists of zeros

zeros_take : (l : List ℕ) (n : ℕ) → Zeros l → Zeros (take n l)
zeros_take l n z i = elim (dec_lt i n) [ yes h ↦ get_or-take n l i 0 h ∙ z i | no h ↦ get_past (take n l) i (omega (arith, length-take n l)) ]

blank_is : (l : List ℕ) → Zeros l → l ≡ replicate (length l) 0
blank_is l z = ext_get_or 0 l (replicate (length l) 0) (sym (length-replicate {A = ℕ} (length l) 0)) (λ i _. z i ∙ sym (zeros (length l) i))

-- a list full: it was the slots'
over_slots : {bs : List ℕ} {root : Forest} → Ready bs root → Over (resolved (file_of bs root)) → 4096 < length (resolved (file_of bs root)).slots
over_slots q (Over.too_many_slots h) = h
over_slots q (too_many_bindings h) = absurd (omega (arith, ready_made q))
over_slots q (too_many_errors h) = absurd (omega (arith, ready_errors q))

-- ---- before the walks, and after them

module _ {bs : List ℕ} {b : Buffers} (p : PreAccepted bs b) where
  pub pre_walk : PreWalk bs (take 2304 b.bindings) (replicate 12544 0)
  pre_walk = record {
    long_binds = omega (arith, length-take-le 2304 b.bindings p.roomy.bindings);
    blank_binds = zeros_take b.bindings 2304 p.blank.bindings;
    blank_w = zeros 12544;
    root = p.root;
    ready = p.ready;
  }

  -- the bindings' buffer when the part that was lent is back
  module _ (part : List ℕ) (kept : length part ≡ length (take 2304 b.bindings)) where
    abbrev back : List ℕ
    back = part ++ drop 2304 b.bindings

    part_length : length part ≡ 2304
    part_length = kept ∙ length-take-le 2304 b.bindings p.roomy.bindings

    back-length : length back ≡ length b.bindings
    back-length = omega (arith, length-append part (drop 2304 b.bindings), length-drop 2304 b.bindings, part_length, p.roomy.bindings)

    back-front : (j : ℕ) → j < 2304 → get_or back j 0 ≡ get_or part j 0
    back-front j h = get_or-append part (drop 2304 b.bindings) 0 j (omega (arith, part_length))

    back_behind : (j : ℕ) → 2304 ≤ j → get_or back j 0 ≡ 0
    back_behind j h =
        let e : length part + (j - length part) ≡ j = omega (arith, part_length) in
        subst (λ (i : ℕ). get_or back i 0 ≡ 0) e (get_or-append-add part (drop 2304 b.bindings) (j - length part) 0 ∙ get_or-drop 2304 b.bindings (j - length part) 0 ∙ p.blank.bindings _)

    -- a list was full
    pub too_many : {e : Full} {w : List ℕ} → WalkDone bs (Err e) part w → {bindings' : List ℕ} → bindings' ≡ replicate (length back) 0 → {a : Answer} → a ≡ refusal 12
        → Accepting bs b a (buffers b.nodes bindings' b.entries b.scopes b.slots b.copies b.errors)
    too_many d e q = many (ap (λ (x : Answer). x.number) q) (too_many_slots p.root p.ready.reads (over_slots p.ready (d.right p.root p.ready).1)) (refused_with (record {
      nodes = blank_is b.nodes p.blank.nodes;
      bindings = e ∙ ap (λ (n : ℕ). replicate n 0) back-length;
      entries = blank_is b.entries p.blank.entries;
      scopes = blank_is b.scopes p.blank.scopes;
      slots = blank_is b.slots p.blank.slots;
      copies = blank_is b.copies p.blank.copies;
      errors = blank_is b.errors p.blank.errors;
    }) q)

    -- none was
    module _ {r : Walked} {w : List ℕ} (d : WalkDone bs (Ok r) part w) {n : ℕ} (c : n ≡ node_count bs) where
      end : Finished bs p.root r (mem part w (d.right p.root p.ready).0)
      end = (d.right p.root p.ready).1

      pub pre_copy : PreCopy n r.st b.nodes b.scopes b.slots b.copies b.errors
      pre_copy = let i = end.image in record {
        few_nodes = omega (arith, p.ready.nodes);
        few_slots = omega (arith, i.slots_are, i.slots.few);
        few_copies = omega (arith, i.copies_are, i.copies.few);
        few_errors = omega (arith, i.errors_are, i.errors.few);
        nodes_fit = omega (arith, p.ready.nodes, p.roomy.nodes);
        scopes_fit = p.roomy.scopes;
        slots_fit = omega (arith, i.slots_are, i.slots.few, p.roomy.slots);
        copies_fit = omega (arith, i.copies_are, i.copies.few, p.roomy.copies);
        errors_fit = omega (arith, i.errors_are, i.errors.few, p.roomy.errors);
      }

      few_entries : r.module ≤ 2304
      few_entries = omega (arith, end.first, end.image.made.few, ap length (made_start (file_of bs p.root)).1, length-append (start (file_of bs p.root)).made (made_start (file_of bs p.root)).0)

      -- the module's bindings: there are so many, with room for their entries
      pub entries_made : r.module ≤ length back
      entries_made = omega (arith, few_entries, back-length, p.roomy.bindings)

      pub made_length : length (take r.module back) ≡ r.module
      made_length = length-take-le r.module back entries_made

      pub pre_entries : length (take r.module back) ≤ length b.entries
      pre_entries = omega (arith, made_length, few_entries, p.roomy.entries)

      made_entries : {entries : List ℕ} → Filled (λ j. entry_from (get_or (take r.module back) j 0)) (length (take r.module back)) b.entries entries → Filled (λ j. entry_from (get_or back j 0)) r.module b.entries entries
      made_entries y = record {
        long = y.long;
        front = λ j h. y.front j (omega (arith, made_length)) ∙ ap entry_from (get_or-take r.module back j 0 h);
        rest = λ j h. y.rest j (omega (arith, made_length));
      }

      module _ {nodes scopes slots copies errors entries : List ℕ} (x : Copied w n r.st b.nodes b.scopes b.slots b.copies b.errors nodes scopes slots copies errors)
          (y : Filled (λ j. entry_from (get_or (take r.module back) j 0)) (length (take r.module back)) b.entries entries) where
        abbrev counts : Answer
        counts = record { number = 0; bindings = r.st.bindings; «module» = r.module; slots = r.st.slots; copies = r.st.copies; errors = r.st.errors }

        abbrev after : Buffers
        after = buffers nodes back entries scopes slots copies errors

        given : Given (file_of bs p.root) (node_count bs) b counts after
        unfolding rec.records
        given = let i = end.image in let F = file_of bs p.root in record {
          bindings = i.bindings_are ∙ sym (length-map (resolved F).made (rec.binding_row (resolved F).log));
          module_entries = end.first ∙ sym (length-map (start F).made rec.entry_row);
          slots = i.slots_are ∙ sym (length-map (resolved F).slots rec.slot_row);
          copies = i.copies_are ∙ sym (length-map (resolved F).copies rec.copy_row);
          errors = i.errors_are;
          nodes_hold = fronts.nodes_front p.ready i (filled_end x.of_nodes c) p.blank.nodes p.roomy.nodes;
          bindings_hold = fronts.bindings_front p.ready i back back-front (length b.bindings) back-length p.roomy.bindings back_behind;
          entries_hold = fronts.entries_front p.ready i back back-front r.module end.first (made_entries y) p.blank.entries p.roomy.entries;
          scopes_hold = fronts.scopes_front p.ready i x.of_scopes p.blank.scopes p.roomy.scopes;
          slots_hold = fronts.slots_front p.ready i x.of_slots p.blank.slots p.roomy.slots;
          copies_hold = fronts.copies_front p.ready i x.of_copies p.blank.copies p.roomy.copies;
          errors_hold = fronts.errors-front p.ready i x.of_errors p.blank.errors p.roomy.errors;
        }

        -- whatever tree the nodes hold: it is this one
        pub all_given : Accepting bs b counts after
        all_given = few refl (λ root q. subst (λ (t : Forest). (length (resolved (file_of bs t)).slots ≤ 4096) × Given (file_of bs t) (node_count bs) b counts after)
            (reads_one p.root root (nodes_of bs) 0 p.ready.reads q) (end.image.slots.few, given))
