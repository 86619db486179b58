-- The bindings in the working lists: one more, one bound again, one captured; and what their records give back.
use Rattle.std.specs.Prelude.{ℕ, ◌+◌, ◌<◌, ◌≤◌, ◌≡◌, Bool, ◌||◌, List, [], ◌∷◌, ◌++◌, eqb, get_or, set}
use Rattle.std.proofs.Math.Path.{refl, ap}
use Rattle.std.proofs.Common.{sym, ◌∙◌, arith}
use Rattle.std.proofs.Math.Bool.{true, false, or-false, or-true}
use Rattle.std.proofs.Math.Option.{some}
use Rattle.std.proofs.Math.Decide.{ℕ_discrete}
use Rattle.std.proofs.Math.ListN.{length, get_elem?, length-append}
use Rattle.lexical.specs.Lists.{eqb_self, eqb-not, none-some, Opened, absent, present, opened}
use Rattle.lexical.specs.Places.{at-below, at_end}
use Rattle.lexical.specs.State.{Binding}
use Rattle.lexical.specs.Records.{bit}
use Rattle.store.specs.Sections.{Point, word_at, or_zero}
use Rattle.bits.specs.Pack.{Narrow}
use Rattle.answer.specs.Fields.{fields, changed}
use Rattle.answer.specs.Records.{binding_widths, binding_of, binding_name, binding_slot}
use Rattle.answer.specs.Laws.{part-packed, changed-packed}
use Rattle.store.specs.Words.{binding_word, bind_word, captured_word, again_word}
use Rattle.store.specs.Image.{Sound, MadeIn}
use Rattle.store.proofs.Laws.Points.{Off, Zeros, Replaced, at_others, point_none, point_skip, point_same, point_push, point_set, point_replaced, point_kept, replaced_long, absent_past, word_at_lem}

-- a binding bound again: any, and Public if this target is
abbrev pub bound_again : Bool → Binding → Binding
bound_again public b = record { id = b.id; var = record { name = b.var.name; source = b.var.source; entry = b.var.entry; public = b.var.public || public; any = true }; local = b.local; owner = b.owner; slot = b.slot }

-- ---- what a record gives back, whatever its three flags are

abbrev flags_row : Binding → Bool → Bool → Bool → List ℕ
flags_row b public any captured = b.var.name ∷ b.var.source ∷ bit b.var.entry ∷ bit public ∷ bit any ∷ bit captured ∷ bit b.local ∷ b.slot ∷ []

abbrev flags : Binding → Bool → Bool → Bool → ℕ
flags b public any captured = binding_of (flags_row b public any captured)

pub bit_below : (x : Bool) → bit x < 2
unfolding bit
bit_below true = omega arith
bit_below false = omega arith

module _ {i : ℕ} {b : Binding} (s : Sound i b) (p a c : Bool) where
  -- each field fits
  pub flags_narrow : Narrow (fields binding_widths (flags_row b p a c))
  flags_narrow = (omega (arith, s.name), (s.source, (bit_below b.var.entry, (bit_below p, (bit_below a, (bit_below c, (bit_below b.local, (s.slot, (omega arith, tt)))))))))

  flag_captured : captured_word (flags b p a c) ≡ flags b p a true
  unfolding bit
  flag_captured = changed-packed binding_widths (flags_row b p a c) flags_narrow 5 1 (omega arith)

  flag_any : changed binding_widths 4 1 (flags b p a c) ≡ flags b p true c
  unfolding bit
  flag_any = changed-packed binding_widths (flags_row b p a c) flags_narrow 4 1 (omega arith)

  flag_public : changed binding_widths 3 1 (flags b p a c) ≡ flags b true a c
  unfolding bit
  flag_public = changed-packed binding_widths (flags_row b p a c) flags_narrow 3 1 (omega arith)

-- ---- the record of a binding

module _ (cap : ℕ → Bool) {i : ℕ} {b : Binding} (s : Sound i b) where
  pub bind_name : binding_name (bind_word cap b) ≡ b.var.name
  unfolding bind_word binding_word
  bind_name = part-packed binding_widths (flags_row b b.var.public b.var.any (cap b.id)) (flags_narrow s _ _ _) 0 (omega arith)

  pub bind_slot : binding_slot (bind_word cap b) ≡ b.slot
  unfolding bind_word binding_word
  bind_slot = part-packed binding_widths (flags_row b b.var.public b.var.any (cap b.id)) (flags_narrow s _ _ _) 7 (omega arith)

  pub bind-captured : (cap' : ℕ → Bool) → cap' i ≡ true → captured_word (bind_word cap b) ≡ bind_word cap' b
  unfolding bind_word binding_word
  bind-captured cap' e = flag_captured s b.var.public b.var.any (cap b.id) ∙ (rw (s.id, e) refl)

  pub bind-again : (public : Bool) → again_word public (bind_word cap b) ≡ bind_word cap (bound_again public b)
  unfolding bind_word binding_word
  bind-again true =
      ap (changed binding_widths 3 1) (flag_any s b.var.public b.var.any (cap b.id))
      ∙ flag_public s b.var.public true (cap b.id)
      ∙ ap (λ (x : Bool). flags b x true (cap b.id)) (sym (or-true b.var.public))
  bind-again false = flag_any s b.var.public b.var.any (cap b.id) ∙ ap (λ (x : Bool). flags b x true (cap b.id)) (sym (or-false b.var.public))

-- ---- the list of them

pub made_none : (cap : ℕ → Bool) (binds t : List ℕ) → Zeros binds → Zeros t → MadeIn [] cap binds t
made_none cap binds t z y =
    record {
      words = point_none (bind_word cap) binds 0 2304 z;
      owners = point_none (λ (b : Binding). b.owner) t 7424 2304 y;
      few = omega arith;
      sound = λ i b e. absurd (none-some refl e);
    }

module _ {bs : List Binding} {cap : ℕ → Bool} {binds t : List ℕ} (m : MadeIn bs cap binds t) where
  -- binding i
  pub made_few : (i : ℕ) (b : Binding) → get_elem? bs i ≡ some b → i < 2304
  made_few i b e = omega (arith, m.few, at-below bs i b e)

  made_word : (i : ℕ) (b : Binding) → get_elem? bs i ≡ some b → get_or binds i 0 ≡ bind_word cap b
  made_word i b e = let z : 0 + i ≡ i = omega arith in (rw z at (m.words i (made_few i b e))) ∙ word_at_lem (bind_word cap) bs i b e

  pub made_name : (i : ℕ) (b : Binding) → get_elem? bs i ≡ some b → binding_name (get_or binds i 0) ≡ b.var.name
  made_name i b e = ap binding_name (made_word i b e) ∙ bind_name cap (m.sound i b e)

  pub made_slot : (i : ℕ) (b : Binding) → get_elem? bs i ≡ some b → binding_slot (get_or binds i 0) ≡ b.slot
  made_slot i b e = ap binding_slot (made_word i b e) ∙ bind_slot cap (m.sound i b e)

  pub made_owner : (i : ℕ) (b : Binding) → get_elem? bs i ≡ some b → get_or t (7424 + i) 0 ≡ b.owner
  made_owner i b e = m.owners i (made_few i b e) ∙ word_at_lem (λ (b : Binding). b.owner) bs i b e

  -- a store elsewhere in t
  pub made_skip : (j v : ℕ) → Off j 7424 2304 → MadeIn bs cap binds (set t j v)
  made_skip j v h = record { words = m.words; owners = point_skip t 7424 2304 _ j v h m.owners; few = m.few; sound = m.sound }

  same_word : (cap' : ℕ → Bool) (i : ℕ) → (i < length bs → cap i ≡ cap' i) → word_at (bind_word cap) bs i ≡ word_at (bind_word cap') bs i
  unfolding or_zero bind_word
  same_word cap' i h = go (opened (get_elem? bs i))
    where
      go : Opened (get_elem? bs i) → word_at (bind_word cap) bs i ≡ word_at (bind_word cap') bs i
      go (absent e) = rw e refl
      go (present b e) = let q : cap b.id ≡ cap' b.id = rw (m.sound i b e).id (h (at-below bs i b e)) in rw e (rw q refl)

  -- other captured bindings, the same for those made
  pub made_cap : (cap' : ℕ → Bool) → ((i : ℕ) → i < length bs → cap i ≡ cap' i) → MadeIn bs cap' binds t
  made_cap cap' h = record { words = point_same binds 0 2304 _ _ (λ i _. same_word cap' i (h i)) m.words; owners = m.owners; few = m.few; sound = m.sound }

  module _ (long : 2304 ≤ length binds) where
    -- one more: `put_binding` and `put_owner`
    pub made_push : length t ≡ 20864 → (i : ℕ) (b : Binding) → i ≡ length bs → i < 2304 → Sound i b → cap i ≡ false
        → MadeIn (bs ++ (b ∷ [])) cap (set binds i (binding_word b.var.name b.var.source (bit b.var.entry) (bit b.var.public) (bit b.var.any) 0 (bit b.local) b.slot)) (set t (7424 + i) b.owner)
    made_push long-t i b e h s c =
        record {
          words = point_push (bind_word cap) binds 0 2304 bs b i _ (omega arith) (omega arith) (unfold bind_word in rw (s.id, c) (unfold bit in refl)) m.words;
          owners = point_push (λ (b : Binding). b.owner) t 7424 2304 bs b (7424 + i) b.owner (omega arith) (omega arith) refl m.owners;
          few = omega (arith, length-append bs (b ∷ []));
          sound = λ k x q. go k x q (ℕ_discrete k (length bs));
        }
      where
        go : (k : ℕ) (x : Binding) → get_elem? (bs ++ (b ∷ [])) k ≡ some x → Dec (k ≡ length bs) → Sound k x
        go k x q (yes z) = let p : b ≡ x = cc (at_end bs b) in rw (z, ← e, ← p) s
        go k x q (no z) = m.sound k x (sym (at_others bs b k z) ∙ q)

    -- one bound again: `bind_again`
    pub made_again : (i : ℕ) (b : Binding) (public : Bool) (bs' : List Binding) → get_elem? bs i ≡ some b → Replaced i (bound_again public b) bs bs'
        → MadeIn bs' cap (set binds i (again_word public (get_or binds i 0))) t
    made_again i b public bs' e r =
        record {
          words = point_replaced (bind_word cap) binds 0 2304 bs bs' i i (bound_again public b) _ r (omega arith) (omega (arith, made_few i b e))
              (ap (again_word public) (made_word i b e) ∙ bind-again cap (m.sound i b e) public) m.words;
          owners = point_kept (λ (b : Binding). b.owner) t 7424 2304 bs bs' i (bound_again public b) b r e refl m.owners;
          few = omega (arith, m.few, replaced_long r (at-below bs i b e));
          sound = λ k x q. go k x q (ℕ_discrete k i);
        }
      where
        again_sound : Sound i b → Sound i (bound_again public b)
        again_sound s = record { id = s.id; name = s.name; source = s.source; owner = s.owner; slot = s.slot; local_slot = s.local_slot }

        go : (k : ℕ) (x : Binding) → get_elem? bs' k ≡ some x → Dec (k ≡ i) → Sound k x
        go k x q (yes z) = let p : bound_again public b ≡ x = cc r.here in rw (z, ← p) (again_sound (m.sound i b e))
        go k x q (no z) = m.sound k x (sym (r.other k z) ∙ q)

    -- one captured: `set_captured`
    pub made_captured : (i : ℕ) (cap' : ℕ → Bool) → i < length bs → ((j : ℕ) → cap' j ≡ (cap j || eqb j i))
        → MadeIn bs cap' (set binds i (captured_word (get_or binds i 0))) t
    made_captured i cap' h e = record { words = go (opened (get_elem? bs i)); owners = m.owners; few = m.few; sound = m.sound }
      where
        go : Opened (get_elem? bs i) → Point (set binds i (captured_word (get_or binds i 0))) 0 2304 (word_at (bind_word cap') bs)
        go (absent q) = absurd (omega (arith, absent_past bs i q))
        go (present b q) =
            point_set binds 0 2304 (word_at (bind_word cap) bs) (word_at (bind_word cap') bs) i i _ (omega arith) (omega (arith, made_few i b q))
            (word_at_lem (bind_word cap') bs i b q ∙ sym (ap (captured_word) (made_word i b q) ∙ bind-captured cap (m.sound i b q) cap' (e i ∙ (rw (eqb_self i) (or-true (cap i))))))
            (λ j _ o. sym (same_word cap' j (λ _. sym (e j ∙ (rw (eqb-not j i o) (or-false (cap j)))))))
            m.words
