-- An identifier's outcome is kept, in its node's record or among the errors: what that does to the relation.
use Prim.Native.Nat.{ℕ, ◌+◌, ◌<◌, ◌≤◌}
use mathlib.Core.Path.{◌≡◌, refl, sym, ap, ◌∙◌, subst}
use mathlib.Core.List.{List, [], ◌∷◌, ◌++◌, append-nil}
use native.Mathlib.Omega.{arith}
use native.Mathlib.Decide.{dec_lt}
use lib.ListN.{length, set, length-append}
use Rattle.std.specs.Prelude.{Result, Ok}
use Rattle.lexical.specs.Module.{module', global, missing}
use Rattle.lexical.specs.State.{Binding, St, Event, Found, local, refused, outside}
use Rattle.lexical.specs.Third.{logged}
use Rattle.lexical.specs.Records as rec
use Rattle.lexical.specs.Records.{answer_row, outer_row, error_row, outer_error}
use Rattle.lexical.proofs.Laws.Adds.{errors_snoc, captured_snoc, FoundBelow, OuterBelow, below_snoc}
use Rattle.store.specs.declared.ids.State.{State}
use Rattle.store.specs.declared.ids.Full.{Full}
use Rattle.store.specs.declared.ids.Resolution.{Resolution}
use Rattle.store.specs.declared.ids.Resolution.TheVariants as res
use Rattle.store.specs.Sections.{mem}
use Rattle.store.specs.Words.{row_node, row_word, answer_word, pair_word}
use Rattle.store.specs.Image.{ErrorsIn, NodesIn}
use Rattle.store.specs.Rel.{World, Rel, R, caps, too_many_errors}
use Rattle.store.proofs.Laws.Points.{Off}
use Rattle.store.proofs.Laws.Slots.{slots_skip_w}
use Rattle.store.proofs.Laws.Copied.{copies_skip, errors_skip, errors_push}
use Rattle.store.proofs.Laws.Nodes.{nodes_skip, nodes_answer, nodes_quiet}
use Rattle.lookup.specs.Lookup.{res_of, caps_with, SmallSlot, slot_answer, ErrorAdded, Small, Keeping, Kept}
use Rattle.lookup.proofs.Captures.{rel_caps}

-- ---- the row that an outcome has

pub record Answered (M : List Binding) (at : ℕ) (f : Found) (v : ℕ) : Type 0 where
  pub row : List ℕ
  pub is : answer_row M at f ≡ row ∷ []
  pub no_error : error_row at f ≡ []
  pub node : at ≡ row_node row
  pub word : v ≡ row_word row

pub record Refused (M : List Binding) (at : ℕ) (f : Found) (code : ℕ) : Type 0 where
  pub is : error_row at f ≡ (at ∷ code ∷ []) ∷ []
  pub no_answer : answer_row M at f ≡ []

abbrev pub Rowed : List Binding → ℕ → Found → Resolution → Type 0
Rowed M at f (res.Slot k id) = Answered M at f (slot_answer k id.0)
Rowed M at f (res.Global g) = Answered M at f (answer_word 3 g 0)
Rowed M at f res.NotFound = Refused M at f 1
Rowed M at f res.LocalInType = Refused M at f 2

rowed : (M : List Binding) (at : ℕ) (f : Found) → Rowed M at f (res_of M f)
unfolding res_of answer_row outer_row error_row outer_error
rowed M at (local b k) = record { row = _; is = refl; no_error = refl; node = refl; word = refl }
rowed M at (refused b k) = record { is = refl; no_answer = refl }
rowed M at (outside (module' i)) = record { row = _; is = refl; no_error = refl; node = refl; word = refl }
rowed M at (outside (global g)) = record { row = _; is = refl; no_error = refl; node = refl; word = refl }
rowed M at (outside missing) = record { is = refl; no_answer = refl }

-- its numbers fit their record
abbrev pub Fitting : Resolution → Type 0
Fitting (res.Slot k id) = SmallSlot k × (id.0 < 32768)
Fitting (res.Global g) = g < 32768
Fitting res.NotFound = Unit {0}
Fitting res.LocalInType = Unit {0}

fitting : (M : List Binding) (n : ℕ) (f : Found) → n ≤ 2304 → Small M f → FoundBelow n f → Fitting (res_of M f)
unfolding res_of Small FoundBelow OuterBelow
fitting M n (local b k) h s b' = (omega arith, omega arith)
fitting M n (refused b k) h s b' = tt
fitting M n (outside (module' i)) h s b' = (s, omega arith)
fitting M n (outside (global g)) h s b' = s
fitting M n (outside missing) h s b' = tt

-- ---- one lookup more

module _ {W : World} {env : List Binding} {ss : List ℕ} {st : St} {s : State} {binds w t : List ℕ} (f : Found) (rel : Rel W env ss (caps_with (caps st) ss f) st s (mem binds w t)) (below : FoundBelow (length st.made) f)
    (long : length w ≡ 12544) (at name : ℕ) where
  abbrev event : Event
  event = record { node = at; name = name; scopes = ss; found = f }

  -- a store among the nodes' answers or the errors
  rel_stored : (j v : ℕ) → Off j 2048 8192 → Off j 12288 256 → (s' : State) → s'.bindings ≡ s.bindings → s'.slots ≡ s.slots → s'.copies ≡ s.copies → s'.level ≡ s.level
      → s'.errors ≡ length (rec.errors (st.log ++ (event ∷ []))) → ErrorsIn (rec.errors (st.log ++ (event ∷ []))) (set w j v) → NodesIn W.M st.named (st.log ++ (event ∷ [])) (set w j v)
      → Rel W env ss (caps (logged at name ss f st)) (logged at name ss f st) s' (mem binds (set w j v) t)
  unfolding logged
  rel_stored j v o o' s' e-bindings e-slots e-copies e-level e-errors errors nodes =
      let r = rel_caps rel (caps (logged at name ss f st)) (λ i. sym (captured_snoc i st.log event)) in
      let i = r.image in
      record {
        image = record {
          made = i.made;
          slots = slots_skip_w i.slots j v (λ k b e. o k (omega arith) e) o';
          copies = copies_skip i.copies j v (λ k b e. o (4096 + k) (omega arith) (omega arith));
          errors = errors;
          nodes = nodes;
          bindings_are = e-bindings ∙ i.bindings_are;
          slots_are = e-slots ∙ i.slots_are;
          copies_are = e-copies ∙ i.copies_are;
          errors_are = e-errors;
          copies_fit = i.copies_fit;
          log_below = below_snoc (length st.made) st.log event i.log_below below;
        };
        around = rw e-level r.around;
        names = r.names;
        ranges = r.ranges;
        scratch = r.scratch;
        settled = r.settled;
      }

  -- an answer
  pub rel_answer : (v : ℕ) → at < 2048 → Answered W.M at f v → Rel W env ss (caps (logged at name ss f st)) (logged at name ss f st) s (mem binds (set w at v) t)
  rel_answer v h a =
      let i = rel.image in
      let e : rec.errors (st.log ++ (event ∷ [])) ≡ rec.errors st.log = errors_snoc st.log event ∙ ap (λ (l : List (List ℕ)). rec.errors st.log ++ l) a.no_error ∙ append-nil (rec.errors st.log) in
      rel_stored at v (omega arith) (omega arith) s refl refl refl refl (i.errors_are ∙ ap length (sym e)) (rw e (errors_skip i.errors at v (omega arith)))
      (nodes_answer W.M st.named st.log w i.nodes long event a.row at v a.is a.node h a.word)

  module _ (code : ℕ) (a : Refused W.M at f code) where
    more : rec.errors (st.log ++ (event ∷ [])) ≡ rec.errors st.log ++ ((at ∷ code ∷ []) ∷ [])
    more = errors_snoc st.log event ∙ ap (λ (l : List (List ℕ)). rec.errors st.log ++ l) a.is

    more_long : length (rec.errors (st.log ++ (event ∷ []))) ≡ s.errors + 1
    more_long = omega (arith, ap length more, length-append (rec.errors st.log) ((at ∷ code ∷ []) ∷ []), rel.image.errors_are)

    -- an error
    rel_error : s.errors < 2048 → (s' : State) → s'.bindings ≡ s.bindings → s'.slots ≡ s.slots → s'.copies ≡ s.copies → s'.level ≡ s.level → s'.errors ≡ s.errors + 1
        → Rel W env ss (caps (logged at name ss f st)) (logged at name ss f st) s' (mem binds (set w (10240 + s.errors) (pair_word at code)) t)
    rel_error room s' e-bindings e-slots e-copies e-level e-errors =
        let i = rel.image in
        rel_stored (10240 + s.errors) (pair_word at code) (omega arith) (omega arith) s' e-bindings e-slots e-copies e-level (e-errors ∙ sym more_long)
        (rw more (errors_push i.errors long at code s.errors i.errors_are room))
        (nodes_skip W.M st.named (st.log ++ (event ∷ [])) w (nodes_quiet W.M st.named st.log w i.nodes event a.no_answer) (10240 + s.errors) (pair_word at code) (omega arith))

    -- `add_error`
    pub r_error : {s' : Result State Full} {w' : List ℕ} → ErrorAdded at code s w s' w' → R W env ss (logged at name ss f st) s' (mem binds w' t)
    unfolding logged
    r_error d =
        elim (dec_lt s.errors 2048) [
          | yes room ↦ let k = d.kept room in rw (k.0, k.1) (record { over = tt; rel = rel_error room _ refl refl refl refl refl })
          | no none ↦ let q : 2048 ≤ s.errors = omega arith in rw (d.none_left q) (record { over = too_many_errors (omega (arith, more_long)); rel = tt })
        ]

-- ---- `put_resolution`

module _ {at : ℕ} {r : Resolution} {s : State} {w : List ℕ} where
  -- r': what the code's match says of r
  pub row_as : (r' : Resolution) → r ≡ r' → (g : Keeping at r s w) → Rowed g.W.M at g.f r'
  row_as r' e g = subst (λ (x : Resolution). Rowed g.W.M at g.f x) (sym g.is ∙ e) (rowed g.W.M at g.f)

  pub fits_as : (r' : Resolution) → r ≡ r' → Keeping at r s w → Fitting r'
  fits_as r' e g = subst (λ (x : Resolution). Fitting x) (sym g.is ∙ e) (fitting g.W.M (length g.st.made) g.f g.rel.image.made.few g.small g.below)

  pub kept_answer : length w ≡ 12544 → {v : ℕ} {w' : List ℕ} → ((g : Keeping at r s w) → Answered g.W.M at g.f v) → w' ≡ set w at v → Kept at r s w (Ok s) w'
  kept_answer long {v} a e = record { right = λ g name. record { over = tt; rel = rw e (rel_answer g.f g.rel g.below long at name v g.node (a g)) } }

  pub kept_error : length w ≡ 12544 → {code : ℕ} {s' : Result State Full} {w' : List ℕ} → ((g : Keeping at r s w) → Refused g.W.M at g.f code) → ErrorAdded at code s w s' w' → Kept at r s w s' w'
  kept_error long {code} a d = record { right = λ g name. r_error g.f g.rel g.below long at name code (a g) d }
