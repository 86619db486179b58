-- One step more: what a fresh binding, a block, a copy and a lookup add to the records. For whoever keeps them as buffers.
use Rattle.std.specs.Prelude.{◌≡◌, Bool, true, false, cond, ◌||◌, ℕ, zero, suc, ◌+◌, ◌≤◌, ◌<◌, eqb, length}
use Rattle.std.proofs.Math.Path.{refl, ap₂}
use Rattle.std.proofs.Common.{sym, ◌∙◌, ap, arith}
use mathlib.Core.List.{List, [], ◌∷◌, ◌++◌, append_assoc, append-nil, map, map-append, map-map}
use Rattle.std.proofs.Math.Bool.{or_assoc, or-false}
use Rattle.std.proofs.Math.Option.{some}
use Rattle.std.proofs.Math.ListN.{get_elem?, length-append}
use Rattle.lexical.specs.Lists.{first, none-some, eqb_self, eqb-not}
use Rattle.lexical.specs.Places.{All, all_snoc, at-below}
use Rattle.lexical.specs.Binders.{Target, Var}
use Rattle.lexical.specs.Module.{Outer, module', global, missing}
use Rattle.lexical.specs.State.{Binding, Slot, Found, local, refused, outside, Event, St}
use Rattle.lexical.specs.Block.{fresh_in, fresh, slot_for, new, add, bind, called, name_of, naming}
use Rattle.lexical.specs.Third.{copy_in, logged}
use Rattle.lexical.specs.Records.{title_row, copy_row, slot_row, bit, binding_row, name_row, params_of, scope_rows, captures_outer, captures_found, captured, answer_row, answers, error_row, errors}
use Rattle.lexical.proofs.Theory.Chains.{LedFound}
use Rattle.lexical.proofs.Theory.Slots.{fresh_snoc}

pub answers_snoc : (bs : List Binding) (es : List Event) (e : Event) → answers bs (es ++ (e ∷ [])) ≡ answers bs es ++ answer_row bs e.node e.found
unfolding answers
answers_snoc bs [] e = append-nil _
answers_snoc bs (x ∷ es) e = ap (λ l. answer_row bs x.node x.found ++ l) (answers_snoc bs es e) ∙ sym (append_assoc (answer_row bs x.node x.found) (answers bs es) _)

pub errors_snoc : (es : List Event) (e : Event) → errors (es ++ (e ∷ [])) ≡ errors es ++ error_row e.node e.found
unfolding errors
errors_snoc [] e = append-nil _
errors_snoc (x ∷ es) e = ap (λ l. error_row x.node x.found ++ l) (errors_snoc es e) ∙ sym (append_assoc (error_row x.node x.found) (errors es) _)

pub captured_snoc : (i : ℕ) (es : List Event) (e : Event) → captured i (es ++ (e ∷ [])) ≡ (captured i es || captures_found i e.scopes e.found)
unfolding captured
captured_snoc i [] e = or-false _
captured_snoc i (x ∷ es) e = ap (λ b. captures_found i x.scopes x.found || b) (captured_snoc i es e) ∙ sym (or_assoc (captures_found i x.scopes x.found) (captured i es) _)

-- a fresh binding
module _ (s : ℕ) (v : Var) (st : St) where
  pub add_bindings : (es : List Event) → map (binding_row es) (add s (new s v st) st).made
      ≡ map (binding_row es) st.made ++ ((v.name ∷ v.source ∷ bit v.entry ∷ bit v.public ∷ bit v.any ∷ bit (captured (length st.made) es) ∷ 1 ∷ fresh s st ∷ []) ∷ [])
  unfolding add new binding_row bit
  add_bindings es = map-append _ st.made _

  pub add_slots : map slot_row (add s (new s v st) st).slots ≡ map slot_row st.slots ++ ((s ∷ v.name ∷ []) ∷ [])
  unfolding add new slot_for
  add_slots = map-append _ st.slots _

  pub add-count : (t : ℕ) → fresh t (add s (new s v st) st) ≡ cond (eqb s t) (suc (fresh t st)) (fresh t st)
  unfolding add slot_for
  add-count t = fresh_snoc t st.slots _

  pub add_rest : ((add s (new s v st) st).copies ≡ st.copies) × ((add s (new s v st) st).named ≡ st.named) × ((add s (new s v st) st).log ≡ st.log)
  unfolding add
  add_rest = (refl, refl, refl)

-- a copy
module _ (s : ℕ) (b : Binding) (r : ℕ × St) where
  pub copy_slot : (copy_in s b r).0 ≡ fresh s r.1
  unfolding copy_in
  copy_slot = refl

  pub copy_slots : map slot_row (copy_in s b r).1.slots ≡ map slot_row r.1.slots ++ ((s ∷ b.var.name ∷ []) ∷ [])
  unfolding copy_in slot_for
  copy_slots = map-append _ r.1.slots _

  pub copy_copies : map copy_row (copy_in s b r).1.copies ≡ map copy_row r.1.copies ++ ((s ∷ r.0 ∷ fresh s r.1 ∷ []) ∷ [])
  unfolding copy_in
  copy_copies = map-append _ r.1.copies _

  pub copy_count : (t : ℕ) → fresh t (copy_in s b r).1 ≡ cond (eqb s t) (suc (fresh t r.1)) (fresh t r.1)
  unfolding copy_in slot_for
  copy_count t = fresh_snoc t r.1.slots _

  pub copy_rest : ((copy_in s b r).1.made ≡ r.1.made) × ((copy_in s b r).1.named ≡ r.1.named) × ((copy_in s b r).1.log ≡ r.1.log)
  unfolding copy_in
  copy_rest = (refl, refl, refl)

-- a block's Names
pub name_names : (ts : List Target) (bs : List Binding) (st : St) → map title_row (naming ts bs st).named ≡ map title_row st.named ++ map (λ (t : Target). name_row t.node (first (called t.name) bs)) ts
unfolding naming name_of
name_names ts bs st = map-append title_row st.named _ ∙ ap (λ l. map title_row st.named ++ l) (map-map title_row (name_of bs) ts)

pub name_rest : (ts : List Target) (bs : List Binding) (st : St) → ((naming ts bs st).made ≡ st.made) × ((naming ts bs st).slots ≡ st.slots) × ((naming ts bs st).copies ≡ st.copies) × ((naming ts bs st).log ≡ st.log)
unfolding naming
name_rest ts bs st = (refl, refl, refl, refl)

-- a lookup: of a binding only whether it is captured
pub log_binding : (es : List Event) (e : Event) (b : Binding)
    → binding_row (es ++ (e ∷ [])) b ≡ b.var.name ∷ b.var.source ∷ bit b.var.entry ∷ bit b.var.public ∷ bit b.var.any ∷ bit (captured b.id es || captures_found b.id e.scopes e.found) ∷ bit b.local ∷ b.slot ∷ []
unfolding binding_row
log_binding es e b = ap (λ x. b.var.name ∷ b.var.source ∷ bit b.var.entry ∷ bit b.var.public ∷ bit b.var.any ∷ bit x ∷ bit b.local ∷ b.slot ∷ []) (captured_snoc b.id es e)

pub log_rest : (at n : ℕ) (ss : List ℕ) (f : Found) (st : St) → ((logged at n ss f st).made ≡ st.made) × ((logged at n ss f st).named ≡ st.named) × ((logged at n ss f st).slots ≡ st.slots) × ((logged at n ss f st).copies ≡ st.copies)
unfolding logged
log_rest at n ss f st = (refl, refl, refl, refl)

-- the bindings of a list of variables, made one after another
pub bind_made : (s : ℕ) (vs : List Var) (st : St) → (bind s vs st).1.made ≡ st.made ++ (bind s vs st).0
unfolding bind add
bind_made s [] st = sym (append-nil st.made)
bind_made s (v ∷ vs) st = bind_made s vs (add s (new s v st) st) ∙ append_assoc st.made (new s v st ∷ []) (bind s vs (add s (new s v st) st)).0

pub bind-length : (s : ℕ) (vs : List Var) (st : St) → length (bind s vs st).0 ≡ length vs
unfolding bind
bind-length s [] st = refl
bind-length s (v ∷ vs) st = ap suc (bind-length s vs (add s (new s v st) st))

pub bind_slots : (s : ℕ) (vs : List Var) (st : St) → map slot_row (bind s vs st).1.slots ≡ map slot_row st.slots ++ map (λ (v : Var). s ∷ v.name ∷ []) vs
unfolding bind
bind_slots s [] st = sym (append-nil _)
bind_slots s (v ∷ vs) st = bind_slots s vs (add s (new s v st) st) ∙ ap (λ l. l ++ map (λ (v : Var). s ∷ v.name ∷ []) vs) (add_slots s v st) ∙ append_assoc (map slot_row st.slots) ((s ∷ v.name ∷ []) ∷ []) _

pub bind-count : (s : ℕ) (vs : List Var) (st : St) (t : ℕ) → fresh t (bind s vs st).1 ≡ cond (eqb s t) (fresh t st + length vs) (fresh t st)
unfolding bind
bind-count s [] st t = go (eqb s t)
  where
    go : (b : Bool) → fresh t st ≡ cond b (fresh t st + 0) (fresh t st)
    go true = omega arith
    go false = refl
bind-count s (v ∷ vs) st t = bind-count s vs (add s (new s v st) st) t ∙ ap (λ n. cond (eqb s t) (n + length vs) n) (add-count s v st t) ∙ go (eqb s t)
  where
    go : (b : Bool) → cond b (cond b (suc (fresh t st)) (fresh t st) + length vs) (cond b (suc (fresh t st)) (fresh t st)) ≡ cond b (fresh t st + suc (length vs)) (fresh t st)
    go true = omega arith
    go false = refl

-- the i-th of them: its number and its slot follow on those before
abbrev pub nth : ℕ → ℕ → Var → St → Binding
nth s i v st = record { id = length st.made + i; var = v; local = true; owner = s; slot = fresh s st + i }

pub bind-at : (s : ℕ) (vs : List Var) (st : St) (i : ℕ) (v : Var) → get_elem? vs i ≡ some v → get_elem? (bind s vs st).0 i ≡ some (nth s i v st)
unfolding bind
bind-at s [] st i v e = absurd (none-some refl e)
bind-at s (x ∷ vs) st zero v e = let z : x ≡ v = cc in
    ap (λ y. some (new s y st)) z ∙ (unfold new in ap₂ (λ m n. some (record { id = m; var = v; local = true; owner = s; slot = n })) (omega arith) (omega arith))
bind-at s (x ∷ vs) st (suc i) v e = bind-at s vs (add s (new s x st) st) i v e
    ∙ ap₂ (λ m n. some (record { id = m; var = v; local = true; owner = s; slot = n })) (omega (arith, more)) (omega (arith, up))
  where
    more : length (add s (new s x st) st).made ≡ suc (length st.made)
    more = unfold add in omega (arith, length-append st.made (new s x st ∷ []))

    up : fresh s (add s (new s x st) st) ≡ suc (fresh s st)
    up = add-count s x st s ∙ (rw (eqb_self s) refl)

-- a number that no lookup so far can be of is not captured
unfoldable pub OuterBelow : ℕ → Outer → Type 0
OuterBelow n (module' j) = j < n
OuterBelow n (global g) = Unit {0}
OuterBelow n missing = Unit {0}

unfoldable pub FoundBelow : ℕ → Found → Type 0
FoundBelow n (local b k) = b.id < n
FoundBelow n (refused b k) = b.id < n
FoundBelow n (outside o) = OuterBelow n o

abbrev pub AllBelow : ℕ → List Event → Type 0
AllBelow n es = All (λ (e : Event). FoundBelow n e.found) es

found_more : (m n : ℕ) (f : Found) → m ≤ n → FoundBelow m f → FoundBelow n f
unfolding FoundBelow OuterBelow
found_more m n (local b k) le h = omega arith
found_more m n (refused b k) le h = omega arith
found_more m n (outside (module' j)) le h = omega arith
found_more m n (outside (global g)) le h = tt
found_more m n (outside missing) le h = tt

pub below_more : (m n : ℕ) (es : List Event) → m ≤ n → AllBelow m es → AllBelow n es
below_more m n es le h j e q = found_more m n e.found le (h j e q)

pub below_snoc : (n : ℕ) (es : List Event) (e : Event) → AllBelow n es → FoundBelow n e.found → AllBelow n (es ++ (e ∷ []))
below_snoc n es e h f = all_snoc _ es e h f

-- a lookup that leads home is of a binding made
pub led_below : (st : St) (n : ℕ) (ss : List ℕ) (f : Found) → LedFound st n ss f → ((o : Outer) → f ≡ outside o → OuterBelow (length st.made) o) → FoundBelow (length st.made) f
unfolding FoundBelow
led_below st n ss (local b k) h o = at-below st.made b.id b h.known
led_below st n ss (refused b k) h o = at-below st.made b.id b h.known
led_below st n ss (outside u) h o = o u refl

captures_fresh : (i n : ℕ) (ss : List ℕ) (f : Found) → n ≤ i → FoundBelow n f → captures_found i ss f ≡ false
unfolding captures_found captures_outer FoundBelow OuterBelow
captures_fresh i n ss (local b k) le h = rw (eqb-not i b.id (λ e. omega arith)) refl
captures_fresh i n ss (refused b k) le h = rw (eqb-not i b.id (λ e. omega arith)) refl
captures_fresh i n ss (outside (module' j)) le h = rw (eqb-not i j (λ e. omega arith)) refl
captures_fresh i n ss (outside (global g)) le h = refl
captures_fresh i n ss (outside missing) le h = refl

pub captured-fresh : (i n : ℕ) (es : List Event) → n ≤ i → AllBelow n es → captured i es ≡ false
unfolding captured
captured-fresh i n [] le h = refl
captured-fresh i n (e ∷ es) le h = rw (captures_fresh i n e.scopes e.found le (h zero e refl)) (captured-fresh i n es le (λ j x q. h (suc j) x q))

-- the scopes' rows, by number
pub scope_rows-length : (s : ℕ) (xs ps : List (ℕ × ℕ)) (rs : List Slot) → length (scope_rows s xs ps rs) ≡ length xs
unfolding scope_rows
scope_rows-length s [] ps rs = refl
scope_rows-length s (x ∷ xs) ps rs = ap suc (scope_rows-length (suc s) xs ps rs)

pub scope_rows-at : (s : ℕ) (xs ps : List (ℕ × ℕ)) (rs : List Slot) (i : ℕ) → i < length xs
    → get_elem? (scope_rows s xs ps rs) i ≡ some (params_of (first (λ p. eqb p.0 (s + i)) ps) ∷ fresh_in (s + i) rs ∷ [])
unfolding scope_rows
scope_rows-at s [] ps rs i h = absurd (omega arith)
scope_rows-at s (x ∷ xs) ps rs zero h = let e : s ≡ s + 0 = omega arith in ap (λ t. some (params_of (first (λ p. eqb p.0 t) ps) ∷ fresh_in t rs ∷ [])) e
scope_rows-at s (x ∷ xs) ps rs (suc i) h = let e : suc s + i ≡ s + suc i = omega arith in
    scope_rows-at (suc s) xs ps rs i (omega arith) ∙ ap (λ t. some (params_of (first (λ p. eqb p.0 t) ps) ∷ fresh_in t rs ∷ [])) e
