-- A state in which some list holds more than there is room for: every step of the walks leaves it so, and no working lists hold it.
use Rattle.std.specs.Prelude.{ℕ, ◌≤◌, ◌≡◌, refl, Bool, true, false, List, [], ◌∷◌, length, Result, Ok, Err, IsErr}
use Rattle.std.proofs.Common.{ap, arith, length-append}
use Rattle.lexical.specs.Binders.{Target, Var}
use Rattle.lexical.specs.State.{Binding, Event, Found, St}
use Rattle.lexical.specs.Block.{fresh, slot_for, new, add, naming}
use Rattle.lexical.specs.Third.{copy_in, logged}
use Rattle.lexical.specs.Records.{errors, error_row}
use Rattle.lexical.proofs.Laws.Adds.{errors_snoc}
use Rattle.lexical.proofs.Theory.Every.{Kept}
use Rattle.store.specs.declared.ids.State.{State}
use Rattle.store.specs.declared.ids.Full.{Full}
use Rattle.store.specs.Sections.{Mem}
use Rattle.store.specs.Rel.{World, Rel, R, Over, too_many_slots, too_many_bindings, too_many_errors}

-- ---- every list only grows

over_add : (s : ℕ) (v : Var) (st : St) → Over st → Over (add s (new s v st) st)
unfolding add
over_add s v st (too_many_slots h) = too_many_slots (omega (arith, length-append st.slots (slot_for s (new s v st).slot (new s v st) ∷ [])))
over_add s v st (too_many_bindings h) = too_many_bindings (omega (arith, length-append st.made (new s v st ∷ [])))
over_add s v st (too_many_errors h) = too_many_errors h

over_named : (ts : List Target) (bs : List Binding) (st : St) → Over st → Over (naming ts bs st)
unfolding naming
over_named ts bs st (too_many_slots h) = too_many_slots h
over_named ts bs st (too_many_bindings h) = too_many_bindings h
over_named ts bs st (too_many_errors h) = too_many_errors h

over_copy : (s : ℕ) (b : Binding) (x : ℕ × St) → Over x.1 → Over (copy_in s b x).1
unfolding copy_in
over_copy s b x (too_many_slots h) = too_many_slots (omega (arith, length-append x.1.slots (slot_for s (fresh s x.1) b ∷ [])))
over_copy s b x (too_many_bindings h) = too_many_bindings h
over_copy s b x (too_many_errors h) = too_many_errors h

over_logged : (at n : ℕ) (ss : List ℕ) (f : Found) (st : St) → Over st → Over (logged at n ss f st)
unfolding logged
over_logged at n ss f st (too_many_slots h) = too_many_slots h
over_logged at n ss f st (too_many_bindings h) = too_many_bindings h
over_logged at n ss f st (too_many_errors h) =
    let e : Event = record { node = at; name = n; scopes = ss; found = f } in
    too_many_errors (omega (arith, ap length (errors_snoc st.log e), length-append (errors st.log) (error_row at f)))

-- what every step keeps, `lexical`'s `every-bring`, `every-block` and `every_walk` keep
pub over_kept : Kept Over
over_kept = record { adds = over_add; names = over_named; copies = over_copy; logs = over_logged }

-- a copy for which there is no room
pub over_full : (s : ℕ) (b : Binding) (x : ℕ × St) → 4096 ≤ length x.1.slots → Over (copy_in s b x).1
unfolding copy_in
over_full s b x h = too_many_slots (omega (arith, length-append x.1.slots (slot_for s (fresh s x.1) b ∷ [])))

-- ---- the answer `Err Full`

pub never_both : {b : Bool} {A : Type 0} → b ≡ true → b ≡ false → A
never_both t f = absurd (let z : ◌≡◌ {A = ℕ} 0 1 = cc in omega arith)

-- what `?` hands on
pub stopped : {T : Type 0} {r : Result T Full} (e : Full) → IsErr r → r ≡ Err e
stopped {r = Ok x} e h = never_both h refl
stopped {r = Err x} e h = refl

-- where a list is full nothing is claimed of the lists
pub was_full : {W W' : World} {env env' : List Binding} {ss ss' : List ℕ} {st : St} {e e' : Full} {m m' : Mem} → R W env ss st (Err e) m → R W' env' ss' st (Err e') m'
was_full r = record { over = r.over; rel = tt }

pub not_over : {W : World} {env : List Binding} {ss : List ℕ} {cap : ℕ → Bool} {st : St} {s : State} {m : Mem} → Rel W env ss cap st s m → Over st → ⊥
not_over r (too_many_slots h) = omega (arith, r.image.slots.few)
not_over r (too_many_bindings h) = omega (arith, r.image.made.few)
not_over r (too_many_errors h) = omega (arith, r.image.errors.few)

-- before a state that the lists hold, no list was full
pub open_before : {W : World} {env : List Binding} {ss : List ℕ} {st : St} {s : Result State Full} {m : Mem} → R W env ss st s m → (Over st → ⊥) → (v : State) × (s ≡ Ok v)
open_before {s = Ok v} r n = (v, refl)
open_before {s = Err e} r n = absurd (n r.over)
