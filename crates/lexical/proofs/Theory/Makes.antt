-- What a block makes of a name: the variables that its targets merge into, field by field.
use Rattle.std.specs.Prelude.{◌≡◌, List, [], ◌∷◌, map, Bool, true, false, cond, ◌||◌, ℕ, zero, suc, ◌+◌}
use Rattle.std.proofs.Math.Path.{refl, ap}
use Rattle.std.proofs.Common.{sym, ◌∙◌, ap₂, arith}
use Rattle.std.proofs.Math.Bool.{or_assoc, or_comm, or-false}
use Rattle.std.proofs.Math.Option.{Option, none, some}
use Rattle.std.proofs.Math.Dec.{eqb, leb, leb-suc-suc, leb-suc-zero, leb-zero}
use Rattle.lexical.specs.Lists.{first, count, map_o, map_o_cond, eqb-true, none-some, Tested, was, wasnt, tested, Opened, absent, present, opened}
use Rattle.lexical.specs.Places.{first-at}
use Rattle.lexical.specs.Binders.{Target, Var, new_var, again, note, merge}
use Rattle.lexical.specs.Module.{Entry, entry_var}
use Rattle.lexical.specs.Meaning.{declares}
use Rattle.lexical.specs.Records.{bit}
use Rattle.lexical.specs.Blocks.{shows, bound, looped, first_looped, entry_of, is_entry, entry_public, source_of, Makes}

-- the variable of a name
unfoldable pub var_of : ℕ → List Var → Option Var
var_of n vs = first (λ v. eqb v.name n) vs

-- a variable with the targets of its name added
unfoldable grown : ℕ → List Target → Var → Var
grown n ts v = record { name = v.name; source = v.source; entry = v.entry; public = v.public || shows n ts; any = v.any || leb 1 (bound n ts) }

unfoldable note_one : Target → Option Var → Var
note_one t none = new_var t
note_one t (some v) = again t v

note_step : (n : ℕ) (t : Target) (v : Var) (vs : List Var) → var_of n (note t vs) ≡ cond (eqb t.name n) (some (note_one t (var_of n vs))) (var_of n vs)
    → Tested (eqb v.name t.name) → Tested (eqb v.name n) → var_of n (note t (v ∷ vs)) ≡ cond (eqb t.name n) (some (note_one t (var_of n (v ∷ vs)))) (var_of n (v ∷ vs))
unfolding var_of note first note_one new_var again
note_step n t v vs ih (was e) (was e') = rw (e, e', ← eqb-true v.name t.name e, e') refl
note_step n t v vs ih (was e) (wasnt e') = rw (e, e', ← eqb-true v.name t.name e, e') refl
note_step n t v vs ih (wasnt e) (was e') = rw (e, e') (other (tested (eqb t.name n)))
  where
    other : Tested (eqb t.name n) → some v ≡ cond (eqb t.name n) (some (again t v)) (some v)
    other (was q) = absurd (let z : eqb v.name t.name ≡ true = rw (eqb-true t.name n q) e' in let y : ◌≡◌ {A = ℕ} 0 1 = cc in omega arith)
    other (wasnt q) = rw q refl
note_step n t v vs ih (wasnt e) (wasnt e') = rw (e, e') ih

var_note : (n : ℕ) (t : Target) (vs : List Var) → var_of n (note t vs) ≡ cond (eqb t.name n) (some (note_one t (var_of n vs))) (var_of n vs)
unfolding var_of note first note_one new_var
var_note n t [] = refl
var_note n t (v ∷ vs) = note_step n t v vs (var_note n t vs) (tested _) (tested _)

or-true : (b : Bool) → (b || true) ≡ true
or-true true = refl
or-true false = refl

-- one that is there grows
grow_one : (n : ℕ) (t : Target) (ts : List Target) (v : Var) → grown n ts (cond (eqb t.name n) (again t v) v) ≡ grown n (t ∷ ts) v
unfolding grown shows bound count again
grow_one n t ts v = go (tested (eqb t.name n))
  where
    go : Tested (eqb t.name n) → grown n ts (cond (eqb t.name n) (again t v) v) ≡ grown n (t ∷ ts) v
    go (was e) = rw (e, leb-suc-suc 0 (bound n ts), leb-zero (bound n ts)) (ap₂ (λ p a. record { name = v.name; source = v.source; entry = v.entry; public = p; any = a }) (or_assoc v.public t.public (shows n ts)) (sym (or-true v.any)))
    go (wasnt e) = rw e refl

grows : (n : ℕ) (vs : List Var) (ts : List Target) (v : Var) → var_of n vs ≡ some v → var_of n (merge vs ts) ≡ some (grown n ts v)
unfolding merge
grows n vs [] v e = (e ∙ (unfold grown shows bound count in ap some (same (or-false v.public) (or-false v.any))))
  where
    same : (v.public || false) ≡ v.public → (v.any || false) ≡ v.any → v ≡ record { name = v.name; source = v.source; entry = v.entry; public = v.public || false; any = v.any || leb 1 0 }
    same p a = rw (leb-suc-zero 0, p, a) refl
grows n vs (t ∷ ts) v e = (grows n (note t vs) ts (cond (eqb t.name n) (again t v) v) (var_note n t vs ∙ one (tested (eqb t.name n))) ∙ ap some (grow_one n t ts v))
  where
    one : Tested (eqb t.name n) → cond (eqb t.name n) (some (note_one t (var_of n vs))) (var_of n vs) ≡ some (cond (eqb t.name n) (again t v) v)
    one (was q) = rw (q, e) (unfold note_one in refl)
    one (wasnt q) = rw (q, e) refl

-- one that the first target of its name declares
declared-first : (n : ℕ) (t : Target) (ts : List Target) → eqb t.name n ≡ true → Makes none (t ∷ ts) n (grown n ts (new_var t))
unfolding grown new_var source_of declares first map_o is_entry entry_public shows bound count first_looped looped bit
declared-first n t ts e = record {
  name_is = eqb-true t.name n e;
  source_is = rw e refl;
  entry_is = refl;
  public_is = rw e refl;
  any_is = rw e (or_comm t.any (leb 1 (bound n ts)) ∙ ap (λ b. b || t.any) (sym (ap (leb 2) (zero-plus (suc (bound n ts))) ∙ leb-suc-suc 1 (bound n ts))));
}
  where
    zero-plus : (m : ℕ) → 0 + m ≡ m
    zero-plus m = omega arith

-- a target of another name changes nothing
makes_other : (n : ℕ) (t : Target) (ts : List Target) (v : Var) → eqb t.name n ≡ false → Makes none ts n v → Makes none (t ∷ ts) n v
unfolding source_of declares first map_o shows bound count first_looped
makes_other n t ts v e m = record { name_is = m.name_is; source_is = rw e m.source_is; entry_is = m.entry_is; public_is = rw e m.public_is; any_is = rw e m.any_is }

pub makes_none : (n : ℕ) (vs : List Var) (ts : List Target) (v : Var) → var_of n vs ≡ none → var_of n (merge vs ts) ≡ some v → Makes none ts n v
unfolding merge
makes_none n vs [] v e q = absurd (none-some e q)
makes_none n vs (t ∷ ts) v e q = go (tested (eqb t.name n)) (λ z w. makes_none n (note t vs) ts v z w)
  where
    go : Tested (eqb t.name n) → (var_of n (note t vs) ≡ none → var_of n (merge (note t vs) ts) ≡ some v → Makes none ts n v) → Makes none (t ∷ ts) n v
    go (was p) rec =
        let x : var_of n (note t vs) ≡ some (new_var t) = var_note n t vs ∙ (rw (p, e) (unfold note_one in refl)) in
        let y = grows n (note t vs) ts (new_var t) x in
        let w : var_of n (merge (note t vs) ts) ≡ some v = q in
        let z : grown n ts (new_var t) ≡ v = cc in
        rw (← z) (declared-first n t ts p)
    go (wasnt p) rec = makes_other n t ts v p (rec (var_note n t vs ∙ (rw (p, e) refl)) q)

-- a block's own variables
pub makes_block : (n : ℕ) (ts : List Target) (v : Var) → var_of n (merge [] ts) ≡ some v → Makes none ts n v
makes_block n ts v q = makes_none n [] ts v (unfold var_of first in refl) q

-- the module's: an entry's, grown, or else as in any block
var_entry : (n : ℕ) (es : List Entry) → var_of n (map entry_var es) ≡ map_o entry_var (entry_of n es)
unfolding var_of entry_of first entry_var
var_entry n [] = unfold map_o in refl
var_entry n (e ∷ es) = ap (cond (eqb e.name n) (some (entry_var e))) (var_entry n es) ∙ sym (map_o_cond entry_var (eqb e.name n) e (entry_of n es))

-- bound at all
none-bound : (n : ℕ) (ts : List Target) → bound n ts ≡ 0 → first_looped n ts ≡ false
unfolding bound count first_looped first looped
none-bound n [] e = refl
none-bound n (t ∷ ts) e = go (tested (eqb t.name n)) e (λ z. none-bound n ts z)
  where
    go : Tested (eqb t.name n) → cond (eqb t.name n) (suc (bound n ts)) (bound n ts) ≡ 0 → (bound n ts ≡ 0 → first_looped n ts ≡ false) → looped (cond (eqb t.name n) (some t) (first (λ (t : Target). eqb t.name n) ts)) ≡ false
    go (was p) z rec = absurd (let y : suc (bound n ts) ≡ 0 = rw p at z in omega arith)
    go (wasnt p) z rec = rw p (rec (rw p at z))

any_entry : (m : ℕ) (b : Bool) → (m ≡ 0 → b ≡ false) → leb 1 m ≡ (leb 2 (1 + m) || b)
any_entry m b h = go m h ∙ ap (λ x. x || b) (sym (ap (leb 2) (plus_one m) ∙ leb-suc-suc 1 m))
  where
    plus_one : (m : ℕ) → 1 + m ≡ suc m
    plus_one m = omega arith

    go : (m : ℕ) → (m ≡ 0 → b ≡ false) → leb 1 m ≡ (leb 1 m || b)
    go zero h = rw (leb-suc-zero 0, h refl) refl
    go (suc m) h = rw (leb-suc-suc 0 m, leb-zero m) refl

makes_grown : (n : ℕ) (e : Entry) (ts : List Target) → e.name ≡ n → Makes (some e) ts n (grown n ts (entry_var e))
unfolding grown entry_var source_of is_entry entry_public bit
makes_grown n e ts q = record { name_is = q; source_is = refl; entry_is = refl; public_is = refl; any_is = any_entry (bound n ts) (first_looped n ts) (none-bound n ts) }

pub makes_module : (n : ℕ) (es : List Entry) (ts : List Target) (v : Var) → var_of n (merge (map entry_var es) ts) ≡ some v → Makes (entry_of n es) ts n v
makes_module n es ts v q = go (opened (entry_of n es))
  where
    go : Opened (entry_of n es) → Makes (entry_of n es) ts n v
    go (absent e) = rw e (makes_none n (map entry_var es) ts v (var_entry n es ∙ (rw e (unfold map_o in refl))) q)
    go (present x e) =
        let r = first-at (λ (y : Entry). eqb y.name n) es x (unfold entry_of in e) in
        let y = grows n (map entry_var es) ts (entry_var x) (var_entry n es ∙ (rw e (unfold map_o in refl))) in
        let z : grown n ts (entry_var x) ≡ v = cc in
        rw (e, ← z) (makes_grown n x ts (eqb-true x.name n r.2))
