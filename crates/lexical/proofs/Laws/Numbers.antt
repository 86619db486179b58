-- Bindings stand at their numbers, slots too, scope by scope; a local's own slot is among the slots. Of every file.
use Rattle.std.proofs.Math.Path.{◌≡◌, refl, sym, ap}
use Rattle.std.proofs.Common.{◌∙◌, subst, inl, inr, arith}
use Rattle.std.specs.Prelude.{◌⊎◌, Bool, cond, ℕ, suc, ◌≤◌, ◌<◌, eqb, length}
use mathlib.Core.List.{append_assoc, List, [], ◌∷◌, ◌++◌, append-nil}
use Rattle.std.proofs.Math.Bool.{true, false}
use Rattle.std.proofs.Math.Option.{some}
use Rattle.std.proofs.Math.ListN.{get_elem?}
use Rattle.lexical.specs.Lists.{picked_snoc, picked-length, picked, count, none-some, eqb-true, Tested, was, wasnt, tested}
use Rattle.lexical.specs.Places.{all_snoc, All, all_none, at_snoc, at_append, at_end}
use Rattle.lexical.specs.Binders.{Var}
use Rattle.lexical.specs.Module.{File, module_vars}
use Rattle.lexical.specs.State.{Binding, Slot, St}
use Rattle.lexical.specs.Block.{in_scope, fresh_in, fresh, slot_for, new, add, naming}
use Rattle.lexical.specs.First.{start}
use Rattle.lexical.specs.Third.{copy_in, logged, resolved}
use Rattle.lexical.proofs.Theory.Every.{Kept, every}
use Rattle.lexical.proofs.Theory.Modules.{module_numbers}
use Rattle.lexical.proofs.Theory.Slots.{fresh_up, fresh_at}

-- every binding's number is its place
abbrev pub AtNumber : St → Type 0
AtNumber st = (i : ℕ) (b : Binding) → get_elem? st.made i ≡ some b → b.id ≡ i

pub numbers : Kept AtNumber
unfolding add new naming copy_in logged
numbers = record {
  adds = λ s v st h i b e. go s v st h i b (at_snoc st.made (new s v st) i b e);
  names = λ ts bs st h. h;
  copies = λ s b r h. h;
  logs = λ at n ss f st h. h;
}
  where
    go : (s : ℕ) (v : Var) (st : St) → AtNumber st → (i : ℕ) (b : Binding) → (get_elem? st.made i ≡ some b) ⊎ ((i ≡ length st.made) × (new s v st ≡ b)) → b.id ≡ i
    go s v st h i b (inl e) = h i b e
    go s v st h i b (inr e) = sym (ap (λ (x : Binding). x.id) e.1) ∙ sym e.0

pub made_at : (F : File) (i : ℕ) (b : Binding) → get_elem? (resolved F).made i ≡ some b → b.id ≡ i
made_at F = every AtNumber numbers F (unfold start in λ i b e. let h = module_numbers [] F.entries (module_vars F) i b e in omega (arith, h.0))

-- the slots of one scope, in order of making
unfoldable pub slots_of : ℕ → List Slot → List Slot
slots_of s rs = picked (in_scope s) (λ r. r) rs

pub slots_of_snoc : (s : ℕ) (rs : List Slot) (r : Slot) → slots_of s (rs ++ (r ∷ [])) ≡ slots_of s rs ++ cond (in_scope s r) (r ∷ []) []
unfolding slots_of
slots_of_snoc s rs r = picked_snoc (in_scope s) (λ r. r) rs r

pub slots_of_length : (s : ℕ) (rs : List Slot) → length (slots_of s rs) ≡ fresh_in s rs
unfolding slots_of fresh_in
slots_of_length s rs = picked-length (in_scope s) (λ r. r) rs

-- a scope has no more slots than there are
pub fresh_all : (s : ℕ) (rs : List Slot) → fresh_in s rs ≤ length rs
unfolding fresh_in count
fresh_all s [] = omega arith
fresh_all s (r ∷ rs) = go (in_scope s r) (fresh_all s rs)
  where
    go : (b : Bool) → count (in_scope s) rs ≤ length rs → cond b (suc (count (in_scope s) rs)) (count (in_scope s) rs) ≤ suc (length rs)
    go true h = omega arith
    go false h = omega arith

-- what one slot more keeps, numbered by its scope's count, every step keeps
pub kept_slots : (P : List Slot → Type 0) → ((rs : List Slot) (r : Slot) → P rs → r.num ≡ fresh_in r.scope rs → P (rs ++ (r ∷ []))) → Kept (λ st. P st.slots)
unfolding add new naming copy_in logged slot_for
kept_slots P more = record {
  adds = λ s v st h. more st.slots (slot_for s (fresh s st) (new s v st)) h refl;
  names = λ ts bs st h. h;
  copies = λ s b r h. more r.1.slots (slot_for s (fresh s r.1) b) h refl;
  logs = λ at n ss f st h. h;
}

-- the k-th slot of each scope has number k
abbrev pub Slotted : List Slot → Type 0
Slotted rs = (s k : ℕ) (r : Slot) → get_elem? (slots_of s rs) k ≡ some r → r.num ≡ k

slotted_snoc : (rs : List Slot) (r : Slot) → Slotted rs → r.num ≡ fresh_in r.scope rs → Slotted (rs ++ (r ∷ []))
slotted_snoc rs r h q s k x e = go (tested (in_scope s r)) (rw (slots_of_snoc s rs r) at e)
  where
    here : eqb r.scope s ≡ true → (get_elem? (slots_of s rs) k ≡ some x) ⊎ ((k ≡ length (slots_of s rs)) × (r ≡ x)) → x.num ≡ k
    here t (inl z) = h s k x z
    here t (inr z) = sym (ap (λ (y : Slot). y.num) z.1) ∙ q ∙ ap (λ t. fresh_in t rs) (eqb-true r.scope s t) ∙ sym (slots_of_length s rs) ∙ sym z.0

    go : Tested (in_scope s r) → get_elem? (slots_of s rs ++ cond (in_scope s r) (r ∷ []) []) k ≡ some x → x.num ≡ k
    go (was t) z = here (unfold in_scope in t) (at_snoc (slots_of s rs) r k x (rw t at z))
    go (wasnt t) z = h s k x (rw append-nil at (rw t at z))

pub slot_numbers : Kept (λ st. Slotted st.slots)
slot_numbers = kept_slots Slotted slotted_snoc

pub slot_at : (F : File) (s k : ℕ) (r : Slot) → get_elem? (slots_of s (resolved F).slots) k ≡ some r → r.num ≡ k
slot_at F = every (λ st. Slotted st.slots) slot_numbers F (unfold start slots_of picked in λ s k r e. absurd (none-some refl e))

-- a slot's number is below its scope's count
abbrev pub Under : List Slot → Type 0
Under rs = (j : ℕ) (r : Slot) → get_elem? rs j ≡ some r → r.num < fresh_in r.scope rs

pub under_snoc : (rs : List Slot) (r : Slot) → Under rs → r.num ≡ fresh_in r.scope rs → Under (rs ++ (r ∷ []))
under_snoc rs r h q j x e = go (at_snoc rs r j x e)
  where
    go : (get_elem? rs j ≡ some x) ⊎ ((j ≡ length rs) × (r ≡ x)) → x.num < fresh_in x.scope (rs ++ (r ∷ []))
    go (inl z) = omega (arith, h j x z, fresh_up x.scope rs r)
    go (inr z) = subst (λ (y : Slot). y.num < fresh_in y.scope (rs ++ (r ∷ []))) z.1 (omega (arith, q, fresh_at rs r))

pub slots_under : Kept (λ st. Under st.slots)
slots_under = kept_slots Under under_snoc

pub slot_below : (F : File) (j : ℕ) (r : Slot) → get_elem? (resolved F).slots j ≡ some r → r.num < fresh_in r.scope (resolved F).slots
slot_below F = every (λ st. Under st.slots) slots_under F (unfold start in λ j r e. absurd (none-some refl e))

pub slot_capacity : (F : File) (j : ℕ) (r : Slot) → get_elem? (resolved F).slots j ≡ some r → r.num < length (resolved F).slots
slot_capacity F j r e = omega (arith, slot_below F j r e, fresh_all r.scope (resolved F).slots)

-- a local's own slot stands among the slots
abbrev pub Owned : St → Type 0
Owned st = (i : ℕ) (b : Binding) → get_elem? st.made i ≡ some b → b.local ≡ true → (j : ℕ) × (get_elem? st.slots j ≡ some (slot_for b.owner b.slot b))

owned_more : (rs : List Slot) (r : Slot) (b : Binding) → (j : ℕ) × (get_elem? rs j ≡ some (slot_for b.owner b.slot b)) → (j : ℕ) × (get_elem? (rs ++ (r ∷ [])) j ≡ some (slot_for b.owner b.slot b))
owned_more rs r b (j, e) = (j, at_append rs (r ∷ []) j _ e)

pub owns : Kept Owned
unfolding add naming copy_in logged
owns = record {
  adds = λ s v st h i b e. go s v st h i b (at_snoc st.made (new s v st) i b e);
  names = λ ts bs st h. h;
  copies = λ s b r h i x e l. owned_more r.1.slots _ x (h i x e l);
  logs = λ at n ss f st h. h;
}
  where
    go : (s : ℕ) (v : Var) (st : St) → Owned st → (i : ℕ) (b : Binding) → (get_elem? st.made i ≡ some b) ⊎ ((i ≡ length st.made) × (new s v st ≡ b)) → b.local ≡ true
        → (j : ℕ) × (get_elem? (st.slots ++ (slot_for s (new s v st).slot (new s v st) ∷ [])) j ≡ some (slot_for b.owner b.slot b))
    go s v st h i b (inl e) l = owned_more st.slots _ b (h i b e l)
    go s v st h i b (inr e) l = (length st.slots, at_end st.slots _ ∙ (unfold new in ap (λ (x : Binding). some (slot_for x.owner x.slot x)) e.1))

pub own_slot : (F : File) (i : ℕ) (b : Binding) → get_elem? (resolved F).made i ≡ some b → b.local ≡ true → (j : ℕ) × (get_elem? (resolved F).slots j ≡ some (slot_for b.owner b.slot b))
own_slot F = every Owned owns F (unfold start in λ i b e l. absurd (let h = module_numbers [] F.entries (module_vars F) i b e in let z : true ≡ false = sym l ∙ h.1 in let y : ◌≡◌ {A = ℕ} 0 1 = cc in omega arith))

pub local_below : (F : File) (i : ℕ) (b : Binding) → get_elem? (resolved F).made i ≡ some b → b.local ≡ true → b.slot < fresh_in b.owner (resolved F).slots
local_below F i b e l = let h = own_slot F i b e l in unfold slot_for in slot_below F h.0 _ h.1

pub local_capacity : (F : File) (i : ℕ) (b : Binding) → get_elem? (resolved F).made i ≡ some b → b.local ≡ true → b.slot < length (resolved F).slots
local_capacity F i b e l = omega (arith, local_below F i b e l, fresh_all b.owner (resolved F).slots)

-- the module's bindings come first, and stay as walk one made them; all later ones are local
abbrev pub Begun : List Binding → St → Type 0
Begun bs st = (more : List Binding) × (st.made ≡ bs ++ more) × All (λ (b : Binding). b.local ≡ true) more

pub begins : (bs : List Binding) → Kept (Begun bs)
unfolding add naming copy_in logged
begins bs = record {
  adds = λ s v st h. (h.0 ++ (new s v st ∷ []), ap (λ l. l ++ (new s v st ∷ [])) h.1 ∙ append_assoc bs h.0 (new s v st ∷ []), all_snoc _ h.0 (new s v st) h.2 (unfold new in refl));
  names = λ ts cs st h. h;
  copies = λ s b r h. h;
  logs = λ at n ss f st h. h;
}

pub made_start : (F : File) → Begun (start F).made (resolved F)
made_start F = every (Begun (start F).made) (begins (start F).made) F ([], sym (append-nil (start F).made), all_none _)
