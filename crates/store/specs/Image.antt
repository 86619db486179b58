-- How the state of `lexical`'s walks stands in the working lists: each of its lists in a section, in order, then zeros.
use Rattle.std.specs.Prelude.{ℕ, suc, ◌<◌, ◌≤◌, ◌≡◌, Bool, true, cond, List, [], ◌∷◌, eqb, length, get_or, take}
use Rattle.std.proofs.Math.Option.{some}
use Rattle.std.proofs.Math.ListN.{get_elem?}
use Rattle.lexical.specs.State.{Binding, Slot, Copy, Event, Named, St}
use Rattle.lexical.specs.Block.{fresh_in}
use Rattle.lexical.specs.Records as rec
use Rattle.lexical.proofs.Laws.Adds.{AllBelow}
use Rattle.store.specs.declared.ids.State.{State}
use Rattle.store.specs.Sections.{Mem, Point, word_at, or_zero, slots_at, copies_at, errors_at, scopes_at, owner_at, tail_at, back_at, num_at}
use Rattle.store.specs.Words.{row_node, row_word, bind_word, slot_word, error_word, copy_word, pair_word}

-- ---- bindings

-- what is known of binding i
pub record Sound (i : ℕ) (b : Binding) : Type 0 where
  pub id : b.id ≡ i
  pub name : b.var.name < 1024
  pub source : b.var.source < 65536
  pub owner : b.owner < 256
  pub slot : b.slot < 32768
  pub local_slot : b.local ≡ true → b.slot < 4096

-- cap: which bindings count as captured
pub record MadeIn (bs : List Binding) (cap : ℕ → Bool) (binds t : List ℕ) : Type 0 where
  pub words : Point binds 0 2304 (word_at (bind_word cap) bs)
  pub owners : Point t owner_at 2304 (word_at (λ (b : Binding). b.owner) bs)
  pub few : length bs ≤ 2304
  pub sound : (i : ℕ) (b : Binding) → get_elem? bs i ≡ some b → Sound i b

-- ---- slots

-- one more than the place of the last slot that holds binding i; 0 if there is none
unfoldable pub last_from : ℕ → ℕ → ℕ → List Slot → ℕ
last_from i k last [] = last
last_from i k last (r ∷ rs) = last_from i (suc k) (cond (eqb r.id i) (suc k) last) rs

abbrev pub last_of : ℕ → List Slot → ℕ
last_of i rs = last_from i 0 0 rs

-- the same among the slots before place k, for the binding that slot k holds
unfoldable pub before : List Slot → ℕ → ℕ
before rs k = or_zero (λ (r : Slot). last_of r.id (take k rs)) (get_elem? rs k)

-- P: each scope's parameter variables
pub record SlotsIn (rs : List Slot) (P : ℕ → ℕ) (w t : List ℕ) : Type 0 where
  pub rows : Point w slots_at 4096 (word_at slot_word rs)
  pub scopes : Point w scopes_at 256 (λ s. pair_word (P s) (fresh_in s rs))
  pub nums : Point t num_at 4096 (word_at (λ (r : Slot). r.num) rs)
  pub back : Point t back_at 4096 (before rs)
  pub tail : Point t tail_at 2304 (λ i. last_of i rs)
  pub few : length rs ≤ 4096
  pub params : (s : ℕ) → s < 256 → P s < 65536
  pub sound : (k : ℕ) (r : Slot) → get_elem? rs k ≡ some r → (r.scope < 256) × (r.num < 4096) × (r.name < 65536)

-- ---- copies and errors

pub record CopiesIn (cs : List Copy) (w : List ℕ) : Type 0 where
  pub rows : Point w copies_at 4096 (word_at copy_word cs)
  pub few : length cs ≤ 4096

pub record ErrorsIn (es : List (List ℕ)) (w : List ℕ) : Type 0 where
  pub rows : Point w errors_at 2048 (word_at error_word es)
  pub few : length es ≤ 2048

-- ---- nodes

-- the rows for nodes: of Names and of Idents; M: the module's bindings
pub data RowOf (M : List Binding) (named : List Named) (log : List Event) (row : List ℕ) : Type 0 where
  name_row_lem : (j : ℕ) (x : Named) → get_elem? named j ≡ some x → row ≡ rec.name_row x.node x.of → RowOf M named log row
  ident_row : (j : ℕ) → get_elem? (rec.answers M log) j ≡ some row → RowOf M named log row

-- what node i's place holds: a row for it, or 0 where there is none
pub data HeldAt (R : List ℕ → Type 0) (i x : ℕ) : Type 0 where
  held : (row : List ℕ) → R row → row_node row ≡ i → x ≡ row_word row → HeldAt R i x
  none-held : ((row : List ℕ) → R row → row_node row ≡ i → ⊥) → x ≡ 0 → HeldAt R i x

abbrev pub NodesIn : List Binding → List Named → List Event → List ℕ → Type 0
NodesIn M named log w = (i : ℕ) → i < 2048 → HeldAt (RowOf M named log) i (get_or w i 0)

-- ---- all of it

pub record Image (M : List Binding) (P : ℕ → ℕ) (cap : ℕ → Bool) (st : St) (s : State) (m : Mem) : Type 0 where
  pub made : MadeIn st.made cap m.binds m.t
  pub slots : SlotsIn st.slots P m.w m.t
  pub copies : CopiesIn st.copies m.w
  pub errors : ErrorsIn (rec.errors st.log) m.w
  pub nodes : NodesIn M st.named st.log m.w
  pub bindings_are : s.bindings ≡ length st.made
  pub slots_are : s.slots ≡ length st.slots
  pub copies_are : s.copies ≡ length st.copies
  pub errors_are : s.errors ≡ length (rec.errors st.log)
  pub copies_fit : length st.copies ≤ length st.slots
  pub log_below : AllBelow (length st.made) st.log
