-- The module entries while they are noted, one after the other: each makes a binding, whose owner's place is 0 already, and gives its name a number.
use Prim.Native.Nat.{ℕ, zero, suc, ◌+◌, ◌≤◌, ◌<◌}
use mathlib.Core.Path.{◌≡◌, refl, sym, ap, ◌∙◌}
use mathlib.Core.Bool.{Bool, true, false, true≢false}
use mathlib.Core.List.{List, [], ◌∷◌, ◌++◌, map, map-append}
use mathlib.Core.Option.{none, some}
use native.Mathlib.Omega.{arith}
use native.Mathlib.Numerals.{add-one}
use lib.Dec.{eqb}
use lib.ListN.{length, set, get_elem?, length-map}
use lib.Seq.{set-get_or}
use Rattle.base.specs.UpTo.{up_to, up_to_snoc, up_to_length}
use Rattle.lexical.specs.Lists.{place, map_o, eqb-not}
use Rattle.lexical.specs.Tree.{Forest}
use Rattle.lexical.specs.Binders.{Var, merge}
use Rattle.lexical.specs.Module.{Entry, File, entry_var}
use Rattle.lexical.specs.State.{Binding}
use Rattle.lexical.specs.First.{module_binding}
use Rattle.lexical.specs.Records.{bit}
use Rattle.nodefile.specs.Layout.{entry_count, entries_of}
use Rattle.nodefile.specs.Lists.{entry_name, entry_public, entry_slot}
use Rattle.nodefile.specs.FileOf.{entry_of, file_of}
use Rattle.nodefile.proofs.Laws.FileLaws.{entries_at}
use Rattle.store.specs.Sections.{plus, or_zero}
use Rattle.store.specs.Words.{binding_word}
use Rattle.store.specs.Image.{Sound, MadeIn}
use Rattle.store.specs.Blocks.{module_block, placed_from, vars_of, titles}
use Rattle.store.proofs.Laws.Points.{past}
use Rattle.store.proofs.Laws.Made.{made_skip, made_push}
use Rattle.store.proofs.Laws.Placed.{placed_length, placed_snoc, placed_entry}
use Rattle.note.specs.Filled.{Blank}
use Rattle.note.specs.Noted.{ListsOk, Entered}
use Rattle.note.proofs.Filling.{numbers-none, numbers_more}

-- an entry whose name no entry before it has
pub name_new : (n : ℕ) (f : ℕ → Entry) (k : ℕ) → ((j : ℕ) → j < k → (f j).name ≡ n → ⊥) → place n (titles (map entry_var (up_to f k))) ≡ none
unfolding up_to place map_o entry_var
name_new n f zero h = refl
name_new n f (suc k) h = rw (eqb-not (f 0).name n (h 0 (omega arith)), name_new n (λ j. f (suc j)) k (λ j b. h (suc j) (omega arith))) refl

pub entered-none : (F : File) (binds t : List ℕ) → MadeIn [] (λ _. false) binds t → Blank 1024 1024 t → Entered (module_block F) [] t binds t
unfolding placed_from
entered-none F binds t m z = record { made = m; names = numbers-none 1024 t z }

module _ (F : File) {vs : List Var} {t₀ binds t : List ℕ} (p : Entered (module_block F) vs t₀ binds t) (long : 2304 ≤ length binds) (long-t : length t₀ ≡ 20864) where
  -- no binding has its number yet
  free : (i : ℕ) → i ≡ length (placed_from (module_block F) 0 vs) → i < 2304 → set t (7424 + i) 0 ≡ t
  unfolding or_zero
  free i e h = ap (set t (7424 + i)) (sym (p.made.owners i h ∙ ap (or_zero _) (past (placed_from (module_block F) 0 vs) i (omega arith)))) ∙ set-get_or t (7424 + i) 0

  module _ (k : ℕ) (e : Entry) (count : k ≡ length vs) (at : get_elem? F.entries k ≡ some e) where
    abbrev entry_binding : Binding
    entry_binding = module_binding k (entry_var e) e.slot

    entry_placed : placed_from (module_block F) 0 (vs ++ (entry_var e ∷ [])) ≡ placed_from (module_block F) 0 vs ++ (entry_binding ∷ [])
    entry_placed = placed_snoc (module_block F) vs (entry_var e) ∙ (rw (← count, placed_entry F k e (entry_var e) at) refl)

    entry_sound : e.name < 1024 → e.slot < 32768 → Sound k entry_binding
    unfolding module_binding entry_var
    entry_sound n s = record { id = refl; name = n; source = omega arith; owner = omega arith; slot = s; local_slot = λ q. absurd (true≢false (sym q)) }

    module _ (h : k < 256) (n : e.name < 1024) (s : e.slot < 32768) where
      abbrev entry_word : ℕ
      entry_word = binding_word e.name 65535 (bit true) (bit e.public) (bit false) 0 (bit false) e.slot

      entry_made : MadeIn (placed_from (module_block F) 0 (vs ++ (entry_var e ∷ []))) (λ _. false) (set binds k entry_word) t
      unfolding module_binding entry_var
      entry_made =
          rw entry_placed (rw (free k same (omega arith)) at (made_push p.made long (p.names.long ∙ long-t) k entry_binding same (omega arith) (entry_sound n s) refl))
        where
          same : k ≡ length (placed_from (module_block F) 0 vs)
          same = count ∙ sym (placed_length (module_block F) 0 vs)

      -- one more: `put_binding` and `put_known`
      pub entered_more : place e.name (titles vs) ≡ none → Entered (module_block F) (vs ++ (entry_var e ∷ [])) t₀ (set binds k entry_word) (set t (1024 + e.name) (k + 1))
      unfolding entry_var plus
      entered_more new = record {
        made = made_skip entry_made (1024 + e.name) (k + 1) (omega arith);
        names = rw (map-append (λ (v : Var). v.name) vs (entry_var e ∷ [])) (numbers_more (titles vs) e.name (k + 1) p.names n (omega arith) (rw new (omega (arith, length-map vs (λ (v : Var). v.name)))));
      }

-- ---- the entries of a file's bytes

abbrev pub first_vars : List ℕ → ℕ → List Var
first_vars bs k = map entry_var (up_to (entry_of (entries_of bs)) k)

-- entry k as it was read
pub record EntryRead (bs : List ℕ) (k name slot : ℕ) (public : Bool) : Type 0 where
  pub name_is : name ≡ entry_name (entries_of bs) k
  pub public_is : public ≡ eqb (entry_public (entries_of bs) k) 1
  pub slot_is : slot ≡ entry_slot (entries_of bs) k
  pub slot_low : slot < 32768

module _ (bs : List ℕ) (root : Forest) (k : ℕ) {t₀ binds t : List ℕ} (p : Entered (module_block (file_of bs root)) (first_vars bs k) t₀ binds t) where
  first_more : first_vars bs (k + 1) ≡ first_vars bs k ++ (entry_var (entry_of (entries_of bs) k) ∷ [])
  first_more = rw (add-one k, up_to_snoc (entry_of (entries_of bs)) k) (map-append entry_var (up_to (entry_of (entries_of bs)) k) (entry_of (entries_of bs) k ∷ []))

  -- one more
  pub entries_more : (name slot : ℕ) (public : Bool) → ListsOk bs → k < entry_count bs → EntryRead bs k name slot public → 2304 ≤ length binds → length t₀ ≡ 20864
      → Entered (module_block (file_of bs root)) (first_vars bs (k + 1)) t₀ (set binds k (binding_word name 65535 (bit true) (bit public) (bit false) 0 (bit false) slot)) (set t (1024 + name) (k + 1))
  entries_more name slot public ok h r long long-t =
      let f = entry_of (entries_of bs) in
      rw (first_more, r.name_is, r.public_is, r.slot_is)
      (entered_more (file_of bs root) p long long-t k (f k) (omega (arith, length-map (up_to f k) entry_var, up_to_length f k)) (entries_at bs root k h)
      (omega (arith, ok.entries)) (ok.entry_name_lem k h) (omega (arith, r.slot_is, r.slot_low)) (name_new (f k).name f k (λ j b. ok.apart j k b h)))

  -- all of them: the module before its first target
  pub entries_all : k ≡ entry_count bs → Entered (module_block (file_of bs root)) (vars_of (module_block (file_of bs root)) []) t₀ binds t
  unfolding module_block merge
  entries_all e = rw e at p
