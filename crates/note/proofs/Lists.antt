-- The file's lists, noted one after the other in a list t that was all zero: what is still zero after each, and all of them at the end.
use Prim.Native.Nat.{ℕ, ◌+◌, ◌<◌}
use mathlib.Core.Path.{◌≡◌, refl, sym, ◌∙◌}
use mathlib.Core.Bool.{false}
use mathlib.Core.List.{List, []}
use native.Mathlib.Omega.{arith}
use lib.Dec.{eqb}
use lib.ListN.{length, get_or, set}
use lib.Seq.{get_or-set_same, get_or-set_other}
use Rattle.lexical.specs.Tree.{Forest}
use Rattle.lexical.specs.Binders.{load_shown}
use Rattle.lexical.specs.Records.{bit}
use Rattle.nodefile.specs.Layout.{reexport, entry_count, global_count}
use Rattle.nodefile.specs.FileOf.{file_of}
use Rattle.nodefile.proofs.Laws.FileLaws.{entries_count}
use Rattle.store.specs.Sections.{or_zero}
use Rattle.store.specs.Image.{MadeIn}
use Rattle.store.specs.Blocks.{module_block, vars_of}
use Rattle.store.proofs.Laws.Points.{Off, Zeros}
use Rattle.store.proofs.Laws.Made.{made_none}
use Rattle.note.specs.Filled.{Blank}
use Rattle.note.specs.Noted.{HiddenNoted, NumbersNoted, globals_up_to, Entered, Noted}

-- no binding yet
pub made_blank : (binds t : List ℕ) → Zeros binds → Blank 7424 2304 t → MadeIn [] (λ _. false) binds t
unfolding or_zero
made_blank binds t z b = let m = made_none (λ _. false) binds [] z (λ i. refl) in record { words = m.words; owners = b; few = m.few; sound = m.sound }

module _ (t : List ℕ) (v : ℕ) (z : Zeros t) where
  -- after the flag
  pub clear_flag : (i : ℕ) → (i ≡ 20863 → ⊥) → get_or (set t 20863 v) i 0 ≡ 0
  clear_flag i h = get_or-set_other t 20863 i v 0 h ∙ z i

  module _ {t₁ : List ℕ} (bs : List ℕ) (a : HiddenNoted bs (set t 20863 v) t₁) where
    -- after the hidden names
    pub clear_hidden : (i : ℕ) → Off i 3072 1024 → (i ≡ 20863 → ⊥) → get_or t₁ i 0 ≡ 0
    clear_hidden i o h = a.other i o ∙ clear_flag i h

    module _ {t₂ : List ℕ} (b : NumbersNoted 2048 (globals_up_to bs (global_count bs)) t₁ t₂) where
      -- after the globals
      pub clear_globals : (i : ℕ) → Off i 2048 2048 → (i ≡ 20863 → ⊥) → get_or t₂ i 0 ≡ 0
      clear_globals i o h = b.other i (λ j c. o j (omega arith)) ∙ clear_hidden i (λ j c e. o (1024 + j) (omega arith) (omega arith)) h

      -- after the entries
      pub all_noted : {n : ℕ} {binds t₃ : List ℕ} (root : Forest) → n ≡ entry_count bs → v ≡ bit (eqb (reexport bs) 1) → 20863 < length t
          → Entered (module_block (file_of bs root)) (vars_of (module_block (file_of bs root)) []) t₂ binds t₃ → Noted (file_of bs root) n binds t₃
      all_noted {n} {binds} {t₃} root e q l p = record {
        count = e ∙ sym (entries_count bs root);
        made = p.made;
        names = record {
          in_module = p.names.here;
          in_globals = λ i c. p.names.other (2048 + i) (λ j d. omega arith) ∙ b.here i c;
          hidden = λ i c. p.names.other (3072 + i) (λ j d. omega arith) ∙ b.other (3072 + i) (λ j d. omega arith) ∙ a.here i c;
          shown = p.names.other 20863 (λ j d. omega arith) ∙ b.other 20863 (λ j d. omega arith) ∙ a.other 20863 (λ j d. omega arith) ∙ get_or-set_same t 20863 v 0 l ∙ (unfold load_shown in q);
        };
        clear_low = λ i h. p.names.other i (λ j d. omega arith) ∙ clear_globals i (λ j d. omega arith) (omega arith);
        clear_high = λ i g h. p.names.other i (λ j d. omega arith) ∙ clear_globals i (λ j d. omega arith) (omega arith);
      }
