-- `note_lists` meets its contract: the file's lists, one after the other.
use Prim.Native.Nat.{ℕ, ◌+◌}
use mathlib.Core.Path.{◌≡◌, ap, ◌∙◌}
use native.Mathlib.Omega.{arith}
use lib.Dec.{eqb}
use lib.ListN.{get_or}
use Rattle.lexical.specs.Records.{bit}
use Rattle.store.proofs.Laws.Points.{Off}
use Rattle.note.proofs.Lists.{made_blank, clear_globals, all_noted}
use Rattle.note.proofs.note_lists.Goals as goal

pub note_entries-requires : goal.note_entries-requires
note_entries-requires c =
    let t = c.args.t.now in
    -- what is still zero
    let clear : (i : ℕ) → Off i 2048 2048 → (i ≡ 20863 → ⊥) → get_or c.note_globals.new.t i 0 ≡ 0 =
    clear_globals t c.from.result c.requires.2 c.args.file.now c.note_hidden.ensures c.note_globals.ensures
    in (
      c.requires.0,
      c.requires.3,
      made_blank _ _ c.requires.1 (λ i b. clear (7424 + i) (λ j d. omega arith) (omega arith)),
      λ i b. clear (1024 + i) (λ j d. omega arith) (omega arith),
    )

pub returns : goal.returns
unfolding bit
returns c =
    λ root. all_noted c.args.t.now c.from.result c.requires.2 c.args.file.now c.note_hidden.ensures c.note_globals.ensures root
    c.note_entries.ensures.0 (c.from.ensures ∙ ap (λ (x : ℕ). bit (eqb x 1)) c.reexport.ensures.is) (omega arith) (c.note_entries.ensures.1 root)
