-- `note_hidden` meets its contract: the names before the k-th are noted; a name past the file's has an empty spelling, and its place is 0 already.
use Prim.Native.Nat.{ℕ, ◌+◌, ◌*◌, ◌≤◌}
use mathlib.Core.Path.{◌≡◌, refl, sym, ap, ap₂, ◌∙◌}
use mathlib.Core.List.{List}
use native.Mathlib.Omega.{arith}
use native.Mathlib.Nat.{min-le_left}
use lib.ListN.{length, length-take}
use Rattle.bits.proofs.FieldLaws.{field_past}
use Rattle.lexical.specs.Records.{bit}
use Rattle.nodefile.specs.Layout.{name_count, names_of}
use Rattle.nodefile.specs.Lists.{name_len, hidden}
use Rattle.nodefile.specs.FileOf.{name_rules}
use Rattle.note.proofs.Filling.{filled_push, filled_wide}
use Rattle.note.proofs.note_hidden.Goals as goal

hidden-past : (bs : List ℕ) (i : ℕ) → name_count bs ≤ i → bit ((name_rules bs).hidden i) ≡ 0
unfolding bit
hidden-past bs i h = let e : name_len (names_of bs) i ≡ 0 = field_past (names_of bs) (24 * i + 16) 8 (omega (arith, short)) in rw e refl
  where
    short : length (names_of bs) ≤ 3 * name_count bs
    short = rw length-take (min-le_left _ _)

pub loop-k-preserved : goal.loop-k-preserved
unfolding bit
loop-k-preserved c =
    filled_push c.loop-k.invariant _ (omega (arith, c.requires.0.names, c.name_count-n.ensures.is))
    (c.from.ensures ∙ ap bit (c.hidden.ensures ∙ ap₂ (λ (a b : List ℕ). hidden a b c.loop-k.k) c.names-nm.ensures c.pool-pool.ensures))

pub returns : goal.returns
returns c =
    let n = c.name_count-n.ensures.is in
    filled_wide c.loop-k.invariant 1024 (omega (arith, c.requires.0.names)) (λ i h b. c.requires.1 i b ∙ sym (hidden-past _ i (omega arith)))
