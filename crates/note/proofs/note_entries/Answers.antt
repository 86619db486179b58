-- `note_entries` meets its contract: the first k entries are noted.
use Prim.Native.Nat.{ℕ, ◌≤◌, ◌<◌}
use mathlib.Core.Path.{refl, ap, ◌∙◌}
use mathlib.Core.List.{List}
use native.Mathlib.Omega.{arith}
use lib.Dec.{eqb}
use lib.ListN.{length, length-set}
use Rattle.base.specs.UpTo.{up_to}
use Rattle.nodefile.specs.Layout.{entry_count}
use Rattle.nodefile.specs.Lists.{entry_name, entry_public, entry_slot}
use Rattle.nodefile.specs.FileOf.{file_of}
use Rattle.note.proofs.Entries.{entered-none, EntryRead, entries_more, entries_all}
use Rattle.note.proofs.note_entries.Goals as goal

pub loop-k-init : goal.loop-k-init
unfolding up_to
loop-k-init c =
    (refl, λ root. entered-none (file_of c.args.file.now root) _ _ c.requires.2 c.requires.3)

pub loop-k-preserved : goal.loop-k-preserved
loop-k-preserved c =
    let bs = c.args.file.now in
    let l = c.loop-k in
    let stored = c.put_binding.ensures in
    let e = c.entries-es.ensures in
    let inside : l.k < entry_count bs = omega (arith, c.entry_count-n.ensures.is) in
    let read : EntryRead bs l.k c.entry_name-name.result c.entry_slot-slot.result (eqb c.entry_public-public.result 1) =
    record {
      name_is = c.entry_name-name.ensures.is ∙ ap (λ (es : List ℕ). entry_name es l.k) e;
      public_is = ap (λ (x : ℕ). eqb x 1) (c.entry_public-public.ensures.is ∙ ap (λ (es : List ℕ). entry_public es l.k) e);
      slot_is = c.entry_slot-slot.ensures.is ∙ ap (λ (es : List ℕ). entry_slot es l.k) e;
      slot_low = c.entry_slot-slot.ensures.below;
    }
    in
    let long : 2304 ≤ length l.binds = omega (arith, c.requires.0, l.invariant.0) in (
      rw stored (simp length-set l.invariant.0),
      λ root. rw (stored, c.put_known.ensures) (entries_more bs root l.k (l.invariant.1 root) _ _ _ c.requires.1 inside read long c.told-t),
    )

pub returns : goal.returns
returns c =
    (c.entry_count-n.ensures.is, λ root. entries_all c.args.file.now root c.loop-k.k (c.loop-k.invariant.1 root) (omega (arith, c.entry_count-n.ensures.is)))
