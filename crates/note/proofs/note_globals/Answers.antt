-- `note_globals` meets its contract: the first k globals are noted.
use Prim.Native.Nat.{ℕ, ◌+◌, ◌<◌}
use mathlib.Core.Path.{◌≡◌, refl, sym, ap, ap₂, ◌∙◌, subst}
use mathlib.Core.List.{List, [], ◌∷◌, ◌++◌}
use native.Mathlib.Omega.{arith}
use native.Mathlib.Numerals.{add-one}
use borrow.Author.Tests.{ne_eqb}
use lib.ListN.{get_or, set}
use lib.Seq.{set-get_or}
use Rattle.base.specs.UpTo.{up_to, up_to_snoc, up_to_length}
use Rattle.nodefile.specs.Layout.{globals_of}
use Rattle.nodefile.specs.Lists.{global_name}
use Rattle.note.specs.Noted.{NumbersNoted, unless_noted}
use Rattle.note.proofs.Filling.{numbers-none, numbers_more}
use Rattle.note.proofs.note_globals.Goals as goal
use Rattle.note.proofs.note_globals.Goals.{then-t-name-eq0, else-t-name-eq0}

pub loop-k-init : goal.loop-k-init
unfolding up_to
loop-k-init c = numbers-none 2048 _ c.requires.1

pub loop-k-preserved : goal.loop-k-preserved
loop-k-preserved c =
    let l = c.loop-k in
    let x = c.global_name-name.result in
    let f = global_name (globals_of c.args.file.now) in
    let old = get_or l.t (2048 + x) 0 in
    let named : x ≡ f l.k = c.global_name-name.ensures.is ∙ ap (λ (gs : List ℕ). global_name gs l.k) c.globals-gs.ensures in
    let low : x < 1024 = rw named (c.requires.0.global_name_lem l.k (omega (arith, c.global_count-n.ensures.is))) in
    let e : up_to f (l.k + 1) ≡ up_to f l.k ++ (x ∷ []) = ap (up_to f) (add-one l.k) ∙ up_to_snoc f l.k ∙ ap (λ (y : ℕ). up_to f l.k ++ (y ∷ [])) (sym named) in
    let more : (v : ℕ) → v ≡ unless_noted old (l.k + 1) → NumbersNoted 2048 (up_to f (l.k + 1)) c.args.t.now (set l.t (2048 + x) v) = (
    λ v h. subst (λ (xs : List ℕ). NumbersNoted 2048 xs c.args.t.now (set l.t (2048 + x) v)) (sym e)
    (numbers_more (up_to f l.k) x v l.invariant low (omega arith) (h ∙ ap₂ unless_noted (l.invariant.here x low) (ap (λ (n : ℕ). n + 1) (sym (up_to_length f l.k)))))
    ) in
    elim c.if-t-name-eq0.branch [
      | then-t-name-eq0 w ↦ rw w.t-is (more (l.k + 1) (rw w.if-t-name-eq0.true refl))
      | else-t-name-eq0 w ↦ rw w.t-is (subst (NumbersNoted 2048 (up_to f (l.k + 1)) c.args.t.now) (set-get_or l.t (2048 + x) 0) (more old (rw (ne_eqb _ _ w.if-t-name-eq0.false) refl)))
    ]
