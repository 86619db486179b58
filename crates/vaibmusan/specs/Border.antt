-- What crosses to C in plain numbers: a name's spelling as a place in the file, and the end of a copy chain.
use Rattle.std.specs.Prelude.{ℕ, ◌+◌, ◌≤◌, ◌<◌, ◌≡◌, List, length, take, drop}
use Rattle.std.proofs.Common.{sym, ap, ap₂, ◌∙◌, arith}
use Rattle.std.proofs.Math.Decide.{ℕ_discrete}
use Rattle.base.specs.Parts.{part_length}
use Rattle.nodefile.specs.Layout.{pool_at, names_of}
use Rattle.nodefile.specs.Lists.{name_off}
use Rattle.judge.specs.Spelling.{Spelling, spelling_one}
use Rattle.follow.specs.declared.Place.{Place}
use Rattle.vaibmusan.specs.declared.Stretch.{Stretch}
use Rattle.vaibmusan.specs.declared.Home.{Home}

-- the stretch lies in the file, is the spelling of name k, and starts where the name's record says; at 0 where there is no spelling
pub record Stands (bs : List ℕ) (k : ℕ) (s : Stretch) : Type 0 where
  pub inside : s.offset + s.length ≤ length bs
  pub spelling : Spelling bs k (take s.length (drop s.offset bs))
  pub start : 0 < s.length → s.offset ≡ pool_at bs + name_off (names_of bs) k
  pub nowhere : s.length ≡ 0 → s.offset ≡ 0

abbrev pub stretch : ℕ → ℕ → Stretch
stretch o l = record { offset = o; length = l }

-- no second stretch fits
pub stands_one : {bs : List ℕ} {k : ℕ} {s t : Stretch} → Stands bs k s → Stands bs k t → s ≡ t
stands_one {bs} {k} {s} {t} a b =
    let long : s.length ≡ t.length = sym (part_length bs s.offset s.length a.inside) ∙ ap length (spelling_one a.spelling b.spelling) ∙ part_length bs t.offset t.length b.inside in
    ap₂ stretch (elim (ℕ_discrete s.length 0) [ yes e ↦ a.nowhere e ∙ sym (b.nowhere (sym long ∙ e)) | no n ↦ a.start (omega arith) ∙ sym (b.start (omega (arith, long))) ]) long

-- a place as two numbers
abbrev pub home_of : Place → Home
home_of p = record { scope = p.scope.0; slot = p.slot.0 }
