-- Number 11 asks for the names of Params by number: after 7 and 8 each Param's Name has one below the count of names.
use Prim.Native.Nat.{ℕ, suc, ◌+◌, ◌-◌, ◌*◌, ◌≤◌, ◌<◌}
use mathlib.Core.Path.{◌≡◌, sym, ap, ◌∙◌, subst}
use mathlib.Core.Bool.{true, ◌&&◌}
use mathlib.Core.Logic.{◌⊎◌, inl, inr}
use mathlib.Core.List.{List, ◌∷◌}
use native.Mathlib.Omega.{arith}
use borrow.Author.Tests.{leb-true, eqb-true, ltb-true}
use lib.Dec.{leb, eqb, ltb}
use lib.ListN.{length, drop}
use Rattle.bits.proofs.FieldLaws.{field-take}
use Rattle.lexical.specs.Places.{In}
use Rattle.lexical.specs.Table.{row, within, head_in, is_empty, matches, allowed}
use Rattle.nodefile.specs.Node.{kind_of, size_of, value_of, below}
use Rattle.nodefile.specs.Kids.{kids_cons}
use Rattle.nodefile.specs.Trees.{stretch}
use Rattle.nodefile.proofs.Laws.Trees.{stretch-length, stretch_size, stretch-after, below_at}
use Rattle.base.specs.Says.{unless, holds}
use Rattle.shape.specs.Nodes.{at, has_name, BadNodes, no_such_name, Sound, sound}
use Rattle.shape.specs.Children.{BadChildren, other_children}
use Rattle.scoping.specs.Params.{named, param_name, ParamNames, no_params_lem, param, other}
use Rattle.scoping.specs.Inside.Naming.{AllKnown}
use Rattle.lexical.proofs.Theory.Slots.{both_true}

-- a Param's first child is a Name
param_first : (k : ℕ) (ks : List ℕ) → allowed 17 (k ∷ ks) ≡ true → k ≡ 8
unfolding allowed row matches head_in within is_empty
param_first k ks e = let h = both_true (leb 8 k) (leb k 8) (both_true (leb 8 k && leb k 8) _ e).0 in omega (arith, leb-true 8 k h.0, leb-true k 8 h.1)

module _ (names : ℕ) (ns : List ℕ) (seven : BadNodes names ns → ⊥) (eight : BadChildren ns → ⊥) where
  ok : Sound ns
  ok = sound names ns seven

  -- the Name of a Param
  name_known : (a : ℕ) → 8 * a < length ns → kind_of (at ns a) ≡ 17 → 1 < size_of (at ns a) → value_of (at ns (a + 1)) < names
  name_known a l e m =
      let inside = ok.inside a l in
      let here : 8 * (a + 1) < length ns = omega arith in
      let f = ok.fits a l in
      let k = kids_cons f.1 (omega (arith, ap length (below_at ns a), stretch-length ns (a + 1) (size_of (at ns a) - 1) (omega arith))) in
      let row : allowed 17 f.0 ≡ true = subst (λ (x : ℕ). allowed x f.0 ≡ true) e (holds (allowed (kind_of (at ns a)) f.0) (λ q. eight (other_children a l f.0 f.1 q))) in
      let first : kind_of (below (at ns a)) ≡ 8 = param_first (kind_of (below (at ns a))) k.0 (subst (λ (x : List ℕ). allowed 17 x ≡ true) k.1 row) in
      let kind : kind_of (at ns (a + 1)) ≡ 8 = sym (field-take (at ns (a + 1)) (8 * (size_of (at ns a) - 1)) 0 5 (omega arith)) ∙ sym (ap kind_of (below_at ns a)) ∙ first in
      unless (suc (value_of (at ns (a + 1)))) names seven (λ q. no_such_name (a + 1) here (ap has_name kind) (omega arith))

  -- the first node of a stretch is a Param with a Name
  first_known : (a m : ℕ) (t : List ℕ) → t ≡ stretch ns a m → 8 * (a + m) ≤ length ns → 0 < size_of t → size_of t ≤ m → named t ≡ true → param_name t < names
  first_known a m t e l z b n =
      let h = both_true (eqb (kind_of t) 17) (ltb 1 (size_of t)) n in
      let more : 1 < size_of t = ltb-true 1 (size_of t) h.1 in
      let kind : kind_of (at ns a) ≡ 17 = sym (field-take (at ns a) (8 * m) 0 5 (omega arith)) ∙ sym (ap kind_of e) ∙ eqb-true (kind_of t) 17 h.0 in
      let size : size_of t ≡ size_of (at ns a) = ap size_of e ∙ stretch_size ns a m (omega arith) in
      let next : param_name t ≡ value_of (at ns (a + 1)) = ap (λ (u : List ℕ). value_of (drop 8 u)) e ∙ ap value_of (stretch-after ns a m 1) ∙ field-take (at ns (a + 1)) (8 * (m - 1)) 24 16 (omega arith) in
      omega (arith, name_known a (omega arith) kind (omega arith))

  known_in : {t vs : List ℕ} → ParamNames t vs → (a m : ℕ) → t ≡ stretch ns a m → 8 * (a + m) ≤ length ns → (v : ℕ) → In v vs → v < names
  known_in no_params_lem a m e l v i = absurd i
  known_in (param {t = t} {vs = vs} z b n p) a m e l v i = pick i (λ j. known_in p (a + size_of t) (m - size_of t) (ap (drop (8 * size_of t)) e ∙ stretch-after ns a m (size_of t)) (omega (arith, within)) v j)
    where
      within : size_of t ≤ m
      within = omega (arith, ap length e, stretch-length ns a m l)

      pick : (v ≡ param_name t) ⊎ In v vs → (In v vs → v < names) → v < names
      pick (inl q) r = omega (arith, first_known a m t e l z within n)
      pick (inr j) r = r j
  known_in (other {t = t} z b n p) a m e l v i =
      let within : size_of t ≤ m = omega (arith, ap length e, stretch-length ns a m l) in
      known_in p (a + size_of t) (m - size_of t) (ap (drop (8 * size_of t)) e ∙ stretch-after ns a m (size_of t)) (omega arith) v i

  pub all_known : names ≤ 1024 → AllKnown ns
  all_known few i s =
      record {
        fits = ok.fits i s.inside;
        names = λ vs p v m. omega (arith, known_in p (i + 1) (size_of (at ns i) - 1) (below_at ns i) (omega (arith, ok.inside i s.inside, ok.some i s.inside)) v m);
      }
