-- A spelling that is not empty, as a stretch of the file.
use Prim.Native.Nat.{ℕ, ◌+◌, ◌-◌, ◌≤◌, ◌<◌}
use mathlib.Core.Path.{◌≡◌, refl, sym, ap, ◌∙◌, subst}
use mathlib.Core.List.{List, [], ◌∷◌}
use native.Mathlib.Omega.{arith}
use lib.ListN.{length, take, drop}
use lib.Seq.{take-take, drop-drop}
use Rattle.base.specs.Parts.{drop-take, part_length}
use Rattle.nodefile.specs.Layout.{name_count, pool_at, pool_bytes, names_of, pool_of, pool_length}
use Rattle.nodefile.specs.Lists.{name_off, name_len}
use Rattle.judge.specs.Cond.{Judged}
use Rattle.judge.specs.Theorems.{accepted}
use Rattle.judge.specs.Spelling.{Spelling, known, refused, no_such_name}
use Rattle.vaibmusan.specs.Border.{Stands, stretch}

-- a part of a part
part-part : (s : List ℕ) (a n b k : ℕ) → b + k ≤ n → take k (drop b (take n (drop a s))) ≡ take k (drop (a + b) s)
part-part s a n b k h =
    ap (take k) (drop-take b n (drop a s)) ∙ take-take k (n - b) (drop b (drop a s)) (omega arith) ∙ ap (take k) (drop-drop b a s)

pub record Found (bs : List ℕ) (k : ℕ) (p : List ℕ) : Type 0 where
  pub total : length bs ≡ pool_at bs + length (pool_of bs)
  pub inside : name_off (names_of bs) k + length p ≤ length (pool_of bs)
  pub is : p ≡ take (length p) (drop (pool_at bs + name_off (names_of bs) k) bs)

pub found : {bs : List ℕ} {k : ℕ} {p : List ℕ} → Spelling bs k p → (length p ≡ 0 → ⊥) → Found bs k p
found (refused r g j e) n = absurd (n (ap length e))
found (no_such_name l e) n = absurd (n (ap length e))
found {bs} {k} {p} (known j l e) n =
    let a = accepted bs j in
    let off = name_off (names_of bs) k in
    let pool = pool_length bs a.header.total in
    let fits : off + name_len (names_of bs) k ≤ length (pool_of bs) = a.names.inside k l in
    let long : length p ≡ name_len (names_of bs) k = ap length e ∙ part_length (pool_of bs) off (name_len (names_of bs) k) fits in
    record {
      total = omega (arith, a.header.total, pool);
      inside = omega arith;
      is = e ∙ part-part bs (pool_at bs) (pool_bytes bs) off (name_len (names_of bs) k) (omega arith) ∙ ap (λ (m : ℕ). take m (drop (pool_at bs + off) bs)) (sym long);
    }

pub stands : {bs : List ℕ} {k o : ℕ} {p : List ℕ} → Spelling bs k p → (length p ≡ 0 → ⊥) → o ≡ length bs - length (pool_of bs) + name_off (names_of bs) k → Stands bs k (stretch o (length p))
stands {bs} {k} {o} {p} s n e =
    let f = found s n in
    let at : o ≡ pool_at bs + name_off (names_of bs) k = omega (arith, f.total) in
    record {
      inside = omega (arith, f.total, f.inside);
      spelling = subst (Spelling bs k) (f.is ∙ ap (λ (m : ℕ). take (length p) (drop m bs)) (sym at)) s;
      start = λ h. at;
      nowhere = λ z. absurd (n z);
    }

-- none at all
empty : (p : List ℕ) → length p ≡ 0 → p ≡ []
empty [] e = refl
empty (x ∷ p) e = absurd (omega arith)

pub stands_nowhere : {bs : List ℕ} {k : ℕ} {p : List ℕ} → Spelling bs k p → length p ≡ 0 → Stands bs k (stretch 0 0)
stands_nowhere {bs} {k} {p} s e = record { inside = omega arith; spelling = subst (Spelling bs k) (empty p e) s; start = λ h. absurd (omega arith); nowhere = λ z. refl }
