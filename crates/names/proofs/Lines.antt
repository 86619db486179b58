-- Number 6: the name numbers of a list, line by line.
use Prim.Native.Nat.{ℕ, zero, suc, ◌+◌, ◌≤◌, ◌<◌}
use mathlib.Core.Path.{◌≡◌, refl, sym, ap, ◌∙◌, subst}
use mathlib.Core.Logic.{inl, ⊎_elim}
use mathlib.Core.List.{List, [], ◌∷◌, ◌++◌}
use native.Mathlib.Omega.{arith}
use lib.ListN.{length, get_or, set, replicate, length-set, length-replicate, get_or-map, length-map}
use Rattle.std.specs.Prelude.{Bool, true, false, map}
use Rattle.std.proofs.lemmas.List.{map-set}
use native.Mathlib.Numerals.{add-one}
use Rattle.base.specs.UpTo.{up_to, up_to_snoc, up_to_front}
use Rattle.lexical.specs.Places.{In, Distinct, in_snoc, in_left, in_right, distinct_left}
use Rattle.nodefile.specs.Layout.{name_count}
use Rattle.nodefile.specs.FileOf.{entry_names, global_names}
use Rattle.names.specs.Lists.{BadList, no_such_name, twice, BadLists, bad_entry, bad_global}
use Rattle.marks.specs.Marks.{Marked, Set, marked_none, marked_more, marked_again}

-- line k and the lines before it
module _ (f : ℕ → ℕ) (k n : ℕ) (h : k < n) where
  front : (ys : List ℕ) × (up_to f n ≡ (up_to f k ++ (f k ∷ [])) ++ ys)
  front = let r = up_to_front f (suc k) n h in (r.0, r.1 ∙ ap (λ (l : List ℕ). l ++ r.0) (up_to_snoc f k))

  pub up_to_in : In (f k) (up_to f n)
  up_to_in = subst (In (f k)) (sym front.1) (in_left (f k) (up_to f k ++ (f k ∷ [])) front.0 (in_right (f k) (up_to f k) (f k ∷ []) (inl refl)))

  pub up_to_distinct : Distinct (up_to f n) → Distinct (up_to f k ++ (f k ∷ []))
  up_to_distinct d = distinct_left (up_to f k ++ (f k ∷ [])) front.0 (subst Distinct front.1 d)

-- a mark as a number
abbrev pub mark : Bool → ℕ
mark false = 0
mark true = 1

-- the marks after k lines
pub record Lines (names : ℕ) (seen : List Bool) (f : ℕ → ℕ) (k : ℕ) : Type 0 where
  pub size : length seen ≡ 1024
  pub known : (x : ℕ) → In x (up_to f k) → x < names
  pub marks : Marked Set (map mark seen) (up_to f k)

no_marks : (n v : ℕ) → get_or (map mark (replicate n false)) v 0 ≡ 0
no_marks zero v = refl
no_marks (suc n) zero = refl
no_marks (suc n) (suc v) = no_marks n v

pub lines_none : (names : ℕ) (f : ℕ → ℕ) → Lines names (replicate 1024 false) f 0
unfolding up_to
lines_none names f = record { size = length-replicate {A = Bool} 1024 false; known = λ x h. absurd h; marks = marked_none _ (λ v h. h (no_marks 1024 v)) }

module _ {names : ℕ} {seen : List Bool} {f : ℕ → ℕ} {k : ℕ} (l : Lines names seen f k) where
  -- line k has a known name, which is not marked
  pub lines_more : {v : ℕ} → v ≡ f k → v < names → names ≤ 1024 → get_or seen v false ≡ false → Lines names (set seen v true) f (k + 1)
  lines_more {v} e h b u =
      let more : up_to f (k + 1) ≡ up_to f k ++ (v ∷ []) = ap (up_to f) (add-one k) ∙ up_to_snoc f k ∙ ap (λ (x : ℕ). up_to f k ++ (x ∷ [])) (sym e) in
      record {
        size = length-set seen v true ∙ l.size;
        known = λ x i. ⊎_elim (l.known x) (λ q. omega arith) (in_snoc x v (up_to f k) (subst (In x) more i));
        marks = rw (map-set mark seen v true) (subst (Marked Set (set (map mark seen) v 1)) (sym more) (marked_more l.marks v 1 (omega (arith, l.size, length-map seen mark)) (λ q. omega arith) (λ n. n (get_or-map mark seen v false ∙ ap mark u))));
      }

  -- its name is marked
  pub lines_twice : {v : ℕ} (n : ℕ) → v ≡ f k → k < n → get_or seen v false ≡ true → BadList names (up_to f n)
  lines_twice {v} n e h u = twice (λ d. marked_again l.marks v (λ z. absurd (omega (arith, z, get_or-map mark seen v false ∙ ap mark u))) [] (subst (λ (x : ℕ). Distinct (up_to f k ++ (x ∷ []))) (sym e) (up_to_distinct f k n h d)))

  pub lines_all : (n : ℕ) → k ≡ n → BadList names (up_to f n) → ⊥
  lines_all n e (no_such_name x i h) = omega (arith, l.known x (subst (λ (m : ℕ). In x (up_to f m)) (sym e) i))
  lines_all n e (twice g) = g (subst (λ (m : ℕ). Distinct (up_to f m)) e l.marks.apart)

pub lines_unknown : {names v : ℕ} (f : ℕ → ℕ) (k n : ℕ) → v ≡ f k → k < n → names ≤ v → BadList names (up_to f n)
lines_unknown f k n e h u = no_such_name (f k) (up_to_in f k n h) (omega arith)

-- neither list is at fault
pub no_lists : {bs : List ℕ} → (BadList (name_count bs) (entry_names bs) → ⊥) → (BadList (name_count bs) (global_names bs) → ⊥) → BadLists bs → ⊥
no_lists f g (bad_entry h) = f h
no_lists f g (bad_global h) = g h
