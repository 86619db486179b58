-- Siblings of a tree against the bytes: the nodes from p up to e.
--     Opens, opens    the first of them, what stands below it, and its siblings behind it
--     range_none      no siblings
use Rattle.std.specs.Prelude.{ℕ, ◌+◌, ◌-◌, ◌*◌, ◌≤◌, ◌<◌, ◌≡◌, List, eqb, length, drop}
use Rattle.std.proofs.Math.Path.{sym}
use Rattle.std.proofs.Common.{ap, ◌∙◌, subst, subst₂, arith, eq-eqb, ne_eqb}
use Rattle.lexical.specs.Tree.{Forest, nil, node, empty}
use Rattle.nodefile.specs.Node.{size_of}
use Rattle.nodefile.specs.Reads.{Reads}
use Rattle.nodefile.specs.Trees.{stretch}
use Rattle.nodefile.proofs.Laws.Trees.{stretch-length, stretch_size, stretch-after, stretch-below}
use Rattle.nodefile.proofs.Laws.Parts.{kind_take, value_take}
use Rattle.nodefile.specs.Listed.{kind_at, size_at, value_at}
use Rattle.around.specs.Ends.{end_some}
use Rattle.around.specs.Descent.{end_at}

-- the nodes from p up to e
abbrev pub range : List ℕ → ℕ → ℕ → List ℕ
range ns p e = stretch ns p (e - p)

module _ (ns : List ℕ) (p e : ℕ) (l : 8 * e ≤ length ns) (h : p ≤ e) where
  range_length : length (range ns p e) ≡ 8 * (e - p)
  range_length = stretch-length ns p (e - p) (omega arith)

  pub range_none : Reads (range ns p e) p nil → p ≡ e
  range_none r = omega (arith, ap length r, range_length)

  range-empty : (f : Forest) → Reads (range ns p e) p f → empty f ≡ eqb p e
  unfolding empty
  range-empty nil r = sym (eq-eqb p e (range_none r))
  range-empty (node a k v ks rs) r = sym (ne_eqb p e (λ z. omega (arith, range_length, r.some, r.inside)))

pub record Opens (ns : List ℕ) (p e a k v : ℕ) (ks rs : Forest) : Type 0 where
  pub number : a ≡ p
  pub kind : k ≡ kind_at ns p
  pub value : v ≡ value_at ns p
  pub past : p < end_at ns p e
  pub inside : end_at ns p e ≤ e
  pub under : Reads (range ns (p + 1) (end_at ns p e)) (p + 1) ks
  pub after : Reads (range ns (end_at ns p e) e) (end_at ns p e) rs
  pub last : empty rs ≡ eqb (end_at ns p e) e

pub opens : (ns : List ℕ) (p e a k v : ℕ) (ks rs : Forest) → 8 * e ≤ length ns → p ≤ e → Reads (range ns p e) p (node a k v ks rs) → Opens ns p e a k v ks rs
opens ns p e a k v ks rs l h r = record {
  number = r.number;
  kind = r.kind ∙ kind_take (drop (8 * p) ns) (8 * (e - p)) (omega (arith, fits, r.some));
  value = r.value ∙ value_take (drop (8 * p) ns) (8 * (e - p)) (omega (arith, fits, r.some));
  past = omega (arith, r.some, size, ends);
  inside = omega (arith, fits, size, ends);
  under = inner;
  after = behind;
  last = range-empty ns (end_at ns p e) e l (omega (arith, fits, size, ends)) rs behind;
}
  where
    long : length (stretch ns p (e - p)) ≡ 8 * (e - p)
    long = range_length ns p e l h

    fits : size_of (stretch ns p (e - p)) ≤ e - p
    fits = omega (arith, long, r.inside)

    size : size_of (stretch ns p (e - p)) ≡ size_at ns p
    size = stretch_size ns p (e - p) (omega (arith, fits, r.some))

    ends : end_at ns p e ≡ p + size_at ns p
    ends = omega (arith, end_some (size_at ns p) p e (λ z. omega (arith, r.some, size)), fits, size)

    inner : Reads (range ns (p + 1) (end_at ns p e)) (p + 1) ks
    inner =
        let y : size_of (stretch ns p (e - p)) - 1 ≡ end_at ns p e - (p + 1) = omega (arith, size, ends) in
        subst (λ (n : ℕ). Reads (stretch ns (p + 1) n) (p + 1) ks) y (subst (λ (u : List ℕ). Reads u (p + 1) ks) (stretch-below ns p (e - p) r.some fits) r.under)

    behind : Reads (range ns (end_at ns p e) e) (end_at ns p e) rs
    behind =
        let z : p + size_of (stretch ns p (e - p)) ≡ end_at ns p e = omega (arith, size, ends) in
        let y : e - p - size_of (stretch ns p (e - p)) ≡ e - end_at ns p e = omega (arith, size, ends) in
        subst₂ (λ (s n : ℕ). Reads (stretch ns s n) s rs) z y
        (subst (λ (u : List ℕ). Reads u (p + size_of (stretch ns p (e - p))) rs) (stretch-after ns p (e - p) (size_of (stretch ns p (e - p)))) r.after)
