-- The search for the last node of a part: the nodes passed, and what is left of the part, from the node at hand on.
use Prim.Native.Nat.{ℕ, ◌+◌, ◌-◌, ◌*◌, ◌/◌, ◌≤◌, ◌<◌}
use mathlib.Core.Path.{◌≡◌, refl, sym, ap, ◌∙◌, subst}
use mathlib.Core.List.{List, ◌++◌}
use native.Mathlib.Omega.{arith}
use native.Mathlib.Nat.{add-zero}
use lib.ListN.{length, take, drop, length-drop}
use lib.Seq.{take-add, drop-drop, length-take-le}
use Rattle.base.specs.Parts.{part-from}
use Rattle.lexical.specs.Tree.{Forest, nil, node, ◌⊕◌}
use Rattle.nodefile.specs.Node.{kind_of, size_of, value_of, after}
use Rattle.nodefile.specs.Reads.{Reads}
use Rattle.nodefile.proofs.Laws.Reads.{reads_none}
use Rattle.nodefile.specs.Parts.{alone, Split}
use Rattle.nodefile.proofs.Laws.Parts.{split, some_long}
use Rattle.idents.specs.Cycle.{Parted, LastAt}
use Rattle.idents.proofs.Joined.{joined_more, reads_joined}
use Rattle.idents.proofs.Steps.{back, back-length}

-- the byte of the part at which what is left of it starts
abbrev pub byte : List ℕ → List ℕ → ℕ
byte part tail = length part - length tail

pub record Passed (part : List ℕ) (at : ℕ) (f : Forest) (tail : List ℕ) : Type 0 where
  pub front : Forest
  pub rest : Forest
  pub is : f ≡ front ⊕ rest
  pub front_reads : Reads (take (byte part tail) part) at front
  pub rest_reads : Reads tail (at + byte part tail / 8) rest

-- the node at hand ends at byte `end` of what is left
pub record Trail (part tail : List ℕ) (end : ℕ) : Type 0 where
  pub low : 0 < length tail
  pub le : length tail ≤ length part
  pub eights : 8 * (byte part tail / 8) ≡ byte part tail
  pub is : tail ≡ drop (byte part tail) part
  pub ends : end ≡ 8 * size_of tail
  pub passed : (g : Parted part) → Passed part g.at g.f tail

pub trail_start : {part : List ℕ} {k : ℕ} → Parted part → k ≡ size_of part → Trail part part (8 * k)
trail_start {part} {k} p h =
    let z : byte part part ≡ 0 = omega arith in
    record {
      low = omega (arith, some_long part p.at p.f p.reads p.some);
      le = omega arith;
      eights = rw z refl;
      is = rw z refl;
      ends = ap (λ (n : ℕ). 8 * n) h;
      passed = λ g. record { front = nil; rest = g.f; is = unfold ◌⊕◌ in refl; front_reads = rw z refl; rest_reads = rw (z, add-zero) g.reads };
    }

module _ {part tail : List ℕ} {end : ℕ} (d : Trail part tail end) where
  at_node : (g : Parted part) → Split tail (g.at + byte part tail / 8) (d.passed g).rest
  at_node g = split tail (g.at + byte part tail / 8) (d.passed g).rest d.low (d.passed g).rest_reads

  pub trail_inside : Parted part → (0 < end) × (end ≤ length tail)
  trail_inside g = let p = at_node g in omega (arith, d.ends, p.some, p.inside)

  module _ (h : end < length tail) where
    pub trail_length : length (back tail end) ≡ length tail - end
    trail_length = back-length tail end (omega arith)

    byte_on : byte part (back tail end) ≡ byte part tail + end
    byte_on = omega (arith, trail_length, d.le)

    on : (g : Parted part) → Passed part g.at g.f (back tail end)
    on g =
        let i : ℕ = byte part tail in
        let p = at_node g in
        let q = d.passed g in
        let o : Forest = alone tail (g.at + i / 8) p.kids in
        let c : take i part ++ take (8 * size_of tail) tail ≡ take (i + end) part = ap (λ (t : List ℕ). take i part ++ take (8 * size_of tail) t) d.is ∙ sym (take-add i (8 * size_of tail) part) ∙ ap (λ (n : ℕ). take (i + n) part) (sym d.ends) in
        let l : length (take i part) ≡ 8 * (i / 8) = length-take-le i part (omega arith) ∙ sym d.eights in
        let b : back tail end ≡ after tail = part-from tail end ∙ ap (λ (n : ℕ). drop n tail) d.ends in
        let e : g.at + (i + end) / 8 ≡ g.at + i / 8 + size_of tail = omega (arith, d.ends, d.eights) in
        record {
          front = q.front ⊕ o;
          rest = p.rest;
          is = q.is ∙ ap (λ (x : Forest). q.front ⊕ x) p.is ∙ joined_more q.front _ _ _ p.kids p.rest;
          front_reads = rw (byte_on, ← c) (reads_joined q.front o (take i part) (take (8 * size_of tail) tail) g.at (i / 8) l q.front_reads p.one);
          rest_reads = rw (byte_on, e, b) p.after;
        }

    pub trail_more : {k : ℕ} → k ≡ size_of (back tail end) → Trail part (back tail end) (8 * k)
    trail_more e = record {
      low = omega (arith, trail_length);
      le = omega (arith, trail_length, d.le);
      eights = rw byte_on (omega (arith, d.ends, d.eights));
      is = rw byte_on (part-from tail end ∙ ap (drop end) d.is ∙ drop-drop end (byte part tail) part);
      ends = ap (λ (n : ℕ). 8 * n) e;
      passed = on;
    }

  pub trail_end : length tail ≤ end → (g : Parted part) → LastAt part g.at g.f (byte part tail)
  trail_end h g =
      let i : ℕ = byte part tail in
      let p = at_node g in
      let q = d.passed g in
      let n : p.rest ≡ nil = reads_none p.rest (after tail) _ (omega (arith, d.ends, length-drop (8 * size_of tail) tail)) p.after in
      let z : q.rest ≡ alone tail (g.at + i / 8) p.kids = p.is ∙ ap (λ (x : Forest). node (g.at + i / 8) (kind_of tail) (value_of tail) p.kids x) n in
      record {
        inside = omega (arith, p.some, p.inside, d.le);
        eights = d.eights;
        front = q.front;
        a = g.at + i / 8;
        k = kind_of tail;
        v = value_of tail;
        kids = p.kids;
        split = q.is ∙ ap (λ (x : Forest). q.front ⊕ x) z;
        front_reads = q.front_reads;
        last_reads = subst (λ (t : List ℕ). Reads t (g.at + i / 8) (alone tail (g.at + i / 8) p.kids)) d.is (subst (Reads tail (g.at + i / 8)) z q.rest_reads);
      }
