-- A loop over the nodes of a part that stand one after the other, in the form "what is left".
--     sibling_part, size_from              `&part[i..i + 8 * k]`, the node at byte i, and its size, read from `&part[i..]`
--     Walk, valid_apart                    what a walk over siblings is
--     Left, left_start, left_more, left_end   its invariant
--     Sibling, left_sibling, left_one, left_reads, left_fine, sibling_length, sibling_size   the node at byte i by itself
use Rattle.std.specs.Prelude.{ℕ, ◌+◌, ◌-◌, ◌*◌, ◌≤◌, ◌<◌, ◌≡◌, refl, List, length, take, drop}
use Rattle.std.proofs.Common.{sym, ap, ◌∙◌, subst, arith, length-drop, drop-drop, length-take-le}
use Rattle.base.specs.Parts.{cut, part-from}
use Rattle.lexical.specs.Tree.{Forest, nil, node}
use Rattle.nodefile.specs.Node.{kind_of, size_of, value_of, after}
use Rattle.nodefile.specs.Reads.{Reads}
use Rattle.nodefile.proofs.Laws.Reads.{reads_none}
use Rattle.nodefile.specs.Valid.{Valid}
use Rattle.nodefile.specs.Parts.Nodes.{alone, Split}
use Rattle.nodefile.proofs.Laws.Parts.Nodes.{size_take, split}
use Rattle.nodefile.specs.Parts.Siblings.{Walk, Left, Sibling}

-- `&part[i..i + 8 * k]` is the node at byte i by itself
pub sibling_part : (part : List ℕ) (i k : ℕ) → k ≡ size_of (drop i part) → take (i + 8 * k - i) (drop i part) ≡ take (8 * size_of (drop i part)) (drop i part)
sibling_part part i k h = cut part i (8 * k) ∙ ap (λ (x : ℕ). take (8 * x) (drop i part)) h

-- its size, read from `&part[i..]`
pub size_from : (part : List ℕ) (i : ℕ) → size_of (take (length part - i) (drop i part)) ≡ size_of (drop i part)
size_from part i = ap size_of (part-from part i)

pub valid_apart : (a k v : ℕ) (kids rest : Forest) → Valid (node a k v kids rest) → Valid (node a k v kids nil) × Valid rest
unfolding Valid
valid_apart a k v kids rest h = ((h.0, h.1, tt), h.2)

module _ {X : Type 0} (S : Walk X) where
  pub left_start : (K : X → Type 0) (part : List ℕ) (at : ℕ) (f : Forest) (x : X) → Reads part at f → S.Fine f → K x → Left S K part at 0 (S.over f x)
  left_start K part at f x r q k = record { f = f; x = x; reads = r; fine = q; known = k; same = refl }

  module _ {K : X → Type 0} {part : List ℕ} {n i : ℕ} {end : X} (l : Left S K part n i end) where
    pub left_end : length part ≤ i → K end
    left_end h =
        let e : l.f ≡ nil = reads_none l.f (drop i part) n (omega (arith, length-drop i part)) l.reads in
        let z : l.x ≡ end = sym (S.stop l.x) ∙ ap (λ (g : Forest). S.over g l.x) (sym e) ∙ l.same in
        subst K z l.known

    module _ (h : i < length part) where
      pub left_split : Split (drop i part) n l.f
      left_split = split (drop i part) n l.f (omega (arith, length-drop i part)) l.reads

      pub left_sibling : Sibling part i
      left_sibling = let p = left_split in record { some = p.some; inside = omega (arith, length-drop i part, p.inside) }

      -- the node by itself
      abbrev pub left_one : Forest
      left_one = alone (drop i part) n left_split.kids

      pub left_fine : S.Fine left_one × S.Fine left_split.rest
      left_fine =
          let p = left_split in
          S.apart n (kind_of (drop i part)) (value_of (drop i part)) p.kids p.rest (subst S.Fine p.is l.fine)

      module _ (k : ℕ) (hk : k ≡ size_of (drop i part)) where
        pub left_reads : Reads (take (i + 8 * k - i) (drop i part)) n left_one
        left_reads = rw (sibling_part part i k hk) left_split.one

        -- one node on
        pub left_more : (K' : X → Type 0) → K' (S.over left_one l.x) → Left S K' part (n + k) (i + 8 * k) end
        left_more K' kn =
            let p = left_split in
            let d : after (drop i part) ≡ drop (i + 8 * k) part = rw (← hk) (drop-drop (8 * k) i part) in
            record {
              f = p.rest;
              x = S.over left_one l.x;
              reads = rw (← d, hk) p.after;
              fine = left_fine.1;
              known = kn;
              same = sym (S.step n (kind_of (drop i part)) (value_of (drop i part)) p.kids p.rest l.x) ∙ ap (λ (g : Forest). S.over g l.x) (sym p.is) ∙ l.same;
            }

-- the part of one node, and its fields
module _ {part : List ℕ} {i : ℕ} (p : Sibling part i) (k : ℕ) (hk : k ≡ size_of (drop i part)) where
  pub sibling_length : length (take (i + 8 * k - i) (drop i part)) ≡ 8 * k
  sibling_length = length-take-le (i + 8 * k - i) (drop i part) (omega (arith, length-drop i part, p.inside)) ∙ omega arith

  pub sibling_size : size_of (take (i + 8 * k - i) (drop i part)) ≡ k
  sibling_size = size_take (drop i part) (i + 8 * k - i) (omega (arith, p.some)) ∙ sym hk
