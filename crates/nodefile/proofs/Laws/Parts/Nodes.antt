-- Parts of the node list that hold trees: the first node of a part and what follows it, and a part that is one node.
--     kind_take, size_take, value_take   a node's fields, where more or less of what follows it is taken
--     Split, split                       the first node of a part
--     One, one, kids_part, kids_length   a part that is one node, and `&part[8..e]`
--     some_long, Named, named            a part that holds some nodes, and one that starts with a Name
use Rattle.std.specs.Prelude.{ℕ, ◌+◌, ◌-◌, ◌*◌, ◌≤◌, ◌<◌, ◌≡◌, refl, List, [], length, take, drop}
use Rattle.std.proofs.Common.{sym, ◌∙◌, arith, length-take, drop_of_length-le, take-take, length-take-le}
use Rattle.std.proofs.Math.Path.{ap, subst}
use Rattle.std.proofs.Math.ListN.{length-drop}
use Rattle.base.specs.Parts.{drop-take}
use Rattle.bits.proofs.FieldLaws.{field-take}
use Rattle.lexical.specs.Tree.{Forest, nil, node}
use Rattle.nodefile.specs.Node.{kind_of, size_of, value_of, below, after}
use Rattle.nodefile.specs.Reads.{Reads, count_of}
use Rattle.nodefile.proofs.Laws.Reads.{reads_some, reads_none, reads_size}
use Rattle.nodefile.specs.Valid.{NodeOk, Valid, Some, NameFirst}
use Rattle.nodefile.specs.Parts.Nodes.{alone, Split, One, Named}

-- ---- a node by itself

-- the node that t starts with has the same fields and children in as much of t as has it
module _ (t : List ℕ) (n : ℕ) (h : 8 ≤ n) where
  pub kind_take : kind_of (take n t) ≡ kind_of t
  kind_take = field-take t n 0 5 (omega arith)

  pub size_take : size_of (take n t) ≡ size_of t
  size_take = field-take t n 8 16 (omega arith)

  pub value_take : value_of (take n t) ≡ value_of t
  value_take = field-take t n 24 16 (omega arith)

pub below-take : (t : List ℕ) (n : ℕ) → 0 < size_of t → 8 * size_of t ≤ n → below (take n t) ≡ below t
below-take t n s h =
    rw (size_take t n (omega arith), drop-take 8 n t, take-take (8 * size_of t - 8) (n - 8) (drop 8 t) (omega arith))

-- and nothing stands after it where it is taken alone
pub after-take : (t : List ℕ) → 0 < size_of t → after (take (8 * size_of t) t) ≡ []
after-take t s =
    rw (size_take t (8 * size_of t) (omega arith))
    (drop_of_length-le (take (8 * size_of t) t) {i = 8 * size_of t} (omega (arith, length-take (8 * size_of t) t)))

pub split : (t : List ℕ) (at : ℕ) (f : Forest) → 0 < length t → Reads t at f → Split t at f
split t at f h r =
    let (kids, rest, e, q) = reads_some f t at h r in
    record {
      kids = kids;
      rest = rest;
      is = e;
      some = q.some;
      inside = q.inside;
      under = q.under;
      one = record {
        number = refl;
        kind = sym (kind_take t (8 * size_of t) (omega (arith, q.some)));
        value = sym (value_take t (8 * size_of t) (omega (arith, q.some)));
        some = rw (size_take t (8 * size_of t) (omega (arith, q.some))) q.some;
        inside = rw (size_take t (8 * size_of t) (omega (arith, q.some))) (omega (arith, length-take-le (8 * size_of t) t q.inside));
        under = rw (below-take t (8 * size_of t) q.some (omega arith)) q.under;
        after = after-take t q.some;
      };
      after = q.after;
    }

-- ---- a part that is one node

-- `&part[8..e]` holds its children
pub kids_part : (t : List ℕ) (e : ℕ) → e ≡ 8 * size_of t → take (e - 8) (drop 8 t) ≡ below t
kids_part t e h = rw h

module _ (t : List ℕ) (some : 0 < size_of t) (whole : 8 * size_of t ≡ length t) where
  pub kids_length : length (take (length t - 8) (drop 8 t)) ≡ length t - 8
  kids_length = length-take-le (length t - 8) (drop 8 t) (omega (arith, length-drop 8 t))

  alone-is : (at : ℕ) (f : Forest) → Valid f → Split t at f → One t at f
  unfolding Valid
  alone-is at f v p =
      let n : p.rest ≡ nil = reads_none p.rest (after t) (at + size_of t) (omega (arith, length-drop (8 * size_of t) t)) p.after in
      let e : f ≡ alone t at p.kids = p.is ∙ ap (λ (g : Forest). node at (kind_of t) (value_of t) p.kids g) n in
      let q : Valid (alone t at p.kids) = subst Valid e v in
      record { kids = p.kids; is = e; under = rw (kids_part t (length t) (sym whole)) p.under; ok = q.0; valid = q.1 }

  pub one : (at : ℕ) (f : Forest) → Reads t at f → Valid f → One t at f
  one at f r v = alone-is at f v (split t at f (omega arith) r)

-- ---- what children start with

pub some_long : (t : List ℕ) (at : ℕ) (f : Forest) → Reads t at f → Some f → 8 ≤ length t
unfolding Some
some_long t at nil r h = absurd h
some_long t at (node a k v kids rest) r h = omega (arith, r.some, r.inside)

named-is : (t : List ℕ) (at k v : ℕ) (kids rest : Forest) → Reads t at (node at k v kids rest) → v ≡ value_of t → NodeOk at k v kids → Valid rest → k ≡ 8 → Some rest → Named t at (node at k v kids rest)
named-is t at k v kids rest r e ok w h s =
    let q = ok.name h in
    let n : kids ≡ nil = q.1 in
    let z : size_of t ≡ 1 = reads_size at k v kids rest t at r ∙ ap (λ (g : Forest). 1 + count_of g) n in
    record {
      rest = rest;
      is = cc;
      number = ok.number;
      small = rw (← e) q.0;
      long = omega (arith, r.inside);
      after = rw z at r.after;
      some = s;
      valid = w;
    }

pub named : (t : List ℕ) (at : ℕ) (f : Forest) → Reads t at f → Valid f → NameFirst f → Named t at f
unfolding Valid NameFirst
named t at nil r w h = absurd h
named t at (node a k v kids rest) r w h =
    let e : node at k v kids rest ≡ node a k v kids rest = cc in
    subst (Named t at) e
    (named-is t at k v kids rest (subst (Reads t at) (sym e) r) r.value (subst (λ (n : ℕ). NodeOk n k v kids) r.number w.0) w.2 h.0 h.1)
