-- The tree that a part of the node list holds: nodes stand parent first, and size counts a node and all below it (document 01).
--     reads_one                no second tree is read from a part
--     reads_none, reads_some   the tree of an empty part, and of one that is not
--     reads_kids, reads_fits   a part that holds a tree falls into nodes, of the kinds that the tree begins with
--     reads_length, reads_size the number of nodes, of the part and below the first node
--     reads_root               a part that its first node fills holds one tree
use Rattle.std.specs.Prelude.{ℕ, ◌+◌, ◌-◌, ◌*◌, ◌≤◌, ◌<◌, ◌≡◌, refl, List, [], ◌∷◌, length}
use Rattle.std.proofs.Common.{sym, ap, ◌∙◌, subst, arith, length-drop}
use Rattle.base.specs.Parts.{part_length}
use Rattle.lexical.specs.Tree.{Forest, nil, node}
use Rattle.lexical.specs.Table.{kinds}
use Rattle.nodefile.specs.Node.{kind_of, value_of, size_of, below, after}
use Rattle.nodefile.specs.Kids.{Kids, no_kids, kid, Fits}
use Rattle.nodefile.specs.Reads.{Reads, count_of}

pub reads_one : (f g : Forest) (t : List ℕ) (at : ℕ) → Reads t at f → Reads t at g → f ≡ g
reads_one nil nil t at p q = refl
reads_one nil (node a k v ks rs) t at p q = let z : ⊥ = omega (arith, ap length p, q.inside, q.some) in absurd z
reads_one (node a k v ks rs) nil t at p q = let z : ⊥ = omega (arith, ap length q, p.inside, p.some) in absurd z
reads_one (node a k v ks rs) (node a' k' v' ks' rs') t at p q =
    let e = reads_one ks ks' (below t) (at + 1) p.under q.under in
    let d = reads_one rs rs' (after t) (at + size_of t) p.after q.after in
    cc

pub reads_none : (f : Forest) (t : List ℕ) (at : ℕ) → length t ≡ 0 → Reads t at f → f ≡ nil
reads_none nil t at e p = refl
reads_none (node a k v ks rs) t at e p = let z : ⊥ = omega (arith, p.inside, p.some) in absurd z

pub reads_some : (f : Forest) (t : List ℕ) (at : ℕ) → 0 < length t → Reads t at f
    → (kids : Forest) × (rest : Forest) × (f ≡ node at (kind_of t) (value_of t) kids rest) × Reads t at (node at (kind_of t) (value_of t) kids rest)
reads_some nil t at h p = let z : ⊥ = omega (arith, ap length p) in absurd z
reads_some (node a k v ks rs) t at h p =
    let e : node a k v ks rs ≡ node at (kind_of t) (value_of t) ks rs = cc in
    (ks, rs, e, subst (Reads t at) e p)

pub reads_kids : (f : Forest) (t : List ℕ) (at : ℕ) → Reads t at f → Kids t (kinds f)
unfolding kinds
reads_kids nil t at p = subst (λ (u : List ℕ). Kids u []) (sym p) no_kids
reads_kids (node a k v ks rs) t at p =
    subst (λ (x : ℕ). Kids t (x ∷ kinds rs)) (sym p.kind) (kid p.some p.inside (reads_kids rs (after t) (at + size_of t) p.after))

pub reads_fits : (f : Forest) (t : List ℕ) (at : ℕ) → Reads t at f → Fits t
reads_fits f t at p = (kinds f, reads_kids f t at p)

-- the lengths of the parts below and after a node that lies in its part
pub below_length : (t : List ℕ) → 0 < size_of t → 8 * size_of t ≤ length t → length (below t) ≡ 8 * size_of t - 8
below_length t z l = part_length t 8 (8 * size_of t - 8) (omega arith)

pub after-length : (t : List ℕ) → length (after t) ≡ length t - 8 * size_of t
after-length t = length-drop (8 * size_of t) t

pub reads_length : (f : Forest) (t : List ℕ) (at : ℕ) → Reads t at f → length t ≡ 8 * count_of f
reads_length nil t at p = ap length p
reads_length (node a k v ks rs) t at p =
    omega
    (arith, p.some, p.inside, below_length t p.some p.inside, after-length t, reads_length ks (below t) (at + 1) p.under, reads_length rs (after t) (at + size_of t) p.after)

pub reads_size : (a k v : ℕ) (ks rs : Forest) (t : List ℕ) (at : ℕ) → Reads t at (node a k v ks rs) → size_of t ≡ 1 + count_of ks
reads_size a k v ks rs t at p =
    omega (arith, p.some, p.inside, below_length t p.some p.inside, reads_length ks (below t) (at + 1) p.under)

-- a part that its first node fills holds one tree
pub reads_root : (f : Forest) (t : List ℕ) (at : ℕ) → 0 < length t → 8 * size_of t ≡ length t → Reads t at f
    → (kids : Forest) × (f ≡ node at (kind_of t) (value_of t) kids nil) × Reads (below t) (at + 1) kids
reads_root f t at h e p =
    let s = reads_some f t at h p in
    let n : s.1 ≡ nil = reads_none s.1 (after t) (at + size_of t) (omega (arith, after-length t)) s.3.after in
    (s.0, s.2 ∙ ap (node at (kind_of t) (value_of t) s.0) n, s.3.under)
