-- A function's parameter variables, counted node by node.
use Rattle.std.specs.Prelude.{ℕ, ◌+◌, ◌-◌, ◌*◌, ◌≤◌, ◌<◌, ◌≡◌, refl, Bool, true, false, cond, not, ◌&&◌, eqb, ltb, List, length, take, drop}
use Rattle.std.proofs.Common.{sym, ap, ◌∙◌, subst, arith, length-take-le, length-drop}
use Rattle.std.proofs.lemmas.Bool.{lt-ltb}
use Rattle.lexical.specs.Records.{bit}
use Rattle.lexical.specs.Tree.{Forest, nil, node, empty, params}
use Rattle.nodefile.specs.Node.{kind_of, size_of, value_of}
use Rattle.nodefile.specs.Reads.{Reads, count_of}
use Rattle.nodefile.proofs.Laws.Reads.{reads_size}
use Rattle.nodefile.specs.Parts.{Walk, Left}
use Rattle.nodefile.proofs.Laws.Parts.{left_end, left_split, left_one}
use Rattle.collect.proofs.Rests.{rest_sizes, rest_more}

-- ---- one node

has_name : (kids : Forest) (n : ℕ) → n ≡ 1 + count_of kids → ltb 1 n ≡ not (empty kids)
unfolding empty
has_name nil n e = rw e refl
has_name (node a k v kids rest) n e = lt-ltb 1 n (omega arith)

-- a part whose first node is a Param with a Name
abbrev pub named : List ℕ → Bool
named t = eqb (kind_of t) 17 && ltb 1 (size_of t)

one_more : (t : List ℕ) (n a v : ℕ) (kids rest : Forest) → Reads t n (node a (kind_of t) v kids rest) → bit (named t) ≡ params (node a (kind_of t) v kids nil)
unfolding params bit
one_more t n a v kids rest r = rw (has_name kids (size_of t) (reads_size a (kind_of t) v kids rest t n r)) (go (eqb (kind_of t) 17 && not (empty kids)))
  where
    go : (b : Bool) → bit b ≡ cond b 1 0 + 0
    go true = refl
    go false = refl

-- ---- one after the other

pub count_step : (a k v : ℕ) (kids rest : Forest) (x : ℕ) → x + params (node a k v kids rest) ≡ x + params (node a k v kids nil) + params rest
unfolding params
count_step a k v kids rest x = omega arith

pub count-stop : (x : ℕ) → x + params nil ≡ x
unfolding params
count-stop x = omega arith

abbrev pub counting : Walk ℕ
counting = record { Fine = λ f. Unit {0}; over = λ f x. x + params f; apart = λ a k v kids rest u. (tt, tt); stop = count-stop; step = count_step }

-- the nodes before those in `rest` have n parameter variables
pub record Counted (part rest : List ℕ) (n : ℕ) : Type 0 where
  pub few : 8 * n + length rest ≤ length part
  pub left : (at : ℕ) (f : Forest) → Reads part at f → (j : ℕ) × Left counting (λ x. x ≡ n) rest j 0 (params f)

pub c_start : (part : List ℕ) → Counted part part 0
c_start part = record {
  few = omega arith;
  left = λ at f r. (at, record { f = f; x = 0; reads = r; fine = tt; known = refl; same = omega arith });
}

bit_small : (b : Bool) → bit b ≤ 1
unfolding bit
bit_small true = omega arith
bit_small false = omega arith

module _ {part rest : List ℕ} {n : ℕ} (d : Counted part rest n) where
  pub c_end : length rest ≡ 0 → (at : ℕ) (f : Forest) → Reads part at f → n ≡ params f
  c_end h at f r = sym (left_end counting (d.left at f r).1 (omega arith))

  module _ (h : 0 < length rest) (k : ℕ) (hk : k ≡ size_of rest) where
    pub c_sizes : ((at : ℕ) × (f : Forest) × Reads part at f) → (0 < k) × (8 * k ≤ length rest)
    c_sizes (at, f, r) = rest_sizes counting (d.left at f r).1 h k hk

    pub c_more : {b : Bool} → b ≡ named rest → ((at : ℕ) × (f : Forest) × Reads part at f) → Counted part (take (length rest - 8 * k) (drop (8 * k) rest)) (n + bit b)
    c_more {b} e g =
        let z = c_sizes g in
        record {
          few = omega (arith, d.few, z, bit_small b, length-take-le (length rest - 8 * k) (drop (8 * k) rest) (omega (arith, length-drop (8 * k) rest)));
          left = λ at f r.
              let (j, q) = d.left at f r in
              let s = left_split counting q h in
              let u : bit b ≡ params (left_one counting q h) = ap bit e ∙ one_more rest j j (value_of rest) s.kids s.rest (subst (λ (x : Forest). Reads rest j x) s.is q.reads) in
              (j + k, rest_more counting q h k hk (λ y. y ≡ n + bit b) (omega (arith, q.known)));
        }
