-- Number 5: the chains of the names passed, by the numbers of their spellings.
use Rattle.std.specs.Prelude.{Option, None, Some}
use Prim.Native.Nat.{ℕ, zero, suc, ◌+◌, ◌≤◌, ◌<◌}
use mathlib.Core.Path.{◌≡◌, sym, ap, ◌∙◌, subst}
use mathlib.Core.List.{List}
use native.Mathlib.Omega.{arith}
use native.Mathlib.Decide.{ℕ_discrete}
use borrow.Author.Count.{below_more}
use lib.ListN.{length, get_or, set, replicate, length-set, length-replicate}
use lib.Seq.{get_or-set_same, get_or-set_other}
use Rattle.nodefile.specs.Lists.{name_off, name_len, spelled}
use Rattle.names.specs.Names.{BadNames, empty, past_pool, spelled-before}
use Rattle.names.specs.Inside.Chain.{hash_of, Below, Links, On, here, there, Met, met}

-- ---- a chain

pub below_up : (o : Option ℕ) {k j : ℕ} → Below o k → k ≤ j → Below o j
below_up None b h = tt
below_up (Some i) b h = omega arith

-- how far a chain may still go
abbrev pub ahead : Option ℕ → ℕ
ahead None = 0
ahead (Some i) = suc i

on_none : {links : List (Option ℕ)} {o : Option ℕ} {i : ℕ} → o ≡ None → On links o i → ⊥
on_none e here = cc
on_none e (there o) = cc

-- the name at the start of a chain is another: then it is further on
on_next : {links : List (Option ℕ)} {o : Option ℕ} {i : ℕ} (j : ℕ) → o ≡ Some j → (i ≡ j → ⊥) → On links o i → On links (get_or links j None) i
on_next j e n here = absurd (n cc)
on_next {links} {i = i} j e n (there {k = k} o) = let q : k ≡ j = cc in subst (λ (x : ℕ). On links (get_or links x None) i) q o

pub met_none : {nm pool : List ℕ} {links : List (Option ℕ)} {o : Option ℕ} {s : List ℕ} → o ≡ None → Met nm pool links o s → ⊥
met_none e (met i o q) = on_none e o

module _ {nm pool : List ℕ} {links : List (Option ℕ)} {o : Option ℕ} {s : List ℕ} (j : ℕ) (e : o ≡ Some j) where
  pub met_here : spelled nm pool j ≡ s → Met nm pool links o s
  met_here q = met j (subst (λ (x : Option ℕ). On links x j) (sym e) here) q

  module _ {l : Option ℕ} (p : l ≡ get_or links j None) where
    pub met_there : Met nm pool links l s → Met nm pool links o s
    met_there (met i c q) = met i (subst (λ (x : Option ℕ). On links x i) (sym e) (there (subst (λ (x : Option ℕ). On links x i) p c))) q

    pub met_next : (spelled nm pool j ≡ s → ⊥) → Met nm pool links o s → Met nm pool links l s
    met_next n (met i c q) = met i (subst (λ (x : Option ℕ). On links x i) (sym p) (on_next j e (λ r. n (subst (λ (x : ℕ). spelled nm pool x ≡ s) r q)) c)) q

pub met_as : {nm pool : List ℕ} {links : List (Option ℕ)} {k l : Option ℕ} {s t : List ℕ} → k ≡ l → s ≡ t → Met nm pool links k s → Met nm pool links l t
met_as {links = links} e p (met i o q) = met i (subst (λ (x : Option ℕ). On links x i) e o) (q ∙ p)

-- a chain from below j does not go by link j
on_set : {links : List (Option ℕ)} {o : Option ℕ} {i : ℕ} (j : ℕ) (w : Option ℕ) → Links links → Below o j → On links o i → On (set links j w) o i
on_set j w ok h here = here
on_set {links} {i = i} j w ok h (there {k = k} o) =
    there (subst (λ (x : Option ℕ). On (set links j w) x i) (sym (get_or-set_other links j k w None (λ e. omega arith))) (on_set j w ok (below_up (get_or links k None) (ok.down k) (omega arith)) o))

-- the names on a chain from below n are below n
on_below : {links : List (Option ℕ)} {o : Option ℕ} {i : ℕ} (n : ℕ) → Links links → Below o n → On links o i → i < n
on_below n ok h here = h
on_below n ok h (there {k = k} o) = omega (arith, on_below k ok (ok.down k) o, h)

-- ---- the names passed

pub record NameOk (nm pool : List ℕ) (k : ℕ) : Type 0 where
  pub some : 0 < name_len nm k
  pub inside : name_off nm k + name_len nm k ≤ length pool
  pub once : (i : ℕ) → i < k → spelled nm pool i ≡ spelled nm pool k → ⊥

pub record Chained (nm pool : List ℕ) (heads links : List (Option ℕ)) (j : ℕ) : Type 0 where
  pub headed : length heads ≡ 1024
  pub linked : Links links
  pub low : (h : ℕ) → Below (get_or heads h None) j
  pub good : (k : ℕ) → k < j → NameOk nm pool k
  pub on : (k : ℕ) → k < j → On links (get_or heads (hash_of (spelled nm pool k)) None) k

no_links : (n k j : ℕ) → Below (get_or (replicate n None) k None) j
no_links zero k j = tt
no_links (suc n) zero j = tt
no_links (suc n) (suc k) j = no_links n k j

pub chained_none : (nm pool : List ℕ) → Chained nm pool (replicate 1024 None) (replicate 1024 None) 0
chained_none nm pool =
    record {
      headed = length-replicate {A = Option ℕ} 1024 None;
      linked = record { size = length-replicate {A = Option ℕ} 1024 None; down = λ k. no_links 1024 k k };
      low = λ h. no_links 1024 h 0;
      good = λ k h. absurd (omega arith);
      on = λ k h. absurd (omega arith);
    }

pub chained_all : {nm pool : List ℕ} {heads links : List (Option ℕ)} {j n : ℕ} → Chained nm pool heads links j → n ≤ j → BadNames n nm pool → ⊥
chained_all c l (empty k h e) = omega (arith, (c.good k (omega arith)).some)
chained_all c l (past_pool k h e) = omega (arith, (c.good k (omega arith)).inside)
chained_all c l (spelled-before i k h h' e) = (c.good k (omega arith)).once i h e

-- name j, whose spelling has the number h and is not met on its chain
module _ {nm pool : List ℕ} {heads links : List (Option ℕ)} {j : ℕ} (c : Chained nm pool heads links j) (h : ℕ) (e : h ≡ hash_of (spelled nm pool j)) (b : h < 1024) (l : j < 1024) where
  -- a name on its chain that is spelled the same is an earlier one
  pub chained_met : {n : ℕ} → j < n → Met nm pool links (get_or heads h None) (spelled nm pool j) → BadNames n nm pool
  chained_met k (met i o q) = spelled-before i j (on_below j c.linked (c.low h) o) k q

  link_same : get_or (set links j (get_or heads h None)) j None ≡ get_or heads h None
  link_same = get_or-set_same links j (get_or heads h None) None (omega (arith, c.linked.size))

  linked_more : Links (set links j (get_or heads h None))
  linked_more =
      record {
        size = length-set links j (get_or heads h None) ∙ c.linked.size;
        down = λ k. elim (ℕ_discrete k j) [
          | yes q ↦ subst (λ (x : ℕ). Below (get_or (set links j (get_or heads h None)) x None) x) (sym q) (rw link_same (c.low h))
          | no q ↦ rw (get_or-set_other links j k (get_or heads h None) None q) (c.linked.down k)
        ];
      }

  head_same : get_or (set heads h (Some j)) h None ≡ Some j
  head_same = get_or-set_same heads h (Some j) None (omega (arith, c.headed))

  head_other : (g : ℕ) → (g ≡ h → ⊥) → get_or (set heads h (Some j)) g None ≡ get_or heads g None
  head_other g q = get_or-set_other heads h g (Some j) None q

  -- the chain of an earlier name goes on
  on_more : (k g : ℕ) → On links (get_or heads g None) k → On (set links j (get_or heads h None)) (get_or (set heads h (Some j)) g None) k
  on_more k g o =
      elim (ℕ_discrete g h) [
        | yes q ↦ subst (λ (x : Option ℕ). On (set links j (get_or heads h None)) x k) (sym (ap (λ (x : ℕ). get_or (set heads h (Some j)) x None) q ∙ head_same))
            (there (subst (λ (x : Option ℕ). On (set links j (get_or heads h None)) x k) (ap (λ (x : ℕ). get_or heads x None) q ∙ sym link_same) kept))
        | no q ↦ subst (λ (x : Option ℕ). On (set links j (get_or heads h None)) x k) (sym (head_other g q)) kept
      ]
    where
      kept : On (set links j (get_or heads h None)) (get_or heads g None) k
      kept = on_set j (get_or heads h None) c.linked (c.low g) o

  pub chained_more : 0 < name_len nm j → name_off nm j + name_len nm j ≤ length pool → (Met nm pool links (get_or heads h None) (spelled nm pool j) → ⊥)
      → Chained nm pool (set heads h (Some j)) (set links j (get_or heads h None)) (j + 1)
  chained_more s i n =
      record {
        headed = length-set heads h (Some j) ∙ c.headed;
        linked = linked_more;
        low = λ g. elim (ℕ_discrete g h) [
          | yes q ↦ subst (λ (x : ℕ). Below (get_or (set heads h (Some j)) x None) (j + 1)) (sym q) (rw head_same (omega arith))
          | no q ↦ rw (head_other g q) (below_up (get_or heads g None) (c.low g) (omega arith))
        ];
        good = below_more _ j c.good (record { some = s; inside = i; once = λ k a q. n (met k (subst (λ (x : ℕ). On links (get_or heads x None) k) (ap hash_of q ∙ sym e) (c.on k a)) q) });
        on = below_more _ j (λ k a. on_more k (hash_of (spelled nm pool k)) (c.on k a))
            (subst (λ (x : Option ℕ). On (set links j (get_or heads h None)) x j) (sym (ap (λ (x : ℕ). get_or (set heads h (Some j)) x None) (sym e) ∙ head_same)) here);
      }
