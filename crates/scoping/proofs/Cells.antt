-- Number 11 of the whole list: the functions in the order of their scope numbers.
use Prim.Native.Nat.{ℕ, ◌+◌, ◌-◌, ◌*◌, ◌≤◌, ◌<◌}
use mathlib.Core.Path.{◌≡◌, sym, ap, ◌∙◌, subst}
use mathlib.Core.List.{List}
use native.Mathlib.Omega.{arith}
use native.Mathlib.Decide.{dec_lt}
use lib.ListN.{length, get_or, take, drop, replicate, length-drop, length-replicate}
use Rattle.std.specs.Prelude.{map, Option, None, Some}
use Rattle.lexical.specs.Places.{Distinct}
use Rattle.nodefile.specs.Node.{size_of, below}
use Rattle.shape.specs.Nodes.{at, Sound}
use Rattle.scoping.specs.Scopes.{number}
use Rattle.scoping.specs.Params.{ParamNames, BadParams, same_name}
use Rattle.scoping.specs.Inside.Found.{cell_of, Scope, Source, Found}
use Rattle.scoping.specs.Inside.Naming.{Fresh}
use Rattle.marks.specs.Marks.{zeros}
use Rattle.nodefile.proofs.Laws.Fitting.{below-is}
use Rattle.scoping.proofs.Holding.{cell_at}
use Rattle.scoping.proofs.Naming.{params-some}

-- the parameters of the functions with a number below v
pub record Apart (ns marks : List ℕ) (v : ℕ) : Type 0 where
  pub fresh : Fresh marks v
  pub differ : (i : ℕ) → Scope ns i → number ns i < v → (vs : List ℕ) → ParamNames (below (at ns i)) vs → Distinct vs

-- the function with the number v, and the part t of the list that starts with it
pub record Cell (ns found : List ℕ) (v : ℕ) (t : List ℕ) : Type 0 where
  pub node : ℕ
  pub is : Scope ns node
  pub cell : get_or found v 0 ≡ node + 1
  pub part : t ≡ at ns node
  pub some : 0 < size_of t
  pub inside : 8 * size_of t ≤ length t

pub cell_kids : {ns found : List ℕ} {v s : ℕ} {t : List ℕ} (h : Cell ns found v t) → s ≡ size_of t → take (8 * s - 8) (drop 8 t) ≡ below (at ns h.node)
cell_kids {t = t} h e = below-is t e ∙ ap below h.part

module _ {ns found : List ℕ} (s : Sound ns) (f : Found ns found) where
  cell_found : (v i : ℕ) {t : List ℕ} → get_or found v 0 ≡ i + 1 → t ≡ drop (8 * i) ns → Cell ns found v t
  cell_found v i {t} e d =
      record {
        node = o.node;
        is = o.is;
        cell = o.cell;
        part = here;
        some = subst (λ (u : List ℕ). 0 < size_of u) (sym here) (s.some o.node o.is.inside);
        inside = subst (λ (u : List ℕ). 8 * size_of u ≤ length u) (sym here) (omega (arith, s.inside o.node o.is.inside, length-drop (8 * o.node) ns));
      }
    where
      o : Source ns found v
      o = f.back v (λ q. omega (arith, e))

      here : t ≡ at ns o.node
      here = let q : i ≡ o.node = omega (arith, o.cell) in d ∙ ap (λ (x : ℕ). at ns x) q

  pub apart_none : Apart ns (replicate 1024 0) 1
  apart_none =
      record {
        fresh = record { size = length-replicate {A = ℕ} 1024 0; earlier = λ v. omega (arith, zeros 1024 v) };
        differ = λ i p h. absurd (omega (arith, f.low i p));
      }

  module _ {marks : List ℕ} {v : ℕ} (a : Apart ns marks v) where
    -- every number is below v
    pub apart_all : ((i : ℕ) → Scope ns i → number ns i < v) → BadParams ns → ⊥
    apart_all b (same_name i l e vs p d) = let o : Scope ns i = record { inside = l; scope = e } in d (a.differ i o (b i o) vs p)

    module _ {size : ℕ} {t : List ℕ} (h : Cell ns found v t) (e : size ≡ size_of t) where
      -- two of its Params have one name
      pub apart_fault : ((vs : List ℕ) → ParamNames (take (8 * size - 8) (drop 8 t)) vs → Distinct vs → ⊥) → BadParams ns
      apart_fault g =
          let p = params-some (s.fits h.node h.is.inside).1 in
          same_name h.node h.is.inside h.is.scope p.0 p.1 (g p.0 (subst (λ (u : List ℕ). ParamNames u p.0) (sym (cell_kids h e)) p.1))

      -- all of them differ
      pub apart_more : {marks' : List ℕ} → ((vs : List ℕ) → ParamNames (take (8 * size - 8) (drop 8 t)) vs → Distinct vs) → Fresh marks' (v + 1) → Apart ns marks' (v + 1)
      apart_more g r = record { fresh = r; differ = λ i p l. elim (dec_lt (number ns i) v) [ yes b ↦ a.differ i p b | no b ↦ this i p (omega arith) ] }
        where
          this : (i : ℕ) → Scope ns i → number ns i ≡ v → (vs : List ℕ) → ParamNames (below (at ns i)) vs → Distinct vs
          this i p q vs w =
              let same : i ≡ h.node = omega (arith, f.note i p, ap (λ (x : ℕ). get_or found x 0) q, h.cell) in
              g vs (subst (λ (u : List ℕ). ParamNames u vs) (ap (λ (x : ℕ). below (at ns x)) same ∙ sym (cell_kids h e)) w)

-- the function that a cell holds
pub cell_here : {ns : List ℕ} (held : List (Option ℕ)) (v i : ℕ) → Sound ns → Found ns (map cell_of held) → get_or held v None ≡ Some i
    → {n : ℕ} → n ≡ i → {t : List ℕ} → t ≡ drop (8 * n) ns → Cell ns (map cell_of held) v t
cell_here {ns} held v i s f e q d = cell_found s f v i (cell_at held v e) (d ∙ ap (λ (x : ℕ). drop (8 * x) ns) q)
