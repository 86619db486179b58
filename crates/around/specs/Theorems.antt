-- What `scopes` and `outer` give of a file that holds a tree (document 01's conditions give it) is the definition's: `scopes_of` of the nodes around a node.
--     counted_all                 all nodes are counted
--     scopes_around, scopes_are   the scopes around a node, outermost first
--     scopes_few                  64 places are enough for them: a file's tree is no deeper
--     outer_are, outer_else       the scope directly around each Def's and Lambda's own
use Rattle.std.specs.Prelude.{ℕ, suc, ◌-◌, ◌*◌, ◌<◌, ◌≤◌, ◌≡◌, length, get_or, replicate}
use Rattle.std.proofs.Math.Path.{refl, sym, ap}
use Rattle.std.proofs.Common.{◌∙◌, subst, arith, take_all}
use Rattle.std.proofs.Math.Bool.{true}
use Rattle.std.proofs.Math.Option.{some}
use mathlib.Core.List.{List, [], reverse}
use Rattle.std.proofs.Math.Decide.{dec_lt}
use Rattle.std.proofs.Math.ListN.{length-replicate, get_or-eq_default}
use Rattle.std.proofs.lemmas.List.{get_or-replicate}
use Rattle.lexical.specs.Places.{In, Distinct}
use Rattle.lexical.specs.Tree.{Forest, plain, is_fn, when, top, scopes_in}
use Rattle.lexical.specs.Binders.{Names}
use Rattle.lexical.specs.Meaning.{Around, scopes_of}
use Rattle.lexical.specs.Claims.{ancestors}
use Rattle.nodefile.specs.Reads.{Reads}
use Rattle.nodefile.proofs.Laws.Reads.{reads_length}
use Rattle.nodefile.specs.Height.{height}
use Rattle.nodefile.specs.Listed.{kind_at, value_at, is_scope}
use Rattle.nodefile.specs.Layout.{node_count, file_length, nodes_of, nodes_length}
use Rattle.around.specs.Scopes.{counted, scopes_at}
use Rattle.around.specs.Descent.{scopes_there}
use Rattle.around.specs.Opens.{range}
use Rattle.around.specs.Outer.{levels, outers_of, outer_table}
use Rattle.around.specs.Table.{places, stored_at, stored_other}
use Rattle.around.specs.ScopesLaws.{entered}
use Rattle.around.specs.Few.{few}
use Rattle.around.specs.OuterLaws.{outer-places, noted}

-- a file of the length that its header says has the nodes that its header counts
pub counted_all : (bs : List ℕ) → length bs ≡ file_length bs → counted (nodes_of bs) ≡ node_count bs
counted_all bs e = omega (arith, nodes_length bs e)

zeros : (n s : ℕ) → ◌≡◌ {A = ℕ} (get_or (replicate n 0) s 0) 0
zeros n s =
    elim (dec_lt s n) [
      | yes h ↦ get_or-replicate n s 0 0 h
      | no h ↦ get_or-eq_default (replicate n 0) 0 {n = s} (omega (arith, length-replicate {A = ℕ} n 0))
    ]

module _ (bs : List ℕ) (root : Forest) (r : Reads (nodes_of bs) 0 root) where
  whole : 8 * counted (nodes_of bs) ≡ length (nodes_of bs)
  whole = omega (arith, reads_length root (nodes_of bs) 0 r)

  all : Reads (range (nodes_of bs) 0 (counted (nodes_of bs))) 0 root
  all = subst (λ (t : List ℕ). Reads t 0 root) (sym (take_all (8 * (counted (nodes_of bs) - 0)) (nodes_of bs) (omega (arith, whole)))) r

  -- every node stands among nodes, and `scopes` gives the scopes around it, outermost first
  pub scopes_around : (N : Names) (x : ℕ) → x < counted (nodes_of bs) → (up : List Around) × (ancestors N x root plain 0 [] true [] ≡ some up) × (scopes_at bs x ≡ reverse (scopes_of up))
  unfolding is_fn when scopes_of
  scopes_around N x h =
      let u = entered N (nodes_of bs) x root (suc x) 0 (counted (nodes_of bs)) (omega (arith, whole)) (omega arith) h (omega arith) all plain 0 [] true [] in
      (u.above, u.are, scopes_there bs x h ∙ sym u.scopes)

  pub scopes_are : (N : Names) (x : ℕ) → x < counted (nodes_of bs) → (up : List Around) → ancestors N x root plain 0 [] true [] ≡ some up → scopes_at bs x ≡ reverse (scopes_of up)
  scopes_are N x h up e =
      let u = scopes_around N x h in
      let z : u.0 ≡ up = cc in
      u.2 ∙ ap (λ (l : List Around). reverse (scopes_of l)) z

  -- they are no more than the tree is deep
  pub scopes_few : (x : ℕ) → x < counted (nodes_of bs) → length (scopes_at bs x) ≤ height root
  scopes_few x h =
      let ns = nodes_of bs in
      let u = few ns x root (suc x) 0 (counted ns) [] (omega (arith, whole)) (omega arith) h (omega arith) all in
      omega (arith, u, ap length (scopes_there bs x h))

  -- `outer`, of a tree that is as deep as a file's may be, and whose scope numbers are distinct
  module _ (deep : height root ≤ levels) (apart : Distinct (scopes_in root)) (n : ℕ) where
    once : places (outers_of bs) ≡ scopes_in root
    unfolding outers_of
    once = outer-places root (nodes_of bs) (counted (nodes_of bs)) levels 0 (counted (nodes_of bs)) 0 0 (omega (arith, whole)) (omega arith) (omega arith) deep all

    -- at a Def's or Lambda's scope number stands the innermost scope around it
    pub outer_are : (N : Names) (x : ℕ) → x < counted (nodes_of bs) → is_scope (kind_at (nodes_of bs) x) ≡ true → value_at (nodes_of bs) x < n
        → (up : List Around) → ancestors N x root plain 0 [] true [] ≡ some up → get_or (outer_table bs n) (value_at (nodes_of bs) x) 0 ≡ top (scopes_of up)
    unfolding outers_of is_fn scopes_of top
    outer_are N x h fn m up e =
        let ns = nodes_of bs in
        let u = noted N ns x fn root (counted ns) levels 0 (counted ns) (omega (arith, whole)) (omega arith) h (omega arith) deep all plain 0 [] true [] 0 0 refl refl in
        let z : u.above ≡ up = cc in
        stored_at (outers_of bs) (replicate n 0) u.place (value_at ns x) (top (scopes_of u.above)) u.noted (subst Distinct (sym once) apart) (omega (arith, length-replicate {A = ℕ} n 0))
        ∙ ap (λ (l : List Around). top (scopes_of l)) z

    -- and 0 at every other number
    pub outer_else : (s : ℕ) → (In s (scopes_in root) → ⊥) → get_or (outer_table bs n) s 0 ≡ 0
    outer_else s h = stored_other (outers_of bs) (replicate n 0) s (λ m. h (subst (In s) once m)) ∙ zeros n s
