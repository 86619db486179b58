-- A tree keeps to document 01's table of children where each node of the bytes does: its kind is at most 18, and the kinds of the
-- nodes that its own stretch falls into are as the table allows.
use Rattle.std.specs.Prelude.{ℕ, suc, ◌+◌, ◌*◌, ◌≤◌, ◌<◌, ◌≡◌, refl, true, List, length, drop}
use Rattle.std.proofs.Common.{◌∙◌, arith}
use Rattle.std.proofs.Math.Option.{some}
use Rattle.std.proofs.Math.ListN.{get_elem?}
use Rattle.base.specs.UpTo.{at_behind}
use Rattle.lexical.specs.Places.{at-below, at_append}
use Rattle.lexical.specs.Tree.{Forest, nil, node}
use Rattle.lexical.specs.Table.{allowed, kinds, Tabled}
use Rattle.nodefile.specs.Node.{below}
use Rattle.nodefile.specs.Reads.{Reads}
use Rattle.nodefile.proofs.Laws.Reads.{reads_kids, reads_length}
use Rattle.nodefile.specs.Order.{Spot, spots_in}
use Rattle.nodefile.proofs.Laws.Order.{spots_count, spot_at}
use Rattle.nodefile.specs.Tabled.{RowKept}

-- what the table asks of one node of the tree
abbrev InTable : Spot → Type 0
InTable s = (s.kind ≤ 18) × (allowed s.kind (kinds s.kids) ≡ true)

tabled_spots : (f : Forest) → ((i : ℕ) (s : Spot) → get_elem? (spots_in f) i ≡ some s → InTable s) → Tabled f
unfolding Tabled spots_in
tabled_spots nil h = tt
tabled_spots (node a k v ks rs) h =
    let here = h 0 _ refl in (
      here.0,
      here.1,
      tabled_spots ks (λ i s e. h (suc i) s (at_append (spots_in ks) (spots_in rs) i s e)),
      tabled_spots rs (λ i s e. h (suc (length (spots_in ks) + i)) s (at_behind (spots_in ks) (spots_in rs) i ∙ e)),
    )

pub reads_tabled : (f : Forest) (t : List ℕ) (at : ℕ) → Reads t at f → ((i : ℕ) → 8 * i < length t → RowKept (drop (8 * i) t)) → Tabled f
reads_tabled f t at r h =
    tabled_spots f
    (λ i s e. let q = spot_at f t at i s r e in
    let k = h i (omega (arith, at-below (spots_in f) i s e, reads_length f t at r, spots_count f)) in (
      omega (arith, q.kind, k.0),
      rw q.kind (k.1 (kinds s.kids) (reads_kids s.kids (below (drop (8 * i) t)) (at + i + 1) q.under)),
    ))
