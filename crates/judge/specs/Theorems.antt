-- What is proved of the numbers that judging gives back.
use Rattle.std.specs.Prelude.{ℕ, zero, suc, ◌+◌, ◌*◌, ◌≤◌, ◌<◌, ◌≡◌, refl, false, List, ◌∷◌, map, length, take}
use Rattle.std.proofs.Common.{sym, ap, ◌∙◌, subst, arith}
use Rattle.std.proofs.Math.Option.{some}
use Rattle.std.proofs.Math.ListN.{get_elem?}
use Rattle.base.specs.First.{NoneHolds, At, first_one, first-none, none-at}
use Rattle.base.specs.Smallest.{Smallest, first_smallest}
use Rattle.base.specs.UpTo.{up_to}
use Rattle.lexical.specs.Places.{Distinct, at-below}
use Rattle.lexical.specs.Tree.{Forest, nil, node}
use Rattle.lexical.specs.Table.{allowed, kinds, param_names, Tabled}
use Rattle.lexical.specs.Module.{Entry}
use Rattle.lexical.specs.Claims.{Scoped}
use Rattle.lexical.proofs.Laws.Scopes.{once_scoped}
use Rattle.nodefile.specs.Node.{kind_of, value_of, below}
use Rattle.nodefile.specs.Layout.{name_count, entry_count, nodes_of, names_of, pool_of, entries_of, nodes_length}
use Rattle.nodefile.specs.Lists.{name_off, name_len}
use Rattle.nodefile.specs.Reads.{Reads}
use Rattle.nodefile.proofs.Laws.Reads.{reads_kids, reads_length, reads_root}
use Rattle.nodefile.specs.Order.{Spot, spots_in}
use Rattle.nodefile.proofs.Laws.Order.{spots_count, spot_at}
use Rattle.nodefile.proofs.Laws.Trees.{tree}
use Rattle.nodefile.specs.FileOf.{entry_of, file_of}
use Rattle.base.specs.Says.{unless, unless_not, holds}
use Rattle.header.specs.Header.{HeaderOk, header_ok}
use Rattle.names.specs.Names.{NamesOk, empty, past_pool, spelled-before}
use Rattle.names.specs.Lists.{BadList, no_such_name as not_listed, twice, bad_entry, bad_global}
use Rattle.shape.specs.Nodes.{at, has_name, has_scope, Sound, sound, no_such_name, stray_value}
use Rattle.shape.specs.Children.{root_no_statement, other_children}
use Rattle.scoping.specs.Depth.{too_deep}
use Rattle.nodefile.specs.Height.{height}
use Rattle.scoping.specs.Scopes.{EachOnce, not-each_once, many_scopes}
use Rattle.scoping.specs.Params.{same_name}
use Rattle.judge.specs.Cond.{judging, Judged}
use Rattle.judge.specs.Accepted.{ListOk, NodeOk, Each, Root, Accepted}
use Rattle.judge.specs.Laws.Decided.{distinct_not, each-not}
use Rattle.judge.specs.Laws.Read.{each_spots, scopes_read, params_read}
use Rattle.judge.specs.Laws.Front.{front}

-- no second answer fits
pub judged_one : {bs : List ℕ} {r q : ℕ} → Judged bs r → Judged bs q → r ≡ q
judged_one {bs} j k = first_one (judging bs) j k

-- the answer is the smallest number whose condition holds, as document 01 says: the table's numbers stand in rising order
pub judged_smallest : {bs : List ℕ} {r : ℕ} → Judged bs r → Smallest (judging bs) r
judged_smallest {bs} {r} j = first_smallest (judging bs) r tt j

-- a file longer than any that is accepted, 12 + 8 · 2,048 + 3 · 1,024 + 4 · 256 + 2 · 256 + 16,384 bytes, is judged as its first n bytes
pub judged_front : (bs : List ℕ) (n r : ℕ) → 37388 < n → n ≤ length bs → Judged (take n bs) r → Judged bs r
judged_front = front

-- ---- a file that judging accepts

list_ok : (names : ℕ) (xs : List ℕ) → (BadList names xs → ⊥) → ListOk names xs
list_ok names xs ok = record { known = λ x m. unless (suc x) names ok (λ h. not_listed x m (omega arith)); once = distinct_not xs (λ d. ok (twice d)) }

module _ (bs : List ℕ) (none : NoneHolds (judging bs)) where
  c : (k : ℕ) → At (judging bs) k → ⊥
  c = none-at (judging bs) none

  header : HeaderOk bs
  header = header_ok bs (c 2) (c 3) (c 4)

  names : NamesOk (name_count bs) (names_of bs) (pool_of bs)
  names = record {
    some = λ j l. unless 1 (name_len (names_of bs) j) (c 5) (λ h. empty j l (omega arith));
    inside = λ j l. unless (name_off (names_of bs) j + name_len (names_of bs) j) (length (pool_of bs)) (c 5) (past_pool j l);
    once = λ i j a l e. c 5 (spelled-before i j a l e);
  }

  ok : Sound (nodes_of bs)
  ok = sound (name_count bs) (nodes_of bs) (c 7)

  held : (f : Forest) × Reads (nodes_of bs) 0 f
  held = tree (nodes_of bs) (record { root = ok.root; local = ok.fits })

  root : Root held.0
  root =
      let r = reads_root held.0 (nodes_of bs) 0 (omega (arith, nodes_length bs header.total, header.some)) ok.root held.1 in
      record { kind = kind_of (nodes_of bs); value = value_of (nodes_of bs); kids = r.0; is = r.1; statement = unless (kind_of (nodes_of bs)) 7 (c 8) root_no_statement }

  node_ok : (i : ℕ) (s : Spot) → get_elem? (spots_in held.0) i ≡ some s → NodeOk (name_count bs) s
  node_ok i s e =
      let q = spot_at held.0 (nodes_of bs) 0 i s held.1 e in
      let l : 8 * i < length (nodes_of bs) = omega (arith, at-below (spots_in held.0) i s e, reads_length held.0 (nodes_of bs) 0 held.1, spots_count held.0) in
      let t = at (nodes_of bs) i in
      record {
        kind = omega (arith, q.kind, ok.known i l);
        children = holds (allowed s.kind (kinds s.kids)) (λ z. c 8 (other_children i l (kinds s.kids) (reads_kids s.kids (below t) (0 + i + 1) q.under) (subst (λ (k : ℕ). allowed k (kinds s.kids) ≡ false) q.kind z)));
        name = λ h. unless (suc s.value) (name_count bs) (c 7) (λ z. no_such_name i l (ap has_name (sym q.kind) ∙ h) (omega (arith, q.value)));
        zero = λ h g. unless_not s.value 0 (c 7) (λ z. stray_value i l (ap has_name (sym q.kind) ∙ h) (ap has_scope (sym q.kind) ∙ g) (λ v. z (q.value ∙ v)));
        params = λ h. distinct_not (param_names s.kids) (λ d. c 11 (same_name i l (ap has_scope (sym q.kind) ∙ h) (param_names s.kids) (params_read s.kids (below t) (0 + i + 1) q.under) d));
      }

  all : Accepted bs
  all = record {
    header = header;
    names = names;
    entries = list_ok (name_count bs) _ (λ h. c 6 (bad_entry h));
    globals = list_ok (name_count bs) _ (λ h. c 6 (bad_global h));
    tree = held.0;
    reads = held.1;
    root = root;
    nodes = each_spots (NodeOk (name_count bs)) held.0 node_ok;
    shallow = unless (height held.0) 64 (c 9) (too_deep held.0 held.1);
    scopes = subst EachOnce (sym (scopes_read held.0 (nodes_of bs) ok held.1)) (each-not _ (λ n. c 10 (not-each_once n)));
    few = subst (λ (xs : List ℕ). length xs ≤ 255) (sym (scopes_read held.0 (nodes_of bs) ok held.1)) (unless _ 255 (c 10) many_scopes);
  }

pub accepted : (bs : List ℕ) → Judged bs 0 → Accepted bs
accepted bs j = all bs (first-none (judging bs) 0 tt refl j)

-- its tree keeps to the table
pub each_tabled : (names : ℕ) (f : Forest) → Each (NodeOk names) f → Tabled f
unfolding Tabled
each_tabled names nil e = tt
each_tabled names (node a k v kids rest) e = (e.0.kind, e.0.children, each_tabled names kids e.1, each_tabled names rest e.2)

pub accepted_tabled : {bs : List ℕ} (a : Accepted bs) → Tabled a.tree
accepted_tabled {bs} a = each_tabled (name_count bs) a.tree a.nodes

-- its scope numbers are distinct and not 0
pub accepted_scoped : {bs : List ℕ} (a : Accepted bs) → Scoped (file_of bs a.tree)
accepted_scoped {bs} a = once_scoped (file_of bs a.tree) a.scopes.once

-- the names of its module entries are distinct
map_up_to : (f : ℕ → Entry) (n : ℕ) → map (λ (e : Entry). e.name) (up_to f n) ≡ up_to (λ k. (f k).name) n
unfolding up_to
map_up_to f zero = refl
map_up_to f (suc n) = ap (λ (l : List ℕ). (f 0).name ∷ l) (map_up_to (λ k. f (suc k)) n)

pub accepted_entries : {bs : List ℕ} (a : Accepted bs) → Distinct (map (λ (e : Entry). e.name) (file_of bs a.tree).entries)
accepted_entries {bs} a = subst Distinct (sym (map_up_to (entry_of (entries_of bs)) (entry_count bs))) a.entries.once
