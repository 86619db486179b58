-- What is left of the nodes in walk two: forests that stand one after the other, none of whose functions has a row yet; and one node of them.
use Rattle.std.specs.Prelude.{ℕ, ◌+◌, ◌*◌, ◌<◌, Result}
use mathlib.Core.Path.{◌≡◌, refl, sym, ap, ◌∙◌, subst}
use mathlib.Core.Logic.{inl}
use mathlib.Core.Bool.{Bool, true, false, cond}
use mathlib.Core.List.{List, [], ◌∷◌, ◌++◌, append-nil, append_assoc}
use native.Mathlib.Omega.{arith}
use native.Mathlib.Nat.{add-zero}
use lib.ListN.{length, drop, length-drop}
use lib.Seq.{drop-drop}
use Rattle.lexical.specs.Lists.{first_other, eqb-not}
use Rattle.lexical.specs.Places.{In, Distinct, in_left, in_right, distinct_right, disjoint}
use Rattle.lexical.specs.Tree.{Forest, nil, node, Way, way, is_fn, when, listed, params, scopes_in, params_in}
use Rattle.lexical.specs.Binders.{Target, targets}
use Rattle.lexical.specs.Module.{File}
use Rattle.lexical.specs.State.{Row, St}
use Rattle.lexical.specs.Second.{declare_fn, declare_here, declare, keyed, second}
use Rattle.store.specs.declared.ids.State.{State}
use Rattle.store.specs.declared.ids.Full.{Full}
use Rattle.store.specs.Sections.{Mem}
use Rattle.store.specs.Rel.{R}
use Rattle.nodefile.specs.Valid.{NodeOk, Valid}
use Rattle.collect.specs.Declare.{own_params, counted, world_of, Unmet, Here, HereDone}
use Rattle.collect.proofs.Ordered.{own_scope, Stand, declare_all, params_all, scopes_all, ValidAll, stand_more, first_size, first_kind, first_value, first_inside, first_under}

-- ---- another scope has no row either, after a node

unmet_more : (w : Way) (v : ℕ) (kids : Forest) (ts : List Target) (tbl : List Row) (st : St) (ps : List (ℕ × ℕ)) (u : ℕ) → (In u (own_scope w v) → ⊥)
    → Unmet u tbl ps → Unmet u (declare_here w v ts (tbl, st)).0 (ps ++ own_params w v kids)
unfolding declare_here declare_fn when counted
unmet_more w v kids ts tbl st ps u h q = go (is_fn w) h
  where
    go : (b : Bool) → (In u (when b v) → ⊥) → Unmet u (cond b (declare_fn v ts (tbl, st)) (tbl, st)).0 (ps ++ when b (v, params kids))
    go true o =
        let e = eqb-not v u (λ e. o (inl (sym e))) in
        record { row = first_other (keyed u) tbl _ e ∙ q.row; parameters = first_other (counted u) ps _ e ∙ q.parameters }
    go false o = rw append-nil q

-- ---- what is left

pub record Going (F : File) (list : List ℕ) (s : Result State Full) (n : ℕ) (m : Mem) (todo : List Forest) : Type 0 where
  pub tbl : List Row
  pub ps : List (ℕ × ℕ)
  pub st : St
  pub stand : Stand (drop (8 * n) list) n todo
  pub valid : ValidAll todo
  pub apart : Distinct (scopes_all todo)
  pub unmet : (u : ℕ) → In u (scopes_all todo) → Unmet u tbl ps
  pub rel : R (world_of F tbl ps) [] (0 ∷ []) st s m
  pub same : declare_all F.names todo (tbl, st) ≡ second F
  pub counts : ps ++ params_all todo ≡ params_in F.root

-- forests that begin with a node
pub record Next (F : File) (list : List ℕ) (s : Result State Full) (n : ℕ) (m : Mem) : Type 0 where
  pub a : ℕ
  pub k : ℕ
  pub v : ℕ
  pub kids : Forest
  pub rest : Forest
  pub more : List Forest
  pub going : Going F list s n m (node a k v kids rest ∷ more)

pub next : {F : File} {list : List ℕ} {s : Result State Full} {n : ℕ} {m : Mem} (todo : List Forest) → 8 * n < length list → Going F list s n m todo → Next F list s n m
unfolding declare params_in scopes_in listed
next {list = list} {n = n} [] h g = absurd (omega (arith, ap length g.stand, length-drop (8 * n) list))
next {n = n} (nil ∷ fs) h g =
    next fs h
    (record {
      tbl = g.tbl;
      ps = g.ps;
      st = g.st;
      stand = rw add-zero at g.stand.1;
      valid = g.valid.1;
      apart = g.apart;
      unmet = g.unmet;
      rel = g.rel;
      same = g.same;
      counts = g.counts;
    })
next (node a k v kids rest ∷ fs) h g = record { a = a; k = k; v = v; kids = kids; rest = rest; more = fs; going = g }

-- ---- one node

module _ {F : File} {list : List ℕ} {s : Result State Full} {n : ℕ} {m : Mem} (x : Next F list s n m) where
  abbrev n-own : List ℕ
  n-own = own_scope (way x.k) x.v

  abbrev n-left : List ℕ
  n-left = scopes_all (x.kids ∷ x.rest ∷ x.more)

  n_scopes : scopes_all (node x.a x.k x.v x.kids x.rest ∷ x.more) ≡ n-own ++ n-left
  unfolding scopes_in listed
  n_scopes = append_assoc n-own (scopes_in x.kids ++ scopes_in x.rest) (scopes_all x.more) ∙ ap (λ (l : List ℕ). n-own ++ l) (append_assoc (scopes_in x.kids) (scopes_in x.rest) (scopes_all x.more))

  n_apart : Distinct (n-own ++ n-left)
  n_apart = subst Distinct n_scopes x.going.apart

  n_unmet : (u : ℕ) → In u (n-own ++ n-left) → Unmet u x.going.tbl x.going.ps
  n_unmet u h = x.going.unmet u (subst (In u) (sym n_scopes) h)

  n_own_unmet : is_fn (way x.k) ≡ true → Unmet x.v x.going.tbl x.going.ps
  n_own_unmet e = n_unmet x.v (in_left x.v n-own n-left (rw e (unfold when in inl refl)))

  n_def : x.k ≡ 6 → Unmet x.v x.going.tbl x.going.ps
  unfolding way is_fn
  n_def e = n_own_unmet (rw e refl)

  n_lambda : x.k ≡ 12 → Unmet x.v x.going.tbl x.going.ps
  unfolding way is_fn
  n_lambda e = n_own_unmet (rw e refl)

  n_valid : NodeOk n x.k x.v x.kids × Valid x.kids × Valid x.rest
  unfolding Valid
  n_valid = let w = x.going.valid.0 in (rw x.going.stand.0.number at w.0, w.1, w.2)

  pub n_here : Here (drop (8 * n) list) n s m
  n_here =
      let g = x.going in
      let r = g.stand.0 in
      record {
        F = F;
        tbl = g.tbl;
        ps = g.ps;
        st = g.st;
        k = x.k;
        v = x.v;
        kids = x.kids;
        kind_is = first_kind (drop (8 * n) list) n x.a x.k x.v x.kids x.rest r;
        value_is = first_value (drop (8 * n) list) n x.a x.k x.v x.kids x.rest r;
        some = omega (arith, first_size (drop (8 * n) list) n x.a x.k x.v x.kids x.rest r);
        inside = first_inside (drop (8 * n) list) n x.a x.k x.v x.kids x.rest r;
        reads = first_under (drop (8 * n) list) n x.a x.k x.v x.kids x.rest r;
        ok = n_valid.0;
        valid = n_valid.1;
        def_unmet = n_def;
        lambda_unmet = n_lambda;
        rel = g.rel;
      }

  pub n_more : {r : Result State Full} {m' : Mem} → HereDone (drop (8 * n) list) n s m r m' → Going F list r (n + 1) m' (x.kids ∷ x.rest ∷ x.more)
  unfolding declare params_in listed n_here
  n_more {r} {m'} d =
      let g = x.going in
      let own = own_params (way x.k) x.v x.kids in
      let z : 8 * n + 8 ≡ 8 * (n + 1) = omega arith in
      let y = declare_here (way x.k) x.v (targets F.names x.k x.kids) (g.tbl, g.st) in
      record {
        tbl = y.0;
        ps = g.ps ++ own;
        st = y.1;
        stand = rw (drop-drop 8 (8 * n) list, z) at (stand_more (drop (8 * n) list) n x.a x.k x.v x.kids x.rest g.stand.0 x.more g.stand.1);
        valid = (n_valid.1, (n_valid.2, g.valid.1));
        apart = distinct_right n-own n-left n_apart;
        unmet = λ u h. unmet_more (way x.k) x.v x.kids _ g.tbl g.st g.ps u (λ o. disjoint u n-own n-left n_apart o h) (n_unmet u (in_right u n-own n-left h));
        rel = d.right n_here;
        same = g.same;
        counts =
            append_assoc g.ps own (params_all (x.kids ∷ x.rest ∷ x.more))
            ∙ ap (λ (l : List (ℕ × ℕ)). g.ps ++ l) (sym (append_assoc own (params_in x.kids ++ params_in x.rest) (params_all x.more) ∙ ap (λ (l : List (ℕ × ℕ)). own ++ l) (append_assoc (params_in x.kids) (params_in x.rest) (params_all x.more))))
            ∙ g.counts;
      }
