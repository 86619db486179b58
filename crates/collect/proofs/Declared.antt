-- The steps of `declare_node`: what a Def, a Lambda and another node add to the tables of walk two.
use Rattle.std.specs.Prelude.{ℕ, ◌+◌, ◌-◌, ◌*◌, ◌≤◌, Result}
use mathlib.Core.Path.{◌≡◌, refl, sym, ap, ◌∙◌}
use mathlib.Core.List.{List, [], ◌∷◌, append-nil}
use native.Mathlib.Omega.{arith}
use native.Mathlib.Nat.{zero-add}
use lib.ListN.{length, take, drop}
use lib.Seq.{drop-drop}
use Rattle.base.specs.Parts.{drop-take, part_length}
use Rattle.lexical.specs.Tree.{Forest, nil, node, way, is_fn, when, after, params}
use Rattle.lexical.specs.Binders.{Names, collect, unmarked, targets}
use Rattle.lexical.specs.State.{Row, St}
use Rattle.lexical.specs.Second.{declare_here, declare_fn}
use Rattle.lexical.proofs.Theory.Kinds.{no_fn}
use Rattle.nodefile.specs.Node.{size_of, kind_of, value_of, below}
use Rattle.nodefile.proofs.Laws.Reads.{below_length}
use Rattle.store.specs.declared.ids.State.{State}
use Rattle.store.specs.declared.ids.Full.{Full}
use Rattle.store.specs.Sections.{Mem}
use Rattle.nodefile.specs.Parts.{Named}
use Rattle.nodefile.proofs.Laws.Parts.{kids_part, named}
use Rattle.collect.specs.Declare.{own_params, Function, PreFunction, FunctionDone, Here, PreHere, HereDone}

-- ---- what a node adds

module _ (N : Names) (k v : ℕ) (kids : Forest) (x : List Row × St) where
  -- a Def: its own Name does not count
  pub here_def : (s a n : ℕ) (rest : Forest) → k ≡ 6 → s ≡ v → kids ≡ node a 8 n nil rest
      → (declare_here (way k) v (targets N k kids) x ≡ declare_fn s (collect N unmarked rest) x) × (own_params (way k) v kids ≡ (s, params rest) ∷ [])
  unfolding way is_fn when targets declare_here declare_fn after params
  here_def s a n rest e h q = rw (e, h, q) (refl, ap (λ (i : ℕ). (v, i) ∷ []) (zero-add (params rest)))

  pub here_lambda : (s : ℕ) → k ≡ 12 → s ≡ v
      → (declare_here (way k) v (targets N k kids) x ≡ declare_fn s (collect N unmarked kids) x) × (own_params (way k) v kids ≡ (s, params kids) ∷ [])
  unfolding way is_fn when targets declare_here declare_fn
  here_lambda s e h = rw (e, h) (refl, refl)

  pub here_other : (k ≡ 6 → ⊥) → (k ≡ 12 → ⊥) → (declare_here (way k) v (targets N k kids) x ≡ x) × (own_params (way k) v kids ≡ [])
  unfolding declare_here when
  here_other a b = rw (no_fn k a b) (refl, refl)

-- `&part[8 * before..end]` of a Def: the children without the first, if that takes 8 bytes
pub second-part : (t : List ℕ) (k : ℕ) → k ≡ size_of t → take (8 * k - 16) (drop 16 t) ≡ drop 8 (below t)
second-part t k h =
    let z : 8 * size_of t - 8 - 8 ≡ 8 * k - 16 = omega arith in
    rw (drop-take 8 (8 * size_of t - 8) (drop 8 t), z, drop-drop 8 8 t) refl

module _ {part : List ℕ} {at : ℕ} {s : Result State Full} {m : Mem} (p : PreHere part at s m) where
  -- neither a Def nor a Lambda
  pub d_other : (kind_of part ≡ 6 → ⊥) → (kind_of part ≡ 12 → ⊥) → HereDone part at s m s m
  d_other a b = record {
    right = λ g.
        let q = here_other g.F.names g.k g.v g.kids (g.tbl, g.st) (λ e. a (g.kind_is ∙ e)) (λ e. b (g.kind_is ∙ e)) in
        rw (q.0, q.1, append-nil g.ps) g.rel;
  }

  module _ (k : ℕ) (hk : k ≡ size_of part) where
    pub d_long : (8 ≤ 8 * k) × (8 * k ≤ length part)
    d_long = let g = p.ghost in omega (arith, g.some, g.inside)

    -- a Def has its Name
    module _ (e : kind_of part ≡ 6) where
      d_name : (g : Here part at s m) → Named (below part) (at + 1) g.kids
      d_name g = named (below part) (at + 1) g.kids g.reads g.valid (g.ok.def (sym g.kind_is ∙ e)).1

      pub d_def_long : 16 ≤ 8 * k
      d_def_long = let g = p.ghost in omega (arith, (d_name g).long, below_length part g.some g.inside, g.some)

    module _ (scope : ℕ) (hs : scope ≡ value_of part) where
      -- a Lambda
      module _ (e : kind_of part ≡ 12) where
        abbrev d-lambda-ghost : Here part at s m → Function (take (8 * k - 8) (drop 8 part)) (at + 1) scope s m
        d-lambda-ghost g = let z = hs ∙ g.value_is in let o = sym g.kind_is ∙ e in record {
          F = g.F;
          tbl = g.tbl;
          ps = g.ps;
          st = g.st;
          f = g.kids;
          reads = rw (kids_part part (8 * k) (ap (λ (n : ℕ). 8 * n) hk)) g.reads;
          valid = g.valid;
          small = rw z (g.ok.lambda o).0;
          unmet = rw z (g.lambda_unmet o);
          rel = g.rel;
        }

        pub d_lambda_pre : PreFunction (take (8 * k - 8) (drop 8 part)) (at + 1) scope s m
        d_lambda_pre = record {
          long = p.long;
          below = omega arith;
          within = omega (arith, p.within, d_long, part_length part 8 (8 * k - 8) (omega (arith, d_long)));
          ghost = d-lambda-ghost p.ghost;
        }

        pub d_lambda : {r : Result State Full} {m' : Mem} → FunctionDone (take (8 * k - 8) (drop 8 part)) (at + 1) scope s m r m' → HereDone part at s m r m'
        d_lambda {r} {m'} d = record {
          right = λ g.
              let q = here_lambda g.F.names g.k g.v g.kids (g.tbl, g.st) scope (sym g.kind_is ∙ e) (hs ∙ g.value_is) in
              rw (q.0, q.1) (d.right (d-lambda-ghost g));
        }

      -- a Def
      module _ (e : kind_of part ≡ 6) where
        d_number : at + 1 + 1 ≡ at + 2
        d_number = omega arith

        abbrev d-def-ghost : Here part at s m → Function (take (8 * k - 16) (drop 16 part)) (at + 2) scope s m
        d-def-ghost g = let z = hs ∙ g.value_is in let o = sym g.kind_is ∙ e in let q = d_name e g in record {
          F = g.F;
          tbl = g.tbl;
          ps = g.ps;
          st = g.st;
          f = q.rest;
          reads = rw (second-part part k hk, ← d_number) q.after;
          valid = q.valid;
          small = rw z (g.ok.def o).0;
          unmet = rw z (g.def_unmet o);
          rel = g.rel;
        }

        pub d_def_pre : PreFunction (take (8 * k - 16) (drop 16 part)) (at + 2) scope s m
        d_def_pre = record {
          long = p.long;
          below = omega arith;
          within = omega (arith, p.within, d_long, d_def_long e, part_length part 16 (8 * k - 16) (omega (arith, d_long, d_def_long e)));
          ghost = d-def-ghost p.ghost;
        }

        pub d_def : {r : Result State Full} {m' : Mem} → FunctionDone (take (8 * k - 16) (drop 16 part)) (at + 2) scope s m r m' → HereDone part at s m r m'
        d_def {r} {m'} d = record {
          right = λ g.
              let n = d_name e g in
              let q = here_def g.F.names g.k g.v g.kids (g.tbl, g.st) scope (at + 1) (value_of (below part)) n.rest (sym g.kind_is ∙ e) (hs ∙ g.value_is) n.is in
              rw (q.0, q.1) (d.right (d-def-ghost g));
        }
