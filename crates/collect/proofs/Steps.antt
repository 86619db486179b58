-- The steps of the functions of the cycle that take one node: what each hands to the one that it calls, and what it makes of what comes back.
use Prim.Native.Nat.{ℕ, ◌+◌, ◌-◌, ◌≤◌}
use mathlib.Core.Path.{◌≡◌, sym, ap, ◌∙◌}
use mathlib.Core.List.{List, [], ◌++◌, append-nil}
use native.Mathlib.Omega.{arith}
use lib.ListN.{length, take, drop}
use Rattle.lexical.specs.Tree.{Forest, pick, shut}
use Rattle.lexical.specs.Binders.{Names, Target, collect}
use Rattle.nodefile.specs.Node.{kind_of, value_of}
use Rattle.store.specs.declared.ids.State.{State}
use Rattle.store.specs.declared.ids.Full.{Full}
use Rattle.std.specs.Prelude.{Result}
use Rattle.store.specs.declared.ids.Block.{Block}
use Rattle.store.specs.declared.ids.Marks.{Marks}
use Rattle.store.specs.Sections.{Mem}
use Rattle.store.specs.Blocks.{RB}
use Rattle.target.specs.Target.{marks_of, Meets, PreTarget, DoneTarget}
use Rattle.nodefile.specs.Parts.{alone, One, Named}
use Rattle.nodefile.proofs.Laws.Parts.{one, kids_length, named}
use Rattle.collect.proofs.Collecting.{shut_node, name_node, def_node}
use Rattle.collect.specs.Cycle.{Ghost, Pre, Pre1, Done}

module _ {part : List ℕ} {at : ℕ} {b : Block} {s : Result State Full} {m : Mem} (p : Pre1 part at b s m) where
  abbrev x-one : (g : Ghost part at b s m) → One part at g.f
  x-one g = one part p.some p.whole at g.f g.reads g.valid

  pub x_kind : kind_of part ≤ 18
  x_kind = (x-one p.pre.ghost).ok.kind

  -- what it gives
  x_right : (marks : Marks) (r : Result State Full) (m' : Mem) (g : Ghost part at b s m) (ts : List Target) → collect g.W.F.names (marks_of marks) (alone part at (x-one g).kids) ≡ ts
      → RB g.W g.env g.ss g.E (g.ts ++ ts) r m' → RB g.W g.env g.ss g.E (g.ts ++ collect g.W.F.names (marks_of marks) g.f) r m'
  x_right marks r m' g ts e q =
      let o = x-one g in
      let N = g.W.F.names in
      let z : g.ts ++ collect N (marks_of marks) g.f ≡ g.ts ++ ts = ap (λ (f : Forest). g.ts ++ collect N (marks_of marks) f) o.is ∙ ap (λ (xs : List Target). g.ts ++ xs) e in
      rw z q

  -- nothing
  pub x_shut : (marks : Marks) → pick (kind_of part) ≡ shut → Done part at b marks s m s m
  x_shut marks h = record {
    right = λ g. x_right marks s m g [] (shut_node g.W.F.names (marks_of marks) at (kind_of part) (value_of part) (x-one g).kids h) (rw append-nil g.rel);
  }

  -- what its children give
  pub x_shorter : length (take (length part - 8) (drop 8 part)) + 8 ≡ length part
  x_shorter = omega (arith, p.some, p.whole, kids_length part p.some p.whole)

  abbrev x-kids-ghost : Ghost part at b s m → Ghost (take (length part - 8) (drop 8 part)) (at + 1) b s m
  x-kids-ghost g =
      let o = x-one g in
      record { W = g.W; env = g.env; ss = g.ss; E = g.E; ts = g.ts; f = o.kids; reads = o.under; valid = o.valid; is = g.is; rel = g.rel }

  pub x_kids_pre : Pre (take (length part - 8) (drop 8 part)) (at + 1) b s m
  x_kids_pre = record {
    long = p.pre.long;
    within = omega (arith, p.pre.within, x_shorter);
    ghost = x-kids-ghost p.pre.ghost;
  }

  pub x_kids : {marks inner own : Marks} {r : Result State Full} {m' : Mem} → inner ≡ own → ((N : Names) (kids : Forest) → collect N (marks_of marks) (alone part at kids) ≡ collect N (marks_of own) kids)
      → Done (take (length part - 8) (drop 8 part)) (at + 1) b inner s m r m' → Done part at b marks s m r m'
  x_kids {marks} {inner} {own} {r} {m'} q e x = record {
    right = λ g. x_right marks r m' g _ (e g.W.F.names (x-one g).kids ∙ ap (λ (k : Marks). collect g.W.F.names (marks_of k) (x-one g).kids) (sym q)) (x.right (x-kids-ghost g));
  }

  -- a Name: one target
  abbrev x-name-ghost : (name : ℕ) → name ≡ value_of part → kind_of part ≡ 8 → Ghost part at b s m → Meets name at b s m
  x-name-ghost name e h g =
      let o = x-one g in
      record { W = g.W; env = g.env; ss = g.ss; E = g.E; ts = g.ts; is = g.is; rel = g.rel; node = o.ok.number; small = rw e (o.ok.name h).0 }

  pub x_name_pre : (name : ℕ) → name ≡ value_of part → kind_of part ≡ 8 → PreTarget name at b s m
  x_name_pre name e h = record { long = p.pre.long; ghost = x-name-ghost name e h p.pre.ghost }

  pub x_name : (name : ℕ) (e : name ≡ value_of part) (h : kind_of part ≡ 8) {marks : Marks} {r : Result State Full} {m' : Mem} → DoneTarget name at b marks s m r m' → Done part at b marks s m r m'
  x_name name e h {marks} {r} {m'} x = record {
    right = λ g. x_right marks r m' g _ (name_node g.W.F.names (marks_of marks) at (kind_of part) (value_of part) (x-one g).kids name (sym e) h) (x.right (x-name-ghost name e h g));
  }

  -- a Def: its Name, which is its first child
  abbrev x-def-name : kind_of part ≡ 6 → (g : Ghost part at b s m) → Named (take (length part - 8) (drop 8 part)) (at + 1) (x-one g).kids
  x-def-name h g = let o = x-one g in named (take (length part - 8) (drop 8 part)) (at + 1) o.kids o.under o.valid (o.ok.def h).1

  abbrev x-def-ghost : (name : ℕ) → name ≡ value_of (take (length part - 8) (drop 8 part)) → kind_of part ≡ 6 → Ghost part at b s m → Meets name (at + 1) b s m
  x-def-ghost name e h g =
      let q = x-def-name h g in
      record { W = g.W; env = g.env; ss = g.ss; E = g.E; ts = g.ts; is = g.is; rel = g.rel; node = q.number; small = rw e q.small }

  pub x_def_pre : (name : ℕ) → name ≡ value_of (take (length part - 8) (drop 8 part)) → kind_of part ≡ 6 → PreTarget name (at + 1) b s m
  x_def_pre name e h = record { long = p.pre.long; ghost = x-def-ghost name e h p.pre.ghost }

  pub x_def : (name : ℕ) (e : name ≡ value_of (take (length part - 8) (drop 8 part))) (h : kind_of part ≡ 6) {marks : Marks} {r : Result State Full} {m' : Mem}
      → DoneTarget name (at + 1) b marks s m r m' → Done part at b marks s m r m'
  x_def name e h {marks} {r} {m'} x = record {
    right = λ g.
        let q = x-def-name h g in
        x_right marks r m' g _ (def_node g.W.F.names (marks_of marks) at (kind_of part) (value_of part) (x-one g).kids name (at + 1) _ q.rest (sym e) h q.is) (x.right (x-def-ghost name e h g));
  }
