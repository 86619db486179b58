-- The steps of `add_compr`: the block of a comprehension's variables, which then come into reach.
use Rattle.std.specs.Prelude.{ℕ, ◌+◌, ◌<◌, ◌≤◌, ◌≡◌, refl, true, List, get_or, Result, Ok, Err, IsErr}
use Rattle.std.proofs.Common.{◌∙◌, arith}
use Rattle.std.proofs.Math.Option.{some}
use Rattle.std.proofs.Math.ListN.{get_elem?}
use Rattle.lexical.specs.Tree.{top}
use Rattle.lexical.specs.Binders.{Target, collect, looping}
use Rattle.lexical.specs.State.{Binding, St}
use Rattle.lexical.specs.Block.{block}
use Rattle.store.specs.declared.ids.State.{State}
use Rattle.store.specs.declared.ids.Full.{Full}
use Rattle.store.specs.declared.ids.Marks.{Marks}
use Rattle.store.specs.Sections.{Mem, mem}
use Rattle.store.specs.Rel.{R, caps}
use Rattle.store.specs.Scoping.{Opening, Opened}
use Rattle.store.proofs.Laws.Around.{saved_few}
use Rattle.target.specs.Target.{marks_of}
use Rattle.store.proofs.Laws.Full.{was_full, stopped}
use Rattle.store.proofs.Laws.Around.{env_top}
use Rattle.collect.specs.Cycle.{Ghost, Pre, Done}
use Rattle.collect.specs.Declare.{plain_marks, Compr, PreCompr, ComprDone}
use Rattle.collect.proofs.Entered.{full_block, block_of, block-ghost, block-done, block_new}

-- a mark for a loop alone
pub marks_loop : {a : Marks} → a ≡ plain_marks → marks_of (record { in_loop = true; load = a.load; param = a.param }) ≡ looping
unfolding looping
marks_loop e = rw e refl

-- the targets of a comprehension, and the state after its block
abbrev targets_of : {part : List ℕ} {at : ℕ} {s : Result State Full} {m : Mem} → Compr part at s m → List Target
targets_of g = collect g.W.F.names looping g.f

abbrev after : {part : List ℕ} {at : ℕ} {s : Result State Full} {m : Mem} → Compr part at s m → St
after g = (block (top g.ss) (targets_of g) g.st).1

pub v_stop : {part : List ℕ} {at : ℕ} {e : Full} {r : Result State Full} {m : Mem} → IsErr r → ComprDone part at (Err e) m r m
v_stop {e = e} h = rw (stopped e h) (record { right = λ g. was_full (full_block (top g.ss) (targets_of g) g.rel) })

module _ {part : List ℕ} {at : ℕ} {s : State} {m : Mem} (p : PreCompr part at (Ok s) m) where
  module _ (n : ℕ) (e : n ≡ get_or m.t (20736 + s.level) 0) where
    v_scope : (g : Compr part at (Ok s) m) → (n ≡ top g.ss) × (top g.ss < 256)
    v_scope g = let q = env_top g.rel.rel.around in (e ∙ q.0, q.1)

    abbrev v-ghost : Compr part at (Ok s) m → Ghost part at (block_of n s.bindings) (Ok s) m
    v-ghost g = block-ghost n (top g.ss) (v_scope g).0 (v_scope g).1 g.rel g.f g.reads g.valid

    pub v_pre : Pre part at (block_of n s.bindings) (Ok s) m
    v_pre = record { long = p.long; within = p.within; ghost = v-ghost p.ghost }

    module _ {marks : Marks} (mk : marks_of marks ≡ looping) {m₁ : Mem} where
      v_block : {r : Result State Full} → Done part at (block_of n s.bindings) marks (Ok s) m r m₁ → (g : Compr part at (Ok s) m) → R g.W g.env g.ss (after g) r m₁
      v_block d g = block-done n (top g.ss) (v_scope g).0 (v_scope g).1 g.rel g.f g.reads g.valid looping mk d

      pub v_full : {e : Full} {r : Result State Full} → Done part at (block_of n s.bindings) marks (Ok s) m (Err e) m₁ → IsErr r → ComprDone part at (Ok s) m r m₁
      v_full {e} d h = rw (stopped e h) (record { right = λ g. was_full (v_block d g) })

      module _ {u : State} (d : Done part at (block_of n s.bindings) marks (Ok s) m (Ok u) m₁) where
        -- what is in reach stands before the block
        v_apart : (g : Compr part at (Ok s) m) (j : ℕ) (b : Binding) → get_elem? g.env j ≡ some b → s.bindings ≤ b.id → b.id < u.bindings → ⊥
        v_apart g j b q l h = let z = g.rel.rel in omega (arith, saved_few g.env g.st.made m.t z.around.saved j b q, z.image.bindings_are)

        abbrev v-opening : Compr part at (Ok s) m → Opening m₁.binds m₁.t s.bindings u.bindings
        v-opening g = record {
          W = g.W;
          env = g.env;
          ss = g.ss;
          cap = caps (after g);
          st = after g;
          s = u;
          w = m₁.w;
          bs = (block (top g.ss) (targets_of g) g.st).0;
          rel = (v_block d g).rel;
          range = block_new (top g.ss) (targets_of g) g.st s.bindings u.bindings g.rel.rel.image.bindings_are (v_block d g).rel.image.bindings_are;
          apart = v_apart g;
        }

        pub v_open : Opening m₁.binds m₁.t s.bindings u.bindings
        v_open = v-opening p.ghost

        pub v_done : (t : List ℕ) → Opened m₁.binds m₁.t s.bindings u.bindings t → ComprDone part at (Ok s) m (Ok u) (mem m₁.binds m₁.w t)
        v_done t o = record { right = λ g. record { over = tt; rel = o.right (v-opening g) } }
