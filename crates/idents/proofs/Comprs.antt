-- The steps of a comprehension: the first clause, its variables, the others, and the variables out of reach again.
use Prim.Native.Nat.{ℕ, ◌+◌, ◌-◌, ◌*◌, ◌/◌, ◌≤◌, ◌<◌}
use mathlib.Core.Path.{◌≡◌, refl, sym, subst}
use mathlib.Core.Bool.{Bool, true, false}
use mathlib.Core.Logic.{inl}
use mathlib.Core.Option.{some}
use mathlib.Core.List.{List, [], ◌∷◌, ◌++◌}
use native.Mathlib.Omega.{arith}
use lib.ListN.{length, take, drop, get_elem?}
use Rattle.lexical.specs.Places.{In}
use Rattle.lexical.specs.Tree.{Forest, plain, top}
use Rattle.lexical.specs.Binders.{Names, Target, collect, looping}
use Rattle.lexical.specs.Module.{Outer, outer}
use Rattle.lexical.specs.State.{Binding, St, Ctx}
use Rattle.lexical.specs.Block.{block}
use Rattle.lexical.proofs.Theory.Every.{every-block, every_walk}
use Rattle.lexical.proofs.Laws.Visit.{each, walk_plain}
use Rattle.nodefile.specs.Node.{size_of, value_of}
use Rattle.std.specs.Prelude.{Result, Ok, Err, IsErr}
use Rattle.store.specs.declared.ids.State.{State}
use Rattle.store.specs.declared.ids.Full.{Full}
use Rattle.store.specs.Sections.{Mem, mem}
use Rattle.store.specs.Rel.{R, Over}
use Rattle.store.specs.Blocks.{local_block}
use Rattle.store.proofs.Laws.Full.{over_kept}
use Rattle.store.proofs.Laws.Lengths.{Kept, long_kept}
use Rattle.nodefile.specs.Valid.{Some}
use Rattle.store.specs.Scoping.{Numbered, Closing, Closed}
use Rattle.target.specs.Whole.{block-is, block-numbered, block_owner, block-range}
use Rattle.lookup.specs.Enter.{OwnedIn}
use Rattle.collect.specs.Declare.{Compr, PreCompr, ComprDone}
use Rattle.idents.specs.Cycle.{Ghost, Pre, Pre1, PreKind, Done, DoneAny, resolved_at}
use Rattle.idents.proofs.Resolving.{ctx, compr_node}
use Rattle.idents.proofs.Steps.{back, kind_is, x_long, x-one, x_right, x_kids_length}
use Rattle.idents.proofs.Cuts.{f_split, f_fine, f_cut, f-first-ghost, f_first_pre, f_rest_within}
use Rattle.idents.proofs.Functions.{owned_append}

-- ---- by `lexical`: where a list is full it stays so; a comprehension's variables

over_each : (N : Names) (D : ℕ → List Binding) (out : ℕ → Outer) (f : Forest) (c : Ctx) (st : St) → Over st → Over (each N D out f c st)
over_each N D out f c st h = subst Over (walk_plain N D out f 0 [] true c st) (every_walk Over over_kept N D out f plain 0 [] true c st h)

module _ (s : ℕ) (ts : List Target) (st : St) where
  pub block_ids : Numbered (block s ts st).0 (length st.made)
  unfolding local_block
  block_ids = rw (block-is s ts st) (λ k b e. block-numbered (local_block s st) ts k b e)

  pub block_owners : (j : ℕ) (b : Binding) → get_elem? (block s ts st).0 j ≡ some b → b.owner ≡ s
  unfolding local_block
  block_owners = rw (block-is s ts st) (λ k b e. block_owner (local_block s st) ts k b e)

  pub block_made : length (block s ts st).1.made ≡ length st.made + length (block s ts st).0
  unfolding local_block
  block_made = rw (block-is s ts st) (block-range (local_block s st) ts refl).end

top_in : (ss : List ℕ) → 0 < length ss → In (top ss) ss
unfolding top
top_in [] h = absurd (omega arith)
top_in (s ∷ ss) h = inl refl

module _ {part : List ℕ} {at : ℕ} {s : Result State Full} {m : Mem} (p : PreKind 13 13 part at s m) where
  abbrev pub q-kids : List ℕ
  q-kids = take (length part - 8) (drop 8 part)

  pub q_some : (g : Ghost part at s m) → Some (x-one p.one g).kids
  q_some g = (x-one p.one g).ok.compr (kind_is p)

  -- the first clause
  module _ (k : ℕ) (hk : k ≡ size_of q-kids) where
    abbrev q-first-ghost : (g : Ghost part at s m) → Ghost (take (8 * k) q-kids) (at + 1) s m
    q-first-ghost g = f-first-ghost p.one q_some k hk g g.st g.rel

    pub q_first_pre : Pre1 (take (8 * k) q-kids) (at + 1) s m
    q_first_pre = f_first_pre p.one q_some k hk _ p.one.pre.ghost.rel p.one.pre.long

    abbrev q-first : Ghost part at s m → St
    q-first g = resolved_at (q-first-ghost g) false

    abbrev q-targets : Ghost part at s m → List Target
    q-targets g = collect g.W.F.names looping (x-one p.one g).kids

    abbrev q-names : Ghost part at s m → List Binding
    q-names g = (block (top g.ss) (q-targets g) (q-first g)).0

    abbrev q-after : Ghost part at s m → St
    q-after g = (block (top g.ss) (q-targets g) (q-first g)).1

    abbrev q-end : Ghost part at s m → St
    q-end g = each g.W.F.names g.W.D (outer g.W.mods g.W.F.globals) (f_split p.one q_some g).rest (ctx (q-names g ++ g.env) g.ss false) (q-after g)

    -- what the whole comes to
    q_right : {r : Result State Full} {m' : Mem} (g : Ghost part at s m) (ty : Bool) → R g.W g.env g.ss (q-end g) r m' → R g.W g.env g.ss (resolved_at g ty) r m'
    q_right g ty h =
        let q = f_split p.one q_some g in
        x_right p.one g ty _ (compr_node _ _ _ at _ (value_of part) (x-one p.one g).kids _ _ _ q.kids q.rest (kind_is p) q.is g.env g.ss ty g.st) h

    -- .. where `?` hands on that a list was full
    q_over : {m' : Mem} (r : Result State Full) → IsErr r → ((g : Ghost part at s m) → Over (q-end g)) → DoneAny part at s m r m'
    q_over (Ok v) h o = cc
    q_over (Err e) h o = record { right = λ g ty. q_right g ty (record { over = o g; rel = tt }) }

    -- a list is full after its variables
    q_over_block : (g : Ghost part at s m) → Over (q-after g) → Over (q-end g)
    q_over_block g o = over_each _ _ _ (f_split p.one q_some g).rest _ (q-after g) o

    -- .. or after the first clause
    pub q_full_first : {e : Full} {m₁ : Mem} → Done (take (8 * k) q-kids) (at + 1) false s m (Err e) m₁ → (r : Result State Full) → IsErr r → DoneAny part at s m r m₁
    q_full_first x r h = q_over r h (λ g. q_over_block g (every-block Over over_kept (top g.ss) (q-targets g) (q-first g) (x.right (q-first-ghost g)).over))

    module _ {v₁ : State} {m₁ : Mem} (x : Done (take (8 * k) q-kids) (at + 1) false s m (Ok v₁) m₁) where
      -- its variables
      abbrev q-compr : Ghost part at s m → Compr q-kids (at + 1) (Ok v₁) m₁
      q-compr g = record { W = g.W; env = g.env; ss = g.ss; st = _; f = (x-one p.one g).kids; reads = (x-one p.one g).under; valid = (x-one p.one g).valid; rel = x.right (q-first-ghost g) }

      pub q_compr_pre : Kept m m₁ → PreCompr q-kids (at + 1) (Ok v₁) m₁
      q_compr_pre i = record { long = long_kept p.one.pre.long i; within = omega (arith, p.one.pre.within, x_long p.one, x_kids_length p.one); ghost = q-compr p.one.pre.ghost }

      pub q_full_block : {e : Full} {m₂ : Mem} → ComprDone q-kids (at + 1) (Ok v₁) m₁ (Err e) m₂ → (r : Result State Full) → IsErr r → DoneAny part at s m r m₂
      q_full_block y r h = q_over r h (λ g. q_over_block g (y.right (q-compr g)).over)

      module _ {v₂ : State} {m₂ : Mem} (y : ComprDone q-kids (at + 1) (Ok v₁) m₁ (Ok v₂) m₂) where
        -- the others
        q_owned : (g : Ghost part at s m) → OwnedIn (q-names g ++ g.env) g.ss
        q_owned g =
            owned_append (q-names g) g.env g.ss (λ j v q. subst (λ (n : ℕ). In n g.ss) (sym (block_owners (top g.ss) (q-targets g) (q-first g) j v q)) (top_in g.ss g.around)) g.owned

        abbrev q-rest-ghost : (g : Ghost part at s m) → Ghost (back q-kids (8 * k)) (at + 1 + 8 * k / 8) (Ok v₂) m₂
        q-rest-ghost g =
            let q = (f_fine p.one q_some g).1 in
            record {
              W = g.W;
              env = q-names g ++ g.env;
              ss = g.ss;
              st = q-after g;
              f = (f_split p.one q_some g).rest;
              settled = g.settled;
              reads = (f_cut p.one q_some k hk g).second;
              valid = q.valid;
              deep = q.deep;
              around = g.around;
              owned = q_owned g;
              apart = q.apart;
              unmet = q.unmet;
              rel = y.right (q-compr g);
            }

        pub q_rest_pre : Kept m m₁ → Kept m₁ m₂ → Pre (back q-kids (8 * k)) (at + 1 + 8 * k / 8) (Ok v₂) m₂
        q_rest_pre i j = record { long = long_kept (long_kept p.one.pre.long i) j; within = f_rest_within p.one q_some k hk; ghost = q-rest-ghost p.one.pre.ghost }

        pub q_full : {e : Full} {m₃ : Mem} → Done (back q-kids (8 * k)) (at + 1 + 8 * k / 8) false (Ok v₂) m₂ (Err e) m₃ → (r : Result State Full) → IsErr r → DoneAny part at s m r m₃
        q_full z r h = q_over r h (λ g. (z.right (q-rest-ghost g)).over)

        module _ {r : State} {m₃ : Mem} (z : Done (back q-kids (8 * k)) (at + 1 + 8 * k / 8) false (Ok v₂) m₂ (Ok r) m₃) where
          -- the variables out of reach again
          abbrev q-closing : Ghost part at s m → Closing m₃.binds m₃.t v₁.bindings v₂.bindings
          q-closing g =
              let lo = (x.right (q-first-ghost g)).rel.image.bindings_are in
              let hi = (y.right (q-compr g)).rel.image.bindings_are in
              record {
                W = g.W;
                env = g.env;
                ss = g.ss;
                cap = _;
                st = _;
                s = r;
                w = m₃.w;
                bs = q-names g;
                rel = (z.right (q-rest-ghost g)).rel;
                numbered = rw lo (block_ids (top g.ss) (q-targets g) (q-first g));
                end = omega (arith, lo, hi, block_made (top g.ss) (q-targets g) (q-first g));
              }

          pub q_close_pre : Kept m m₁ → Kept m₁ m₂ → Kept m₂ m₃ → (2304 ≤ length m₃.binds) × Closing m₃.binds m₃.t v₁.bindings v₂.bindings
          q_close_pre i j l = ((long_kept (long_kept (long_kept p.one.pre.long i) j) l).binds, q-closing p.one.pre.ghost)

          pub q_done : {t₄ : List ℕ} → Closed m₃.binds m₃.t v₁.bindings v₂.bindings t₄ → DoneAny part at s m (Ok r) (mem m₃.binds m₃.w t₄)
          q_done u = record { right = λ g ty. q_right g ty (record { over = tt; rel = u.right (q-closing g) }) }
