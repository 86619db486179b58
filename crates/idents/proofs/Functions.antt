-- The steps of a Def or a Lambda: all children but the last outside, then into it, the last child, and out again.
use Prim.Native.Nat.{ℕ, zero, suc, ◌+◌, ◌-◌, ◌/◌, ◌≤◌, ◌<◌}
use mathlib.Core.Path.{◌≡◌, refl, sym, ◌∙◌, subst}
use mathlib.Core.Bool.{false}
use mathlib.Core.Logic.{◌⊎◌, inl, inr}
use mathlib.Core.Option.{some}
use mathlib.Core.List.{List, [], ◌∷◌, ◌++◌}
use native.Mathlib.Omega.{arith}
use lib.ListN.{length, take, drop, get_elem?}
use lib.Seq.{length-take-le}
use Rattle.lexical.specs.Places.{In}
use Rattle.lexical.specs.Tree.{Forest, nil, node}
use Rattle.lexical.specs.State.{Binding}
use Rattle.nodefile.specs.Node.{kind_of, value_of}
use Rattle.std.specs.Prelude.{Result}
use Rattle.store.specs.declared.ids.State.{State}
use Rattle.store.specs.declared.ids.Full.{Full}
use Rattle.store.specs.Sections.{Mem, mem, Long}
use Rattle.store.proofs.Laws.Lengths.{Kept, long_kept}
use Rattle.nodefile.specs.Valid.{Some, NameFirst}
use Rattle.lookup.specs.Enter.{OwnedIn, Entering, Entered, Leaving, Left}
use Rattle.idents.specs.Cycle.{Ghost, Pre, Pre1, PreDef, Done, DoneAny, Parted, LastAt}
use Rattle.idents.proofs.Fine.{Fine, fine_front, fine_back, fine_room, fine_new, fine_inside}
use Rattle.idents.proofs.Resolving.{function_node}
use Rattle.idents.proofs.Steps.{back, back-length, passed_on, x_long, x-one, x_fine, x_right, x_kids_length, x_kids_fine}
use Rattle.idents.proofs.Cuts.{Cut, cut_last, alone_pre}

-- owners of two lists, one in front of the other
pub owned_append : (bs env : List Binding) (ss : List ℕ) → OwnedIn bs ss → OwnedIn env ss → (j : ℕ) (b : Binding) → get_elem? (bs ++ env) j ≡ some b → In b.owner ss
owned_append [] env ss h o j x e = o j x e
owned_append (b ∷ bs) env ss h o zero x e = h 0 x e
owned_append (b ∷ bs) env ss h o (suc j) x e = owned_append bs env ss (λ i y q. h (suc i) y q) o j x e

pub name_some : (f : Forest) → NameFirst f → Some f
unfolding NameFirst Some
name_some nil h = h
name_some (node a k v kids rest) h = tt

module _ {part : List ℕ} {at : ℕ} {s : Result State Full} {m : Mem} (p : PreDef part at s m) where
  abbrev pub d-kids : List ℕ
  d-kids = take (length part - 8) (drop 8 part)

  d_some : (g : Ghost part at s m) → Some (x-one p.one g).kids
  d_some g = go p.function
    where
      go : (kind_of part ≡ 6) ⊎ (kind_of part ≡ 12) → Some (x-one p.one g).kids
      go (inl e) = name_some _ ((x-one p.one g).ok.def e).1
      go (inr e) = ((x-one p.one g).ok.lambda e).1

  abbrev d-parted : Ghost part at s m → Parted d-kids
  d-parted g = record { at = at + 1; f = (x-one p.one g).kids; reads = (x-one p.one g).under; some = d_some g }

  -- what `last` is asked
  pub d_last_pre : (length d-kids ≤ 16384) × Parted d-kids
  d_last_pre = (omega (arith, p.one.pre.within, x_kids_length p.one), d-parted p.one.pre.ghost)

  module _ (b : ℕ) (last : (q : Parted d-kids) → LastAt d-kids q.at q.f b) where
    abbrev d-last : (g : Ghost part at s m) → LastAt d-kids (at + 1) (x-one p.one g).kids b
    d-last g = last (d-parted g)

    abbrev d-body : Ghost part at s m → Forest
    d-body g = let l = d-last g in node l.a l.k l.v l.kids nil

    d_cut : (g : Ghost part at s m) → Cut d-kids (at + 1) b (d-last g).front (d-body g)
    d_cut g = cut_last (d-last g)

    pub d_inside : b + 8 ≤ length part - 8
    d_inside = omega (arith, (d-last p.one.pre.ghost).inside, x_kids_length p.one)

    pub d_front-length : length (take b d-kids) ≡ b
    d_front-length = length-take-le b d-kids (d_cut p.one.pre.ghost).inside

    pub d_back-length : length (back d-kids b) ≡ length part - 8 - b
    d_back-length = back-length d-kids b (d_cut p.one.pre.ghost).inside ∙ omega (arith, x_kids_length p.one)

    -- outside
    abbrev d-front-ghost : Ghost part at s m → Ghost (take b d-kids) (at + 1) s m
    d-front-ghost g =
        let l = d-last g in
        passed_on g l.front g.st (d_cut g).first (fine_front l.front (d-body g) (subst (Fine g.ss) l.split (x_kids_fine p.one g))) g.rel

    pub d_front_pre : Pre (take b d-kids) (at + 1) s m
    d_front_pre = record {
      long = p.one.pre.long;
      within = omega (arith, p.one.pre.within, x_long p.one, d_inside, d_front-length);
      ghost = d-front-ghost p.one.pre.ghost;
    }

    module _ (scope : ℕ) (e : scope ≡ value_of part) {s₁ : Result State Full} {m₁ : Mem} (x : Done (take b d-kids) (at + 1) false s m s₁ m₁) where
      d_fine : (g : Ghost part at s m) → Fine g.ss (node at (kind_of part) scope (x-one p.one g).kids nil)
      d_fine g = rw e (x_fine p.one g)

      d_small : (g : Ghost part at s m) → scope < 256
      d_small g = rw e (go p.function)
        where
          go : (kind_of part ≡ 6) ⊎ (kind_of part ≡ 12) → value_of part < 256
          go (inl h) = ((x-one p.one g).ok.def h).0
          go (inr h) = ((x-one p.one g).ok.lambda h).0

      -- into it
      abbrev d-entering : Ghost part at s m → Entering scope s₁ m₁.binds m₁.t
      d-entering g = record {
        W = g.W;
        env = g.env;
        ss = g.ss;
        st = _;
        w = m₁.w;
        small = d_small g;
        deep = fine_room at (kind_of part) scope (x-one p.one g).kids nil p.function (d_fine g);
        settled = g.settled;
        owned = g.owned;
        unmet = fine_new at (kind_of part) scope (x-one p.one g).kids nil p.function (d_fine g);
        rel = x.right (d-front-ghost g);
      }

      pub d_enter_pre : Kept m m₁ → (2304 ≤ length m₁.binds) × Entering scope s₁ m₁.binds m₁.t
      d_enter_pre k = ((long_kept p.one.pre.long k).binds, d-entering p.one.pre.ghost)

      module _ {s₂ : Result State Full} {t₂ : List ℕ} (y : Entered scope s₁ m₁.binds m₁.t s₂ t₂) where
        d_owned : (g : Ghost part at s m) → OwnedIn (g.W.D scope ++ g.env) (scope ∷ g.ss)
        d_owned g = owned_append (g.W.D scope) g.env (scope ∷ g.ss) (λ j v q. inl (g.settled.owners scope j v q)) (λ j v q. inr (g.owned j v q))

        d_inner : (g : Ghost part at s m) → Fine (scope ∷ g.ss) (d-body g)
        d_inner g =
            let l = d-last g in
            fine_back l.front (d-body g) (subst (Fine (scope ∷ g.ss)) l.split (fine_inside at (kind_of part) scope (x-one p.one g).kids nil p.function (d_fine g)))

        -- the last child
        abbrev d-body-ghost : Ghost part at s m → Ghost (back d-kids b) (at + 1 + b / 8) s₂ (mem m₁.binds m₁.w t₂)
        d-body-ghost g = record {
          W = g.W;
          env = g.W.D scope ++ g.env;
          ss = scope ∷ g.ss;
          st = _;
          f = d-body g;
          settled = g.settled;
          reads = (d_cut g).second;
          valid = (d_inner g).valid;
          deep = (d_inner g).deep;
          around = omega arith;
          owned = d_owned g;
          apart = (d_inner g).apart;
          unmet = (d_inner g).unmet;
          rel = y.right (d-entering g);
        }

        d_long : Kept m m₁ → Long (mem m₁.binds m₁.w t₂)
        d_long k = record { binds = (long_kept p.one.pre.long k).binds }

        pub d_body_pre : Kept m m₁ → Pre1 (back d-kids b) (at + 1 + b / 8) s₂ (mem m₁.binds m₁.w t₂)
        d_body_pre k =
            let g = p.one.pre.ghost in
            alone_pre (d-body-ghost g) _ _ _ (d-last g).kids refl (d_long k) (omega (arith, p.one.pre.within, x_long p.one, d_inside, d_back-length, (d-last g).eights))

        module _ {s₃ : Result State Full} {m₃ : Mem} (z : Done (back d-kids b) (at + 1 + b / 8) false s₂ (mem m₁.binds m₁.w t₂) s₃ m₃) where
          -- and out
          abbrev d-leaving : Ghost part at s m → Leaving scope s₃ m₃.binds m₃.t
          d-leaving g = record {
            W = g.W;
            env = g.env;
            ss = g.ss;
            st = _;
            w = m₃.w;
            small = d_small g;
            outside = g.around;
            rel = z.right (d-body-ghost g);
          }

          pub d_leave_pre : Kept m m₁ → Kept (mem m₁.binds m₁.w t₂) m₃ → (2304 ≤ length m₃.binds) × Leaving scope s₃ m₃.binds m₃.t
          d_leave_pre k j = ((long_kept (d_long k) j).binds, d-leaving p.one.pre.ghost)

          pub d_done : {r : Result State Full} {t₄ : List ℕ} → Left scope s₃ m₃.binds m₃.t r t₄ → DoneAny part at s m r (mem m₃.binds m₃.w t₄)
          d_done u = record {
            right = λ g ty.
                let l = d-last g in
                x_right p.one g ty _ (function_node _ _ _ at _ (value_of part) (x-one p.one g).kids scope (sym e) l.front _ _ _ l.kids p.function l.split g.env g.ss ty g.st) (u.right (d-leaving g));
          }
