-- What holds of every Name node, by its name and its number, holds of every target that is collected, and of every variable that targets make.
--     Each, each_spots   every Name among some nodes and below them; node by node
--     targets_fit        a block's targets
--     merge_fit          the variables of targets
use Rattle.std.specs.Prelude.{ℕ, suc, ◌+◌, ◌≡◌, cond, eqb, length}
use Rattle.std.proofs.Math.Path.{refl}
use Rattle.std.proofs.Common.{◌∙◌}
use mathlib.Core.List.{List, [], ◌∷◌}
use Rattle.std.proofs.Math.Option.{some}
use Rattle.std.proofs.Math.ListN.{get_elem?}
use Rattle.base.specs.UpTo.{at_behind}
use Rattle.lexical.specs.Lists.{either}
use Rattle.lexical.specs.Places.{All, all_none, all_cons, all_append, at_append}
use Rattle.lexical.specs.Tree.{Forest, nil, node, after, Pick, through, shut, head, name, loop, load, param, pick}
use Rattle.lexical.specs.Table.{FirstName, Headed}
use Rattle.lexical.specs.Binders.{Names, Marks, Target, Var, target, head_target, gather, collect, unmarked, looping, targets, new_var, again, note, merge}
use Rattle.lexical.proofs.Theory.Kinds.{Simple, Sort, def6, name8, ident11, lambda12, compr13, other14, clause15, type18, simple, past, sort}
use Rattle.nodefile.specs.Order.{Spot, spots_in}

-- of a name and of the node that has it
unfoldable pub Each : (ℕ → ℕ → Type 0) → Forest → Type 0
Each P nil = Unit {0}
Each P (node at k v kids rest) = (k ≡ 8 → P v at) × Each P kids × Each P rest

module _ (P : ℕ → ℕ → Type 0) where
  pub each_spots : (f : Forest) → ((i : ℕ) (s : Spot) → get_elem? (spots_in f) i ≡ some s → s.kind ≡ 8 → P s.value s.number) → Each P f
  unfolding Each spots_in
  each_spots nil h = tt
  each_spots (node at k v kids rest) h = (
    h 0 _ refl,
    each_spots kids (λ i s e. h (suc i) s (at_append (spots_in kids) (spots_in rest) i s e)),
    each_spots rest (λ i s e. h (suc (length (spots_in kids) + i)) s (at_behind (spots_in kids) (spots_in rest) i ∙ e)),
  )

  abbrev pub FitTarget : Target → Type 0
  FitTarget t = P t.name t.node

  abbrev pub FitVar : Var → Type 0
  FitVar v = P v.name v.source

  -- ---- a block's targets

  module _ (N : Names) where
    head_fit : (m : Marks) (f : Forest) → FirstName f → Each P f → All FitTarget (head_target N m f)
    unfolding head_target FirstName Each target
    head_fit m nil h v = all_none FitTarget
    head_fit m (node at k n kids rest) h v = all_cons FitTarget _ [] (v.0 h) (all_none FitTarget)

    through_fit : (p : Pick) → Simple p → (m : Marks) (at v : ℕ) (kids : Forest) (go : Marks → List Target) → ((m : Marks) → All FitTarget (go m)) → All FitTarget (gather N m p at v kids go)
    unfolding gather Simple
    through_fit through s m at v kids go h = h m
    through_fit shut s m at v kids go h = absurd s
    through_fit head s m at v kids go h = absurd s
    through_fit name s m at v kids go h = absurd s
    through_fit loop s m at v kids go h = h _
    through_fit load s m at v kids go h = h _
    through_fit param s m at v kids go h = h _

    gather_fit : {k : ℕ} → Sort k → (m : Marks) (at v : ℕ) (kids : Forest) (go : Marks → List Target) → (k ≡ 8 → P v at) → (k ≡ 6 → FirstName kids) → Each P kids → ((m : Marks) → All FitTarget (go m)) → All FitTarget (gather N m (pick k) at v kids go)
    unfolding pick gather target
    gather_fit (def6 e) m at v kids go n d w h = rw e (head_fit m kids (d e) w)
    gather_fit (name8 e) m at v kids go n d w h = rw e (all_cons FitTarget _ [] (n e) (all_none FitTarget))
    gather_fit (ident11 e) m at v kids go n d w h = rw e (all_none FitTarget)
    gather_fit (lambda12 e) m at v kids go n d w h = rw e (all_none FitTarget)
    gather_fit (compr13 e) m at v kids go n d w h = rw e (all_none FitTarget)
    gather_fit (other14 e) m at v kids go n d w h = rw e (all_none FitTarget)
    gather_fit (clause15 e) m at v kids go n d w h = rw e (h m)
    gather_fit (type18 e) m at v kids go n d w h = rw e (all_none FitTarget)
    gather_fit {k} (simple p s) m at v kids go n d w h = through_fit (pick k) s m at v kids go h
    gather_fit (past l p s) m at v kids go n d w h = rw s (all_none FitTarget)

    pub collect_fit : (m : Marks) (f : Forest) → Headed f → Each P f → All FitTarget (collect N m f)
    unfolding collect Headed Each
    collect_fit m nil d v = all_none FitTarget
    collect_fit m (node at k n kids rest) d v = all_append FitTarget (gather N m (pick k) at n kids (λ m. collect N m kids)) (collect N m rest)
        (gather_fit (sort k) m at n kids (λ m. collect N m kids) v.0 d.0 v.1 (λ m. collect_fit m kids d.1 v.1)) (collect_fit m rest d.2 v.2)

    each_after : (f : Forest) → Each P f → Each P (after f)
    unfolding after Each
    each_after nil v = tt
    each_after (node at k n kids rest) v = v.2

    headed_after : (f : Forest) → Headed f → Headed (after f)
    unfolding after Headed
    headed_after nil d = tt
    headed_after (node at k n kids rest) d = d.2

    pub targets_fit : (k : ℕ) (kids : Forest) → Headed kids → Each P kids → All FitTarget (targets N k kids)
    unfolding targets
    targets_fit k kids d v = either (eqb k 6) (λ b. All FitTarget (cond b (collect N unmarked (after kids)) (cond (eqb k 12) (collect N unmarked kids) (cond (eqb k 13) (collect N looping kids) []))))
        (collect_fit unmarked (after kids) (headed_after kids d) (each_after kids v))
        (either (eqb k 12) (λ b. All FitTarget (cond b (collect N unmarked kids) (cond (eqb k 13) (collect N looping kids) [])))
        (collect_fit unmarked kids d v)
        (either (eqb k 13) (λ b. All FitTarget (cond b (collect N looping kids) [])) (collect_fit looping kids d v) (all_none FitTarget)))

  -- ---- their variables

  note_fit : (t : Target) (vs : List Var) → FitTarget t → All FitVar vs → All FitVar (note t vs)
  unfolding note new_var again
  note_fit t [] f h = all_cons FitVar _ [] f (all_none FitVar)
  note_fit t (v ∷ vs) f h = either (eqb v.name t.name) (λ b. All FitVar (cond b (again t v ∷ vs) (v ∷ note t vs)))
      (all_cons FitVar _ vs (h 0 v refl) (λ j x e. h (suc j) x e)) (all_cons FitVar v (note t vs) (h 0 v refl) (note_fit t vs f (λ j x e. h (suc j) x e)))

  pub merge_fit : (vs : List Var) (ts : List Target) → All FitVar vs → All FitTarget ts → All FitVar (merge vs ts)
  unfolding merge
  merge_fit vs [] h f = h
  merge_fit vs (t ∷ ts) h f = merge_fit (note t vs) ts (note_fit t vs (f 0 t refl) h) (λ j x e. f (suc j) x e)
