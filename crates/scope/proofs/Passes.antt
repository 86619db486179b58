-- The three walks one after the other: what each is handed, and what comes of the last.
use Prim.Native.Nat.{ℕ, ◌*◌, ◌<◌, ◌≤◌}
use mathlib.Core.Path.{◌≡◌, refl, subst}
use mathlib.Core.Logic.{inl, inr}
use mathlib.Core.Bool.{false}
use mathlib.Core.List.{List, [], ◌∷◌}
use mathlib.Core.Option.{some}
use native.Mathlib.Omega.{arith}
use lib.ListN.{length, length-map}
use Rattle.lexical.specs.Lists.{none-some}
use Rattle.lexical.specs.Places.{In}
use Rattle.lexical.specs.Tree.{Forest, scopes_in, params_in}
use Rattle.lexical.specs.Binders.{Var, unmarked}
use Rattle.lexical.specs.Module.{File, module_vars, outer_of}
use Rattle.lexical.specs.First.{start}
use Rattle.lexical.specs.Second.{second}
use Rattle.lexical.specs.Third.{outermost, resolved}
use Rattle.lexical.specs.Records as rec
use Rattle.lexical.proofs.Laws.Grows.{second_longer, resolved_longer}
use Rattle.lexical.proofs.Laws.Visit.{resolved-each}
use Rattle.lexical.proofs.Theory.Modules.{module_length}
use Rattle.nodefile.specs.Layout.{nodes_of}
use Rattle.nodefile.specs.Node.{size_of}
use Rattle.nodefile.specs.Reads.{Reads}
use Rattle.nodefile.specs.FileOf.{file_of}
use Rattle.nodefile.proofs.Laws.FileLaws.{globals_count}
use Rattle.std.specs.Prelude.{Result, Ok, Err}
use Rattle.store.specs.declared.ids.State.{State}
use Rattle.store.specs.declared.ids.Full.{Full}
use Rattle.store.specs.Sections.{Mem, mem, Long}
use Rattle.store.specs.Rel.{World, R, Over, too_many_slots, too_many_bindings, too_many_errors}
use Rattle.store.specs.Blocks.{module_block}
use Rattle.target.specs.Target.{BlockIs}
use Rattle.target.specs.Entries.{unsettled, module_closes}
use Rattle.collect.specs.Cycle as col
use Rattle.collect.specs.Declare.{module_is, plain_marks, world_of, AllNodes, PreAll, AllDone}
use Rattle.lookup.specs.Lookup.{Settled}
use Rattle.idents.specs.Cycle as ids
use Rattle.store.proofs.Laws.Points.{Zeros}
use Rattle.note.specs.Noted.{Noted}
use Rattle.scope.specs.Ready.{Ready}
use Rattle.scope.specs.Walks.{Finished, Begun}
use Rattle.scope.specs.Laws.Readies.{ready_scoped, ready_length}
use Rattle.scope.proofs.Owners.{second_owners}
use Rattle.scope.specs.Laws.Bounds.{entry_slots}
use Rattle.scope.proofs.Opening.{opening, no_rows, no_params, module_begins}

module_is_lem : (F : File) → BlockIs (module_block F) module_is
unfolding module_block
module_is_lem F = record { scope_is = refl; first-is = refl; local_is = refl }

-- what was too much after walk one is too much at the end
made_more : (F : File) → length (start F).made ≤ length (resolved F).made
made_more F = omega (arith, (second_longer F).made, (resolved_longer F).made)

over_start : (F : File) → Over (start F) → Over (resolved F)
unfolding start rec.errors
over_start F (too_many_slots h) = absurd (omega arith)
over_start F (too_many_bindings h) = too_many_bindings (omega (arith, made_more F))
over_start F (too_many_errors h) = absurd (omega arith)

-- the root is the whole list
module _ {list : List ℕ} {entries : ℕ} {m : Mem} (g : Begun list entries m) where
  abbrev F : File
  F = file_of g.bs g.root

  root_some : 0 < size_of list
  root_some = rw g.list_is (omega (arith, g.ready.whole, g.ready.some, ready_length g.ready))

  root_whole : 8 * size_of list ≡ length list
  root_whole = rw g.list_is g.ready.whole

  list_few : length list ≤ 16384
  list_few = rw g.list_is (omega (arith, ready_length g.ready, g.ready.nodes))

  list_reads : Reads list 0 g.root
  list_reads = rw g.list_is g.ready.reads

  -- walk one
  abbrev one-ghost : col.Ghost list 0 module_is (Ok (opening entries)) m
  one-ghost = record {
    W = unsettled F [] no_rows no_params;
    env = [];
    ss = 0 ∷ [];
    E = module_block F;
    ts = [];
    f = g.root;
    reads = list_reads;
    valid = g.ready.valid;
    is = module_is_lem F;
    rel = record {
      over = tt;
      rel = module_begins F entries m.binds m.w m.t g.noted g.blank (entry_slots g.bs g.root);
    };
  }

  pub one_pre : Long m → col.Pre1 list 0 module_is (Ok (opening entries)) m
  one_pre l = record { some = root_some; whole = root_whole; pre = record { long = l; within = omega (arith, list_few); ghost = one-ghost } }

  one-done : {r : Result State Full} {m₁ : Mem} → col.Done list 0 module_is plain_marks (Ok (opening entries)) m r m₁ → R (world_of F [] []) [] (0 ∷ []) (start F) r m₁
  unfolding unmarked
  one-done x = module_closes F [] no_rows no_params (x.right one-ghost)

  -- a list was full in walk one
  pub full-one : {e : Full} {m₁ : Mem} → col.Done list 0 module_is plain_marks (Ok (opening entries)) m (Err e) m₁ → Over (resolved F)
  full-one x = over_start F (one-done x).over

  -- walk two
  module _ {a : State} {m₁ : Mem} (x : col.Done list 0 module_is plain_marks (Ok (opening entries)) m (Ok a) m₁) where
    abbrev two-ghost : AllNodes list (Ok a) m₁
    two-ghost = record { F = file_of g.bs g.root; reads = list_reads; valid = g.ready.valid; apart = g.ready.once.apart; rel = one-done x }

    pub two_pre : Long m₁ → PreAll list (Ok a) m₁
    two_pre l = record { long = l; within = list_few; ghost = two-ghost }

    -- walk three
    module _ {b : Result State Full} {m₂ : Mem} (y : AllDone list (Ok a) m₁ b m₂) where
      abbrev W : World
      W = world_of F (second F).0 (params_in g.root)

      settled : Settled W
      unfolding start
      settled = record {
        mods_made = omega (arith, length-map (module_vars F) (λ (v : Var). v.name), module_length [] F.entries (module_vars F));
        owners = second_owners F;
        few_globals = omega (arith, globals_count g.bs g.root, g.ready.lists.globals);
      }

      abbrev three-ghost : ids.Ghost list 0 b m₂
      three-ghost = record {
        W = W;
        env = [];
        ss = 0 ∷ [];
        st = (second F).1;
        f = g.root;
        settled = settled;
        reads = list_reads;
        valid = g.ready.valid;
        deep = omega (arith, g.ready.shallow);
        around = omega arith;
        owned = λ j b e. absurd (none-some refl e);
        apart = g.ready.once.apart;
        unmet = λ s i j. elim j [ inl e ↦ (ready_scoped g.ready).positive (subst (λ (x : ℕ). In x (scopes_in g.root)) e i) | inr n ↦ n ];
        rel = y.right two-ghost;
      }

      pub three_pre : Long m₂ → ids.Pre1 list 0 b m₂
      three_pre l = record { some = root_some; whole = root_whole; pre = record { long = l; within = omega (arith, list_few); ghost = three-ghost } }

      three_done : {r : Result State Full} {m₃ : Mem} → ids.Done list 0 false b m₂ r m₃ → R W [] (0 ∷ []) (resolved F) r m₃
      unfolding outermost outer_of
      three_done z = rw (resolved-each F) (z.right three-ghost)

      -- a list was full in walk two or three
      pub full-three : {e : Full} {m₃ : Mem} → ids.Done list 0 false b m₂ (Err e) m₃ → Over (resolved F)
      full-three z = (three_done z).over

      -- none was: the module's bindings were counted after walk one
      pub finished : {c : State} {m₃ : Mem} → ids.Done list 0 false b m₂ (Ok c) m₃ → Finished g.bs g.root (record { st = c; «module» = a.bindings }) m₃
      finished z = record { image = (three_done z).rel.image; first = (one-done x).rel.image.bindings_are }

abbrev pub begun : {list bs binds w t : List ℕ} {entries : ℕ} (root : Forest) → Ready bs root → list ≡ nodes_of bs → Noted (file_of bs root) entries binds t → Zeros w → Begun list entries (mem binds w t)
begun {list} {bs} root q e n z = record { bs = bs; root = root; ready = q; list_is = e; noted = n; blank = z }

pub long_made : {n : ℕ} {binds w t : List ℕ} → 2304 ≤ n → length binds ≡ n → Long (mem binds w t)
long_made a b = record { binds = omega arith }
