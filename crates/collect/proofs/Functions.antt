-- The steps of `collect_defines_in_def`: a function's parameter variables are counted, its block is collected, and its stretch of the bindings kept.
use Rattle.std.specs.Prelude.{ℕ, ◌+◌, ◌*◌, ◌≤◌, ◌≡◌, refl, List, [], ◌∷◌, ◌++◌, length, get_or, set, Result, Ok, Err, IsErr}
use Rattle.std.proofs.Common.{sym, ap, ◌∙◌, arith, length-set}
use Rattle.lexical.specs.Lists.{first, first_here, first_other, eqb_self, eqb-not}
use Rattle.lexical.specs.Tree.{Forest, params}
use Rattle.lexical.specs.Binders.{Target, collect, unmarked}
use Rattle.lexical.specs.State.{Binding, Row, St}
use Rattle.lexical.specs.Block.{block}
use Rattle.lexical.specs.Second.{declare_fn, keyed, rows, row_names}
use Rattle.lexical.specs.Records.{params_of}
use Rattle.nodefile.specs.Reads.{Reads}
use Rattle.store.specs.Words.{params_word}
use Rattle.store.specs.declared.ids.State.{State}
use Rattle.store.specs.declared.ids.Full.{Full}
use Rattle.store.specs.declared.ids.Marks.{Marks}
use Rattle.store.specs.Sections.{Mem, mem}
use Rattle.store.specs.Rel.{World, R}
use Rattle.target.specs.Target.{marks_of}
use Rattle.store.proofs.Laws.Full.{was_full, stopped}
use Rattle.collect.specs.Cycle.{Ghost, Pre, Done}
use Rattle.collect.specs.Declare.{plain_marks, counted, world_of, Unmet, Function, PreFunction, FunctionDone}
use Rattle.collect.proofs.Entered.{full_block, block_of, block-ghost, block-done, block_new}
use Rattle.collect.proofs.Stored.{rel_params, rel_range}

-- ---- one scope more in the tables

module _ (k : ℕ) (tbl : List Row) (ps : List (ℕ × ℕ)) where
  pub params_here : (n : ℕ) → Unmet k tbl ps → params_of (first (counted k) (ps ++ ((k, n) ∷ []))) ≡ n
  unfolding params_of counted
  params_here n u = ap params_of (first_here (counted k) ps (k, n) u.parameters (eqb_self k))

  pub params_others : (n u : ℕ) → (u ≡ k → ⊥) → params_of (first (counted u) (ps ++ ((k, n) ∷ []))) ≡ params_of (first (counted u) ps)
  unfolding counted
  params_others n u h = ap params_of (first_other (counted u) ps (k, n) (eqb-not k u (λ e. h (sym e))))

  pub rows_here : (bs : List Binding) → Unmet k tbl ps → rows (tbl ++ (record { scope = k; names = bs } ∷ [])) k ≡ bs
  unfolding rows row_names
  rows_here bs u = ap row_names (first_here (keyed k) tbl (record { scope = k; names = bs }) u.row (eqb_self k))

  pub rows_others : (bs : List Binding) (u : ℕ) → (u ≡ k → ⊥) → rows (tbl ++ (record { scope = k; names = bs } ∷ [])) u ≡ rows tbl u
  unfolding rows
  rows_others bs u h = ap row_names (first_other (keyed u) tbl (record { scope = k; names = bs }) (eqb-not k u (λ e. h (sym e))))

-- no mark
pub marks_plain : {a : Marks} → a ≡ plain_marks → marks_of a ≡ unmarked
unfolding unmarked
marks_plain {a} e = ap marks_of e

-- ---- the steps

module _ {part : List ℕ} {at scope : ℕ} {m : Mem} where
  abbrev targets_of : {s : Result State Full} → Function part at scope s m → List Target
  targets_of g = collect g.F.names unmarked g.f

  pub f_stop : {e : Full} {r : Result State Full} → IsErr r → FunctionDone part at scope (Err e) m r m
  unfolding declare_fn
  f_stop {e} h = rw (stopped e h) (record { right = λ g. was_full (full_block scope (targets_of g) g.rel) })

module _ {part : List ℕ} {at scope : ℕ} {s : State} {m : Mem} (p : PreFunction part at scope (Ok s) m) where
  abbrev after : Function part at scope (Ok s) m → St
  after g = (block scope (targets_of g) g.st).1

  -- the parameters are counted
  module _ (n : ℕ) (few : 8 * n ≤ length part) (count : (at : ℕ) (f : Forest) → Reads part at f → n ≡ params f) (long : length m.w ≡ 12544) where
    module _ {w : List ℕ} (put : w ≡ set m.w (12288 + scope) (params_word n (get_or m.w (12288 + scope) 0))) where
      abbrev f-mem : Mem
      f-mem = mem m.binds w m.t

      abbrev f-world : Function part at scope (Ok s) m → World
      f-world g = world_of g.F g.tbl (g.ps ++ ((scope, params g.f) ∷ []))

      f_params : (g : Function part at scope (Ok s) m) → R (f-world g) [] (0 ∷ []) g.st (Ok s) f-mem
      f_params g = record {
        over = tt;
        rel = rw put (rel_params g.rel.rel long (f-world g).P scope n g.small (omega (arith, p.within)) (params_here scope g.tbl g.ps (params g.f) g.unmet ∙ sym (count at g.f g.reads)) (params_others scope g.tbl g.ps (params g.f)));
      }

      abbrev f-ghost : Function part at scope (Ok s) m → Ghost part at (block_of scope s.bindings) (Ok s) f-mem
      f-ghost g = block-ghost scope scope refl g.small (f_params g) g.f g.reads g.valid

      pub f_pre : Pre part at (block_of scope s.bindings) (Ok s) f-mem
      f_pre = record { long = record { binds = p.long.binds }; within = p.within; ghost = f-ghost p.ghost }

      -- the block is collected
      module _ {marks : Marks} (mk : marks ≡ plain_marks) {m₁ : Mem} where
        f_block : {r : Result State Full} → Done part at (block_of scope s.bindings) marks (Ok s) f-mem r m₁ → (g : Function part at scope (Ok s) m) → R (f-world g) [] (0 ∷ []) (after g) r m₁
        f_block d g = block-done scope scope refl g.small (f_params g) g.f g.reads g.valid unmarked (marks_plain mk) d

        pub f_full : {e : Full} {r : Result State Full} → Done part at (block_of scope s.bindings) marks (Ok s) f-mem (Err e) m₁ → IsErr r → FunctionDone part at scope (Ok s) m r m₁
        unfolding declare_fn
        f_full {e} d h = rw (stopped e h) (record { right = λ g. was_full (f_block d g) })

        -- its stretch of the bindings is kept
        module _ {u : State} (d : Done part at (block_of scope s.bindings) marks (Ok s) f-mem (Ok u) m₁) where
          pub f_first : s.bindings ≤ 2304
          f_first = let q = p.ghost.rel.rel.image in omega (arith, q.bindings_are, q.made.few)

          pub f_last : u.bindings ≤ 2304
          f_last = let q = (f_block d p.ghost).rel.image in omega (arith, q.bindings_are, q.made.few)

          pub f_done : {t : List ℕ} → length t ≡ 20864 → t ≡ set (set m₁.t (12032 + scope) s.bindings) (12288 + scope) u.bindings → FunctionDone part at scope (Ok s) m (Ok u) (mem m₁.binds m₁.w t)
          unfolding declare_fn
          f_done {t} l e = record {
            right = λ g.
                let q = (f_block d g).rel in
                let long : length m₁.t ≡ 20864 = simp length-set at (sym (ap length e) ∙ l) in
                let bs = (block scope (targets_of g) g.st).0 in
                let D = rows (g.tbl ++ (record { scope = scope; names = bs } ∷ [])) in
                let here = rows_here scope g.tbl g.ps bs g.unmet in
                let range = block_new scope (targets_of g) g.st s.bindings u.bindings g.rel.rel.image.bindings_are q.image.bindings_are in
                record { over = tt; rel = rw e (rel_range q long D scope s.bindings u.bindings g.small (rw here range) (rows_others scope g.tbl g.ps bs)) };
          }
