-- A function's or a comprehension's block, from the relation before it to the relation after it.
use Rattle.std.specs.Prelude.{ℕ, ◌<◌, ◌≡◌, refl, true, List, [], length, Result, Ok, Err}
use Rattle.lexical.specs.Tree.{Forest}
use Rattle.lexical.specs.Binders as bind
use Rattle.lexical.specs.Binders.{Target, collect}
use Rattle.lexical.specs.State.{Binding, St}
use Rattle.lexical.specs.Block.{block}
use Rattle.nodefile.specs.Reads.{Reads}
use Rattle.store.specs.declared.ids.State.{State}
use Rattle.store.specs.declared.ids.Full.{Full}
use Rattle.store.specs.declared.ids.Block.{Block}
use Rattle.store.specs.declared.ids.Marks.{Marks}
use Rattle.store.specs.Sections.{Mem}
use Rattle.store.specs.Meanings.{Range}
use Rattle.store.specs.Rel.{World, Rel, R, caps}
use Rattle.store.specs.Blocks.{local_block}
use Rattle.nodefile.specs.Valid.{Valid}
use Rattle.target.specs.Target.{BlockIs, marks_of}
use Rattle.target.specs.Blocks.{over_more}
use Rattle.target.specs.Whole.{block-range, block-is, block_none, opens, closes}
use Rattle.collect.specs.Cycle.{Ghost, Done}

-- where a list is full it stays so
pub full_block : {W : World} {env : List Binding} {ss : List ℕ} {st : St} {e : Full} {m : Mem} (k : ℕ) (ts : List Target) → R W env ss st (Err e) m → R W env ss (block k ts st).1 (Err e) m
full_block {st = st} k ts r = record { over = rw (block-is k ts st) (over_more (local_block k st) [] ts (rw (block_none k st) r.over)); rel = tt }

-- the block that code is told of
abbrev pub block_of : ℕ → ℕ → Block
block_of k first = record { scope = record { 0 = k }; first = first; local = true }

pub block-told : {W : World} {env : List Binding} {ss : List ℕ} {st : St} {s : State} {m : Mem} (n k : ℕ) → n ≡ k → Rel W env ss (caps st) st s m → BlockIs (local_block k st) (block_of n s.bindings)
unfolding local_block
block-told n k e r = record { scope_is = e; first-is = r.image.bindings_are; local_is = refl }

module _ {W : World} {env : List Binding} {ss : List ℕ} {st : St} {s : State} {m : Mem} {part : List ℕ} {at : ℕ}
    (n k : ℕ) (e : n ≡ k) (small : k < 256) (r : R W env ss st (Ok s) m) (f : Forest) (reads : Reads part at f) (valid : Valid f) where
  -- it begins
  abbrev pub block-ghost : Ghost part at (block_of n s.bindings) (Ok s) m
  block-ghost = record {
    W = W;
    env = env;
    ss = ss;
    E = local_block k st;
    ts = [];
    f = f;
    reads = reads;
    valid = valid;
    is = block-told n k e r.rel;
    rel = opens k st small r;
  }

  -- and ends
  pub block-done : {marks : Marks} {r' : Result State Full} {m' : Mem} (mk : bind.Marks) → marks_of marks ≡ mk → Done part at (block_of n s.bindings) marks (Ok s) m r' m' → R W env ss (block k (collect W.F.names mk f) st).1 r' m'
  block-done {marks} {r'} {m'} mk q d = closes k st (collect W.F.names mk f) (rw q at (d.right block-ghost))

-- its bindings are those from the first on
pub block_new : (k : ℕ) (ts : List Target) (st : St) (lo hi : ℕ) → lo ≡ length st.made → hi ≡ length (block k ts st).1.made → Range (block k ts st).1.made (block k ts st).0 lo hi
unfolding local_block
block_new k ts st lo hi el eh = rw (el, eh, block-is k ts st) (block-range (local_block k st) ts refl)
