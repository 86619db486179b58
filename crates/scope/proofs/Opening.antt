-- The module's block before its first target: the lists are noted, and nothing else stands in the working lists.
use Prim.Native.Nat.{ℕ, ◌+◌, ◌<◌}
use mathlib.Core.Path.{◌≡◌, refl, sym, ◌∙◌}
use mathlib.Core.Bool.{false}
use mathlib.Core.List.{List, [], ◌∷◌}
use mathlib.Core.Option.{some}
use native.Mathlib.Omega.{arith}
use lib.ListN.{length, get_elem?, length-map}
use Rattle.lexical.specs.Lists.{first, count, none-some, map_o}
use Rattle.lexical.specs.Binders.{merge}
use Rattle.lexical.specs.Module.{Entry, File, entry_var}
use Rattle.lexical.specs.State.{Binding}
use Rattle.lexical.specs.Block.{fresh_in}
use Rattle.lexical.specs.Second.{rows, row_names}
use Rattle.lexical.specs.Records.{params_of, captured, errors}
use Rattle.store.specs.declared.ids.State.{State}
use Rattle.store.specs.Sections.{mem, or_zero, plus}
use Rattle.store.specs.Words.{slot_word}
use Rattle.store.specs.Image.{SlotsIn, Image, last_from, before}
use Rattle.store.specs.Meanings.{number_of, SavedAll, Stacked, EnvIn, RangesIn}
use Rattle.store.specs.Rel.{Rel, caps}
use Rattle.store.specs.Blocks.{module_block, nothing, block_st, block_world, slots_of, bindings_of, vars_of, InBlock}
use Rattle.store.proofs.Laws.Points.{Zeros, point_none}
use Rattle.store.proofs.Laws.Copied.{copies_none, errors-none}
use Rattle.store.proofs.Laws.Nodes.{nodes_none}
use Rattle.store.proofs.Laws.Placed.{placed_length}
use Rattle.target.specs.Entries.{unsettled, module_opens}
use Rattle.collect.specs.Declare.{counted}
use Rattle.note.specs.Noted.{Noted}

-- the state before the first target
abbrev pub opening : ℕ → State
opening entries = record { bindings = entries; slots = 0; copies = 0; errors = 0; level = 0 }

-- no function has variables or parameters yet
abbrev pub no_rows : ℕ → List Binding
no_rows = rows []

abbrev pub no_params : ℕ → ℕ
no_params s = params_of (first (counted s) [])

module _ (F : File) (entries : ℕ) (binds w t : List ℕ) (n : Noted F entries binds t) (z : Zeros w) where
  around : (made : List Binding) → EnvIn [] (0 ∷ []) made 0 t
  unfolding SavedAll Stacked number_of first map_o plus
  around made = record { cur = λ i h. n.clear_low (0 + i) (omega arith); saved = tt; stack = (n.clear_high (20736 + 0) (omega arith) (omega arith), omega arith, tt); level_is = refl; low = omega arith }

  ranges : (made : List Binding) → RangesIn no_rows made t
  unfolding rows row_names first
  ranges made s h = record {
    end = n.clear_high (12288 + s) (omega arith) (omega arith) ∙ omega (arith, n.clear_high (12032 + s) (omega arith) (omega arith));
    within = omega (arith, n.clear_high (12288 + s) (omega arith) (omega arith));
    are = λ k b e. absurd (none-some refl e);
    locals = λ k b e. absurd (none-some refl e);
  }

  slots : SlotsIn [] no_params w t
  unfolding last_from before fresh_in count or_zero params_of first
  slots = record {
    rows = point_none slot_word w 2048 4096 z;
    scopes = λ s _. z (12288 + s);
    nums = λ k h. n.clear_high (16640 + k) (omega arith) (omega arith);
    back = λ k h. n.clear_high (12544 + k) (omega arith) (omega arith);
    tail = λ k h. n.clear_high (9728 + k) (omega arith) (omega arith);
    few = omega arith;
    params = λ s _. omega arith;
    sound = λ k r e. absurd (none-some refl e);
  }

  made_are : entries ≡ length (bindings_of (module_block F) [])
  unfolding merge module_block
  made_are = n.count ∙ sym (placed_length (module_block F) 0 (vars_of (module_block F) []) ∙ length-map F.entries entry_var)

  image : Image [] no_params (caps nothing) (block_st (module_block F) []) (opening entries) (mem binds w t)
  unfolding block_st slots_of module_block nothing captured errors
  image = record {
    made = n.made;
    slots = slots;
    copies = copies_none w z;
    errors = errors-none w z;
    nodes = nodes_none [] w z;
    bindings_are = made_are;
    slots_are = refl;
    copies_are = refl;
    errors_are = refl;
    copies_fit = omega arith;
    log_below = λ j e q. absurd (none-some refl q);
  }

  rel : Rel (block_world (unsettled F [] no_rows no_params) (module_block F) []) [] (0 ∷ []) (caps nothing) (block_st (module_block F) []) (opening entries) (mem binds w t)
  unfolding block_world module_block
  rel = record {
    image = image;
    around = around _;
    names = n.names;
    ranges = ranges _;
    scratch = λ k h. omega (arith, n.clear_high (4096 + k) (omega arith) (omega arith));
    settled = λ i b e. absurd (none-some refl e);
  }

  pub module_begins : ((i : ℕ) (e : Entry) → get_elem? F.entries i ≡ some e → e.slot < 32768) → InBlock (unsettled F [] no_rows no_params) [] (0 ∷ []) (module_block F) [] (opening entries) (mem binds w t)
  module_begins h = module_opens F [] no_rows no_params h (around []) (ranges []) rel
