-- The working lists of the walks: three lists of numbers, `w` and `t` cut into sections at fixed places.
-- `Point l base n f`: the n places of the list l from `base` on hold f 0, f 1, ..
use Rattle.std.specs.Prelude.{ℕ, ◌+◌, ◌<◌, ◌≤◌, ◌≡◌, List, length, get_or}
use Rattle.std.proofs.Math.Option.{Option, none, some}
use Rattle.std.proofs.Math.ListN.{get_elem?}

-- all that the walks are lent: the bindings' records, and the working lists
pub record Mem : Type 0 where
  pub binds : List ℕ
  pub w : List ℕ
  pub t : List ℕ

abbrev pub mem : List ℕ → List ℕ → List ℕ → Mem
mem binds w t = record { binds = binds; w = w; t = t }

-- how many of each there can be, and how far a half of a record's word and a slot's number reach
abbrev pub many_nodes : ℕ
many_nodes = 2048

abbrev pub many_names : ℕ
many_names = 1024

abbrev pub many_bindings : ℕ
many_bindings = 2304

abbrev pub many_slots : ℕ
many_slots = 4096

abbrev pub many_slot_numbers : ℕ
many_slot_numbers = 32768

abbrev pub half_word : ℕ
half_word = 65536

-- how long the lists are
abbrev pub w_length : ℕ
w_length = 12544

abbrev pub t_length : ℕ
t_length = 20864

pub record Long (m : Mem) : Type 0 where
  pub binds : many_bindings ≤ length m.binds

-- sections of w: the nodes' answers, the slots, the copies and the errors in order of making, and the scopes
abbrev pub nodes_at : ℕ
nodes_at = 0

abbrev pub slots_at : ℕ
slots_at = 2048

abbrev pub copies_at : ℕ
copies_at = 6144

abbrev pub errors_at : ℕ
errors_at = 10240

abbrev pub scopes_at : ℕ
scopes_at = 12288

-- sections of t by name: the innermost local (binding + 1), the module's binding (+ 1), the global (+ 1), whether it begins with `_`,
-- the binding (+ 1) that the block which is being collected has for it
abbrev pub cur_at : ℕ
cur_at = 0

abbrev pub mod_at : ℕ
mod_at = 1024

abbrev pub glob_at : ℕ
glob_at = 2048

abbrev pub hidden_at : ℕ
hidden_at = 3072

abbrev pub block_at : ℕ
block_at = 4096

-- by binding: what its name meant before it, its scope, its last slot (slot record + 1)
abbrev pub saved_at : ℕ
saved_at = 5120

abbrev pub owner_at : ℕ
owner_at = 7424

abbrev pub tail_at : ℕ
tail_at = 9728

-- by scope: its first binding, and the one after its last
abbrev pub first_at : ℕ
first_at = 12032

abbrev pub last_at : ℕ
last_at = 12288

-- by slot record: the slot record before it of the same binding (+ 1), and the slot's number in its scope
abbrev pub back_at : ℕ
back_at = 12544

abbrev pub num_at : ℕ
num_at = 16640

-- by level: the scope
abbrev pub stack_at : ℕ
stack_at = 20736

-- whether a name bound by Load is shown
abbrev pub shown_at : ℕ
shown_at = 20863

abbrev pub Point : List ℕ → ℕ → ℕ → (ℕ → ℕ) → Type 0
Point l base n f = (i : ℕ) → i < n → get_or l (base + i) 0 ≡ f i

-- the number that an element of a list stands for; 0 past its end
unfoldable pub or_zero : {A : Type 0} → (A → ℕ) → Option A → ℕ
or_zero f none = 0
or_zero f (some a) = f a

abbrev pub word_at : {A : Type 0} → (A → ℕ) → List A → ℕ → ℕ
word_at f xs i = or_zero f (get_elem? xs i)

-- one more than a number that is there, else 0
unfoldable pub plus : Option ℕ → ℕ
plus none = 0
plus (some n) = n + 1
