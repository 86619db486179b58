-- The six buffers of the readers (request P1): "held in lent buffers as a start (the sum of the counts before) and a count per binding over one flat list. Globals get the same by global number."
use Rattle.std.specs.Prelude.{ℕ, ◌<◌, ◌≡◌, List, length, replicate}

pub record Lists : Type 0 where
  pub starts : List ℕ
  pub counts : List ℕ
  pub list : List ℕ
  pub global_starts : List ℕ
  pub global_counts : List ℕ
  pub global_list : List ℕ

abbrev pub lists : List ℕ → List ℕ → List ℕ → List ℕ → List ℕ → List ℕ → Lists
lists s c l gs gc gl = record { starts = s; counts = c; list = l; global_starts = gs; global_counts = gc; global_list = gl }

-- how long each of them must be
abbrev pub bindings_full : ℕ
bindings_full = 2304

abbrev pub globals_full : ℕ
globals_full = 256

abbrev pub list_full : ℕ
list_full = 2048

-- number 13: "if a buffer is shorter than 2,304 starts or counts for bindings, 256 for globals, or 2,048 for either flat list"
pub data ShortListsOf (starts counts list global_starts global_counts global_list : ℕ) : Type 0 where
  short_starts : starts < bindings_full → ShortListsOf starts counts list global_starts global_counts global_list
  short_counts : counts < bindings_full → ShortListsOf starts counts list global_starts global_counts global_list
  short_list : list < list_full → ShortListsOf starts counts list global_starts global_counts global_list
  short_global_starts : global_starts < globals_full → ShortListsOf starts counts list global_starts global_counts global_list
  short_global_counts : global_counts < globals_full → ShortListsOf starts counts list global_starts global_counts global_list
  short_global_list : global_list < list_full → ShortListsOf starts counts list global_starts global_counts global_list

abbrev pub ShortLists : Lists → Type 0
ShortLists l = ShortListsOf (length l.starts) (length l.counts) (length l.list) (length l.global_starts) (length l.global_counts) (length l.global_list)

-- every element of every one of the six is zero
pub record Cleared (l l' : Lists) : Type 0 where
  pub starts : l'.starts ≡ replicate (length l.starts) 0
  pub counts : l'.counts ≡ replicate (length l.counts) 0
  pub list : l'.list ≡ replicate (length l.list) 0
  pub global_starts : l'.global_starts ≡ replicate (length l.global_starts) 0
  pub global_counts : l'.global_counts ≡ replicate (length l.global_counts) 0
  pub global_list : l'.global_list ≡ replicate (length l.global_list) 0
