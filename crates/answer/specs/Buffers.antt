-- The seven answer buffers (document 01, "Answer buffers"): how long they must be, and what it is to hold some records.
use Rattle.std.specs.Prelude.{ℕ, ◌-◌, ◌<◌, ◌≡◌, List, ◌++◌, length, replicate}

pub record Buffers : Type 0 where
  pub nodes : List ℕ
  pub bindings : List ℕ
  pub entries : List ℕ
  pub scopes : List ℕ
  pub slots : List ℕ
  pub copies : List ℕ
  pub errors : List ℕ

abbrev pub buffers : List ℕ → List ℕ → List ℕ → List ℕ → List ℕ → List ℕ → List ℕ → Buffers
buffers n b e sc sl c er = record { nodes = n; bindings = b; entries = e; scopes = sc; slots = sl; copies = c; errors = er }

-- how long each of them must be
abbrev pub nodes_full : ℕ
nodes_full = 2048

abbrev pub bindings_full : ℕ
bindings_full = 2304

abbrev pub entries_full : ℕ
entries_full = 2304

abbrev pub scopes_full : ℕ
scopes_full = 256

abbrev pub slots_full : ℕ
slots_full = 4096

abbrev pub copies_full : ℕ
copies_full = 4096

abbrev pub errors_full : ℕ
errors_full = 2048

-- number 1: a buffer is shorter than its full length
pub data ShortOf (nodes bindings entries scopes slots copies errors : ℕ) : Type 0 where
  short_nodes : nodes < nodes_full → ShortOf nodes bindings entries scopes slots copies errors
  short_bindings : bindings < bindings_full → ShortOf nodes bindings entries scopes slots copies errors
  short_entries : entries < entries_full → ShortOf nodes bindings entries scopes slots copies errors
  short_scopes : scopes < scopes_full → ShortOf nodes bindings entries scopes slots copies errors
  short_slots : slots < slots_full → ShortOf nodes bindings entries scopes slots copies errors
  short_copies : copies < copies_full → ShortOf nodes bindings entries scopes slots copies errors
  short_errors : errors < errors_full → ShortOf nodes bindings entries scopes slots copies errors

abbrev pub Short : Buffers → Type 0
Short b = ShortOf (length b.nodes) (length b.bindings) (length b.entries) (length b.scopes) (length b.slots) (length b.copies) (length b.errors)

-- a buffer of length n holds the records xs from the front, then zeros
abbrev pub Front : List ℕ → ℕ → List ℕ → Type 0
Front l n xs = l ≡ xs ++ replicate (n - length xs) 0

-- every element of every buffer is zero
pub record Zeroed (b b' : Buffers) : Type 0 where
  pub nodes : b'.nodes ≡ replicate (length b.nodes) 0
  pub bindings : b'.bindings ≡ replicate (length b.bindings) 0
  pub entries : b'.entries ≡ replicate (length b.entries) 0
  pub scopes : b'.scopes ≡ replicate (length b.scopes) 0
  pub slots : b'.slots ≡ replicate (length b.slots) 0
  pub copies : b'.copies ≡ replicate (length b.copies) 0
  pub errors : b'.errors ≡ replicate (length b.errors) 0
