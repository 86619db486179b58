-- How what names mean at a point of walk three stands in the working list t: the locals in reach, innermost first,
-- the functions around, the module, the globals, and which stretch of the bindings each function has.
use Rattle.std.specs.Prelude.{ℕ, ◌+◌, ◌<◌, ◌≤◌, ◌≡◌, true, List, [], ◌∷◌, length, get_or}
use Rattle.std.proofs.Math.Option.{some}
use Rattle.std.proofs.Math.ListN.{get_elem?}
use Rattle.lexical.specs.Lists.{first, place, map_o}
use Rattle.lexical.specs.Binders.{load_shown}
use Rattle.lexical.specs.Module.{File}
use Rattle.lexical.specs.State.{Binding}
use Rattle.lexical.specs.Block.{called}
use Rattle.lexical.specs.Records.{bit}
use Rattle.store.specs.Sections.{Point, plus, cur_at, mod_at, glob_at, hidden_at, saved_at, first_at, last_at, stack_at, shown_at}

-- the number (+ 1) of the innermost of these that has a name
unfoldable pub number_of : List Binding → ℕ → ℕ
number_of env n = plus (map_o (λ (b : Binding). b.id) (first (called n) env))

-- a local in reach: it stands among the bindings, and what its name meant outside of it is kept
pub record SavedOne (b : Binding) (env made : List Binding) (t : List ℕ) : Type 0 where
  pub stands : get_elem? made b.id ≡ some b
  pub local : b.local ≡ true
  pub was : get_or t (saved_at + b.id) 0 ≡ number_of env b.var.name

unfoldable pub SavedAll : List Binding → List Binding → List ℕ → Type 0
SavedAll [] made t = Unit {0}
SavedAll (b ∷ env) made t = SavedOne b env made t × SavedAll env made t

-- the scopes around, innermost first: the level of each is the number of those outside it
unfoldable pub Stacked : List ℕ → List ℕ → Type 0
Stacked [] t = Unit {0}
Stacked (s ∷ ss) t = (get_or t (stack_at + length ss) 0 ≡ s) × (s < 256) × Stacked ss t

pub record EnvIn (env : List Binding) (ss : List ℕ) (made : List Binding) (level : ℕ) (t : List ℕ) : Type 0 where
  pub cur : Point t cur_at 1024 (number_of env)
  pub saved : SavedAll env made t
  pub stack : Stacked ss t
  pub level_is : level + 1 ≡ length ss
  pub low : length ss ≤ 127

-- mods: the module's names, by number
pub record NamesIn (F : File) (mods : List ℕ) (t : List ℕ) : Type 0 where
  pub in_module : Point t mod_at 1024 (λ n. plus (place n mods))
  pub in_globals : Point t glob_at 1024 (λ n. plus (place n F.globals))
  pub hidden : Point t hidden_at 1024 (λ n. bit (F.names.hidden n))
  pub shown : get_or t shown_at 0 ≡ bit (load_shown F.names)

-- bs are the bindings from lo up to hi
pub record Range (made bs : List Binding) (lo hi : ℕ) : Type 0 where
  pub end : hi ≡ lo + length bs
  pub within : hi ≤ length made
  pub are : (k : ℕ) (b : Binding) → get_elem? bs k ≡ some b → get_elem? made (lo + k) ≡ some b
  pub locals : (k : ℕ) (b : Binding) → get_elem? bs k ≡ some b → b.local ≡ true

-- D: each function's variables
abbrev pub RangesIn : (ℕ → List Binding) → List Binding → List ℕ → Type 0
RangesIn D made t = (s : ℕ) → s < 256 → Range made (D s) (get_or t (first_at + s) 0) (get_or t (last_at + s) 0)
