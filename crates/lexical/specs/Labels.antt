-- T3's words in those of the definition: schemes of copies whose slots are labelled by the local they hold, its scope and the Name that declares it. So what is asked of a scheme speaks of the tree alone.
use Rattle.std.specs.Prelude.{◌≡◌, ◌⊎◌, List, [], ◌∷◌, ℕ}
use Rattle.std.proofs.Math.Option.{Option, none, some}
use Rattle.std.proofs.Math.ListN.{get_elem?}
use Rattle.lexical.specs.Module.{File}
use Rattle.lexical.specs.Meaning.{Site, declared, scopes_of}
use Rattle.lexical.specs.State.{Binding, St}
use Rattle.lexical.specs.Follow.{value_in}
use Rattle.lexical.specs.Claims.{sites_of}
use Rattle.lexical.specs.Schemes.{Copies, pairs}

-- any scheme: for each scope its copies, from a slot of the scope directly around to a slot; each slot holds one local
pub record Labelled : Type 0 where
  pub copies : ℕ → List (ℕ × ℕ)
  pub local : ℕ → ℕ → ℕ × ℕ

-- slot k of the first of these scopes has local d's value, its own there or copied from the scope around
abbrev pub Has : Labelled → List ℕ → ℕ → ℕ × ℕ → Type 0
Has S [] k d = ⊥
Has S (s ∷ ss) k d = (S.local s k ≡ d) × ((s ≡ d.0) ⊎ ((p : ℕ) × Copies p k (S.copies s) × Has S ss p d))

-- every local is at hand where an Ident means it, refused in a type or not
abbrev pub ServesTree : File → Labelled → Type 0
ServesTree F S = (j : ℕ) (s : Site) → get_elem? (sites_of F) j ≡ some s → (d : ℕ × ℕ) → declared s.name s.above ≡ some d → (k : ℕ) × Has S (scopes_of s.above) k d

-- the scheme of the copies that are made
unfoldable pub label_of : Option Binding → ℕ × ℕ
label_of none = (0, 0)
label_of (some b) = (b.owner, b.var.source)

unfoldable pub label_in : List Binding → Option ℕ → ℕ × ℕ
label_in bs none = (0, 0)
label_in bs (some i) = label_of (get_elem? bs i)

unfoldable pub labelled : St → Labelled
labelled st = record { copies = λ s. pairs s st.copies; local = λ s k. label_in st.made (value_in s k st.slots) }
