-- The spelling of a name number: that stretch of the pool, of a file that judging accepts; otherwise an empty part (document 01).
use Rattle.std.specs.Prelude.{ℕ, ◌≤◌, ◌<◌, ◌≡◌, List, []}
use Rattle.std.proofs.Common.{sym, ◌∙◌, arith}
use Rattle.base.specs.First.{first_one}
use Rattle.nodefile.specs.Layout.{name_count, names_of, pool_of}
use Rattle.nodefile.specs.Lists.{spelled}
use Rattle.judge.specs.Cond.{judging, Judged}

pub data Spelling (bs : List ℕ) (k : ℕ) (part : List ℕ) : Type 0 where
  known : Judged bs 0 → k < name_count bs → part ≡ spelled (names_of bs) (pool_of bs) k → Spelling bs k part
  refused : (r : ℕ) → 0 < r → Judged bs r → part ≡ [] → Spelling bs k part
  no_such_name : name_count bs ≤ k → part ≡ [] → Spelling bs k part

-- no second part fits
pub spelling_one : {bs : List ℕ} {k : ℕ} {p q : List ℕ} → Spelling bs k p → Spelling bs k q → p ≡ q
spelling_one (known a l e) (known b m d) = e ∙ sym d
spelling_one (known a l e) (refused r p b d) = absurd (omega (arith, first_one (judging _) a b))
spelling_one (known a l e) (no_such_name m d) = absurd (omega arith)
spelling_one (refused r p a e) (known b l d) = absurd (omega (arith, first_one (judging _) a b))
spelling_one (refused r p a e) (refused s q b d) = e ∙ sym d
spelling_one (refused r p a e) (no_such_name m d) = e ∙ sym d
spelling_one (no_such_name m e) (known b l d) = absurd (omega arith)
spelling_one (no_such_name m e) (refused r p b d) = e ∙ sym d
spelling_one (no_such_name m e) (no_such_name n d) = e ∙ sym d
