-- The answer of a refusal.
use Rattle.std.specs.Prelude.{ℕ}
use Rattle.answer.specs.declared.Answer.{Answer}

-- a refusal's number, and no counts
abbrev pub refusal : ℕ → Answer
refusal n = record { number = n; bindings = 0; «module» = 0; slots = 0; copies = 0; errors = 0 }
