-- What an answer of 0 says of the file: judging accepts it, and its slots are few enough.
use Rattle.std.specs.Prelude.{ℕ, ◌≤◌, ◌≡◌, List, length}
use Rattle.std.proofs.Common.{subst, arith}
use Rattle.std.proofs.Math.Decide.{dec_lt}
use Rattle.base.specs.First.{First}
use Rattle.lexical.specs.Tree.{Forest}
use Rattle.lexical.specs.Third.{resolved}
use Rattle.nodefile.specs.Layout.{nodes_of}
use Rattle.nodefile.specs.Reads.{Reads}
use Rattle.nodefile.specs.FileOf.{file_of}
use Rattle.judge.specs.Cond.{Judged}
use Rattle.answer.specs.declared.Answer.{Answer}
use Rattle.answer.specs.Buffers.{Buffers}
use Rattle.scope.specs.Answer.{too_many_slots, resolving, Resolves}
use Rattle.scope.specs.Ready.{Ready}
use Rattle.scope.specs.Laws.Accepts.{judged_ready}
use Rattle.scope.specs.Laws.Conditions.{zero_judged, zero_few}

module _ {bs : List ℕ} {b b' : Buffers} {a : Answer} (r : Resolves bs b a b') (z : a.number ≡ 0) where
  none-holds : First (resolving bs b) 0
  none-holds = subst (First (resolving bs b)) z r.number

  pub zero_accepted : Judged bs 0
  zero_accepted = zero_judged bs b none-holds

  module _ (root : Forest) (t : Reads (nodes_of bs) 0 root) where
    pub zero_ready : Ready bs root
    zero_ready = judged_ready zero_accepted root t

    pub zero_slots : length (resolved (file_of bs root)).slots ≤ 4096
    zero_slots = elim (dec_lt 4096 (length (resolved (file_of bs root)).slots)) [ yes h ↦ absurd (zero_few bs b none-holds (too_many_slots root t h)) | no h ↦ omega arith ]
