-- What an answer of 0 says: resolving gives the same, and all six buffers are long enough.
use Rattle.std.specs.Prelude.{ℕ, ◌≡◌, refl, List}
use Rattle.std.proofs.Common.{sym, subst}
use Rattle.base.specs.First.{First, NoneHolds, none_first, first-none, none-front, none_after}
use Rattle.answer.specs.declared.Answer.{Answer}
use Rattle.answer.specs.Buffers.{Buffers}
use Rattle.scope.specs.Answer.{resolving, Resolves}
use Rattle.readers.specs.Lists.{Lists, ShortLists}
use Rattle.readers.specs.Readers.{list_rows, reading, Readers}

module _ {bs : List ℕ} {b b' : Buffers} {l l' : Lists} {a : Answer} (r : Readers bs b l a b' l') (z : a.number ≡ 0) where
  none-holds : NoneHolds (reading bs b l)
  none-holds = first-none (reading bs b l) 0 tt refl (subst (First (reading bs b l)) z r.number)

  pub zero_resolves : Resolves bs b a b'
  zero_resolves = record {
    number = subst (First (resolving bs b)) (sym z) (none_first (resolving bs b) (none-front (resolving bs b) (list_rows l) none-holds));
    refused = r.refused;
    given = r.given;
  }

  pub zero_long : ShortLists l → ⊥
  zero_long = (none_after (resolving bs b) (list_rows l) none-holds).0
