-- `listing::put_accepted` meets its contract: list by list.
-- Assumes nothing.
use Prim.Native.Nat.{ℕ}
use mathlib.Core.Path.{ap}
use mathlib.Core.List.{List}
use Rattle.text.specs.Laws.{puts_then, puts_is, puts_line}
use Rattle.listing.specs.Text.{binding_lines, entry_lines, scope_lines, copy_lines, error_lines}
use Rattle.listing.proofs.put_accepted.Goals as goal

pub returns : goal.returns
returns c =
    puts_line (puts_then c.put_counts-k.ensures (puts_then (puts_is c.put_bindings-k.ensures (ap (λ (l : List ℕ). binding_lines c.args.file.now l) c.front.ensures)) (puts_then (puts_is c.put_entries-k.ensures (ap (λ (l : List ℕ). entry_lines c.args.file.now l) c.front-2.ensures)) (puts_then (puts_is c.put_scopes-k.ensures (ap (λ (l : List ℕ). scope_lines c.args.file.now c.args.scopes.now l) c.front-3.ensures)) (puts_then (puts_is c.put_copies-k.ensures (ap (λ (l : List ℕ). copy_lines l) c.front-4.ensures)) (puts_then c.put_idents-k.ensures (puts_is c.put_errors.ensures (ap (λ (l : List ℕ). error_lines c.args.file.now l) c.front-5.ensures))))))))
