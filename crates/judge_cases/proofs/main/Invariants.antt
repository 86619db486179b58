-- No more cases are wrong than were asked, so counting them fits.
use Rattle.std.proofs.Common.{◌≤◌}
use Rattle.judge_cases.proofs.main.Given as goal

abbrev pub invariant-loop-case : goal.invariant-loop-case
invariant-loop-case l = l.bad ≤ l.case
