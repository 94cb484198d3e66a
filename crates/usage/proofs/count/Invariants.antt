-- `count` meets its contract: what is counted and what is left make the whole.
use Rattle.prelude.proofs.Kit.{◌≡◌, length}
use Rattle.prelude.specs.Refusals.{accepted}
use Rattle.usage.proofs.Counting.{Counting}
use Rattle.usage.proofs.count.Given as goal

abbrev pub invariant-loop-left : goal.invariant-loop-left
invariant-loop-left l = record {
  none_refused : l.tally.number ≡ accepted;
  counting : Counting l.requests l.tally.records l.tally.cookies l.all_records l.all_cookies l.left;
}

abbrev pub decreases-loop-left : goal.decreases-loop-left
decreases-loop-left l = length l.left
