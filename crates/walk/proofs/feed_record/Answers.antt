-- `walk::feed_record` is safe: the monitor counts no more bytes than the output has.
use Rattle.prelude.proofs.Kit.{ap}
use lib.Dec.{lit≤}
use Rattle.machine.specs.Machine.{Fed}
use Rattle.machine.proofs.Refusals.{past_is_kept}
use Rattle.walk.proofs.feed_record.Goals as goal

pub print_answer-requires : goal.print_answer-requires
print_answer-requires c =
    let call = c.monitor_feed-answer in
    let long = call.auto.out in
    (rw (ap (λ (f : Fed). f.bytes) call.ensures, long) (past_is_kept _ _ _ _ _).0, rw long (lit≤ tt))
