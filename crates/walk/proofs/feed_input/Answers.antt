-- `walk::feed_input` meets what it asks of `feed_records`: there are no more records than the input has bytes.
use Rattle.prelude.proofs.Kit.{arith, ap, length, length-drop}
use Rattle.transcript.specs.Input.{records_at}
use Rattle.walk.proofs.feed_input.Goals as goal

pub feed_records-requires : goal.feed_records-requires
feed_records-requires c = omega (arith, ap length c.new-records.ensures, length-drop records_at c.args.input.now)
