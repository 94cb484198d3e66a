-- `report::write_none` meets its contract: the lines of the connections, one after another.
use Rattle.prelude.proofs.Kit.{arith}
use Rattle.text.proofs.Writing.{writes_then}
use Rattle.text.proofs.Pieces.{listing_begins, room_here, listing_goes_on, listing_ends}
use Rattle.journey.proofs.report.write_none.Goals as goal

pub loop-connection-init : goal.loop-connection-init
loop-connection-init c = listing_begins _ _ _ _ _ (omega arith)

pub write_failure-requires-clause-room : goal.write_failure-requires-clause-room
write_failure-requires-clause-room c = room_here _ _ _ _ c.loop-connection.invariant c.loop-connection-test.true

pub loop-connection-preserved : goal.loop-connection-preserved
loop-connection-preserved c = listing_goes_on _ _ _ _ c.loop-connection.invariant c.loop-connection-test.true c.write_failure.ensures

pub returns : goal.returns
returns c = writes_then c.write_bytes.ensures (listing_ends _ _ _ _ c.loop-connection.invariant (omega arith))
