-- `report::write_lines` meets its contract: the lines of the connections, one after another.
use Rattle.prelude.proofs.Kit.{arith}
use Rattle.text.proofs.Pieces.{listing_begins, room_here, listing_goes_on, listing_ends}
use Rattle.reach.proofs.report.write_lines.Goals as goal

pub loop-connection-init : goal.loop-connection-init
loop-connection-init c = listing_begins _ _ _ _ _ c.requires

pub write_pair-requires : goal.write_pair-requires
write_pair-requires c = room_here _ _ _ _ c.loop-connection.invariant c.loop-connection-test.true

pub loop-connection-preserved : goal.loop-connection-preserved
loop-connection-preserved c = listing_goes_on _ _ _ _ c.loop-connection.invariant c.loop-connection-test.true c.write_pair.ensures

pub returns : goal.returns
returns c = listing_ends _ _ _ _ c.loop-connection.invariant (omega arith)
