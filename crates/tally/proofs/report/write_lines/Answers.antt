-- `report::write_lines` meets its contract: the lines of the URLs that are left lead to where all lead.
use Rattle.tally.proofs.Listing.{listing_begins, room_here, listing_goes_on, listing_ends}
use Rattle.tally.proofs.report.write_lines.Goals as goal

pub loop-url-init : goal.loop-url-init
loop-url-init c = listing_begins _ _ _ c.requires

pub write_line_if_any-requires : goal.write_line_if_any-requires
write_line_if_any-requires c = room_here _ _ c.loop-url.invariant c.loop-url-test.true

pub loop-url-preserved : goal.loop-url-preserved
loop-url-preserved c = listing_goes_on _ _ c.loop-url.invariant c.loop-url-test.true c.write_line_if_any.ensures

pub returns : goal.returns
returns c = listing_ends _ _ c.loop-url.invariant c.loop-url-test.false
