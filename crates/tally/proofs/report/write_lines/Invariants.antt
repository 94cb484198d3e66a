-- `report::write_lines` meets its contract: the lines of the URLs that are left lead to where all lead.
use Rattle.tally.proofs.Listing.{Listing}
use Rattle.tally.proofs.report.write_lines.Given as goal

abbrev pub invariant-loop-url : goal.invariant-loop-url
invariant-loop-url l = Listing l.tally.records l.tally.cookies l.initial.text l.text l.url
