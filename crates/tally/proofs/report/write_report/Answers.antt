-- `report::write_report` meets its contract: the word of a refused list, or the lines and the last one.
use Rattle.prelude.proofs.Kit.{arith}
use Rattle.text.proofs.Writing.{writes_then}
use Rattle.tally.proofs.Listing.{lines_short, bad_report, good_report}
use Rattle.tally.proofs.report.write_report.Goals as goal

pub returns-then-tally-ne-ACCEPTED : goal.returns-then-tally-ne-ACCEPTED
returns-then-tally-ne-ACCEPTED c = rw (bad_report c.args.tally.now c.if-tally-ne-ACCEPTED.true) c.write_bytes.ensures

pub write_line-requires-clause-room : goal.write_line-requires-clause-room
write_line-requires-clause-room c = let t = c.args.tally.now in omega (arith, c.requires, lines_short t.records t.cookies)

pub returns : goal.returns
returns c = rw (good_report c.args.tally.now c.if-tally-ne-ACCEPTED.false) (writes_then c.write_lines.ensures c.write_line.ensures)
