-- `report::write_report` meets its contract: the number of a policy that is refused, or the lines and the last one.
use Rattle.prelude.proofs.Kit.{arith}
use Rattle.text.proofs.Writing.{writes_then}
use Rattle.reach.proofs.Room.{lines_room, refused_report, table_report}
use Rattle.reach.proofs.report.write_report.Goals as goal

pub returns-then-table-ne-ACCEPTED : goal.returns-then-table-ne-ACCEPTED
returns-then-table-ne-ACCEPTED c = rw (refused_report c.args.table.now c.if-table-ne-ACCEPTED.true) c.write_number.ensures

pub write_line-requires-clause-room : goal.write_line-requires-clause-room
write_line-requires-clause-room c = omega (arith, c.requires, lines_room c.args.table.now.urls)

pub returns : goal.returns
returns c = rw (table_report c.args.table.now c.if-table-ne-ACCEPTED.false) (writes_then c.write_lines.ensures c.write_line.ensures)
