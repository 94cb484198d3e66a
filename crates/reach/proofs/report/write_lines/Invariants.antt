-- `report::write_lines` meets its contract: the lines of the connections, one after another.
use Rattle.machine.specs.Policy.{connections}
use Rattle.text.proofs.Pieces.{Listing}
use Rattle.reach.specs.Report.{line_text, line_room}
use Rattle.reach.proofs.Room.{line_room_lem}
use Rattle.reach.proofs.report.write_lines.Given as goal

abbrev pub invariant-loop-connection : goal.invariant-loop-connection
invariant-loop-connection l = Listing connections line_room (line_text l.urls) (line_room_lem l.urls) l.initial.text l.text l.connection
