-- `report::write_none` meets its contract: the lines of the connections, one after another.
use Rattle.machine.specs.Policy.{connections}
use Rattle.text.proofs.Pieces.{Listing}
use Rattle.journey.specs.Report.{failure_text, line_room}
use Rattle.journey.proofs.Room.{line_room_lem}
use Rattle.journey.proofs.report.write_none.Given as goal

abbrev pub invariant-loop-connection : goal.invariant-loop-connection
invariant-loop-connection l =
    let p = l.journey.policy.words.now in
    let urls = l.journey.urls.now in
    Listing connections line_room (failure_text p urls) (line_room_lem p urls) l.initial.text l.text l.connection
