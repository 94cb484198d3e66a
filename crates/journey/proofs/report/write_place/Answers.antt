-- `report::write_place` meets its contract: the URL, its place and how many there are.
use Rattle.prelude.proofs.Kit.{arith}
use Rattle.text.specs.Text.{ascii}
use Rattle.text.proofs.Writing.{writes_then}
use Rattle.journey.proofs.Room.{labelled_room}
use Rattle.journey.proofs.report.write_place.Goals as goal

pub write_labelled-requires-2 : goal.write_labelled-requires-2
write_labelled-requires-2 c = omega (arith, labelled_room (ascii " at URL ") c.args.url)

pub write_labelled-requires-3 : goal.write_labelled-requires-3
write_labelled-requires-3 c = omega (arith, labelled_room (ascii " at URL ") c.args.url, labelled_room (ascii " (") c.args.nth)

pub returns : goal.returns
returns c = writes_then c.write_labelled.ensures (writes_then c.write_labelled-2.ensures c.write_labelled-3.ensures)
