-- `report::write_head` meets its contract: the connection, then the number that refuses.
use Rattle.text.proofs.Writing.{writes_then}
use Rattle.journey.proofs.report.write_head.Goals as goal

pub returns : goal.returns
returns c = writes_then c.write_number.ensures c.write_labelled.ensures
