-- `report::write_labelled` meets its contract: the words, then the number.
use Rattle.text.proofs.Writing.{writes_then}
use Rattle.journey.proofs.report.write_labelled.Goals as goal

pub returns : goal.returns
returns c = writes_then c.write_bytes.ensures c.write_decimal.ensures
