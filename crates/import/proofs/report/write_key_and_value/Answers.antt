-- `report::write_key_and_value` meets its contract: both numbers, each behind its word.
use Rattle.text.proofs.Writing.{writes_then}
use Rattle.import.proofs.report.write_key_and_value.Goals as goal

pub returns : goal.returns
returns c = writes_then c.write_bytes.ensures (writes_then c.write_decimal.ensures (writes_then c.write_bytes-2.ensures c.write_decimal-2.ensures))
