-- `report::write_refusal` meets its contract: the number, and the reason.
use Rattle.text.proofs.Writing.{writes_then}
use Rattle.import.proofs.report.write_refusal.Goals as goal

pub returns : goal.returns
returns c = writes_then c.write_bytes.ensures (writes_then c.write_number.ensures (rw c.reason.ensures.reason at c.write_bytes-2.ensures))
