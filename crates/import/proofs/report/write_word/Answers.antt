-- `report::write_word` meets its contract: the place of the readers of the host's cookie, and their word.
use Rattle.text.proofs.Writing.{writes_then}
use Rattle.import.proofs.report.write_word.Goals as goal

pub returns : goal.returns
returns c = writes_then c.write_bytes.ensures (writes_then c.write_number.ensures (writes_then c.write_bytes-2.ensures c.write_hex_word.ensures))
