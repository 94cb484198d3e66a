-- `lines::write_request_line` meets its contract: its four words one after another.
use Rattle.text.proofs.Writing.{writes_then}
use Rattle.transcript.proofs.lines.write_request_line.Goals as goal

pub returns : goal.returns
returns c =
    let url = rw c.from.ensures at c.write_number.ensures in
    let connection = rw c.from-2.ensures at c.write_number-2.ensures in
    writes_then c.write_bytes.ensures (writes_then url (writes_then connection c.write_hex.ensures))
