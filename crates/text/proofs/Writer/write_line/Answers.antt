-- `Writer::write_line` meets its contract: the word and a space, and then the numbers.
use Rattle.text.proofs.Decimals.{line_after}
use Rattle.text.proofs.Writing.{writes_then}
use Rattle.text.proofs.Writer.write_line.Goals as goal

pub returns : goal.returns
returns c =
    rw (line_after c.args.word.now c.args.numbers.now c.requires.some)
    (writes_then (writes_then c.write_bytes.ensures c.write_byte.ensures) c.write_numbers.ensures)
