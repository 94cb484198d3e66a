-- `Writer::write_numbers` meets its contract: the first, and then the others.
use Rattle.prelude.proofs.Kit.{arith}
use Rattle.text.proofs.Writing.{writes_then}
use Rattle.text.proofs.Decimals.{line_more}
use Rattle.text.proofs.Writer.+write_numbers.Goals as goal

pub returns-in-len1-up : goal.returns-in-len1-up
returns-in-len1-up t c = rw (line_more c.args.numbers.now (omega arith)) (writes_then c.write_number-in-len1-up.ensures c.write_numbers.ensures)
