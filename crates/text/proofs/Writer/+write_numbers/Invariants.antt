-- The measure of `Writer::write_numbers` is how many there are.
use Rattle.prelude.proofs.Kit.{length}
use Rattle.text.proofs.Writer.+write_numbers.Given as goal

abbrev pub decreases-write_numbers : goal.decreases-write_numbers
decreases-write_numbers l = length l.numbers.now
