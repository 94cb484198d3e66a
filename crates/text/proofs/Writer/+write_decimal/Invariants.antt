-- The measure of `Writer::write_decimal` is the number.
use Rattle.text.proofs.Writer.+write_decimal.Given as goal

abbrev pub decreases-write_decimal : goal.decreases-write_decimal
decreases-write_decimal l = l.n
