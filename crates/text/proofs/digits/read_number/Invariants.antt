-- `digits::read_number` meets its contract: digits are read until one is none, and what they make is held to the bound.
use Rattle.text.proofs.Reading.{Reading}
use Rattle.text.proofs.digits.read_number.Given as goal

abbrev pub invariant-loop-digit : goal.invariant-loop-digit
invariant-loop-digit l = Reading l.text l.number l.digit-index
