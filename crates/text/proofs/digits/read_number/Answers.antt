-- A digit is added to what was read.
use Rattle.prelude.proofs.Kit.{sym, ◌∙◌}
use Rattle.text.proofs.Reading.{reading_goes_on}
use Rattle.text.proofs.digits.read_number.Goals as goal

pub loop-digit-preserved : goal.loop-digit-preserved
loop-digit-preserved c =
    reading_goes_on _ c.loop-digit.invariant c.loop-digit-test.true (sym c.is_ascii_digit.ensures.value ∙ c.if-not-is_ascii_digit.false) c.from.ensures
