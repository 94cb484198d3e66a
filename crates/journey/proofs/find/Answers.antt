-- `find` meets what it asks of `print`: what was written is all that is printed of the input and the URLs.
use Rattle.prelude.proofs.Kit.{◌∙◌}
use Rattle.text.proofs.Writing.{writes_all}
use Rattle.journey.proofs.find.Goals as goal

pub print-requires : goal.print-requires
print-requires c = c.written.ensures ∙ writes_all c.new-text.ensures.at_front c.write_journey.ensures
