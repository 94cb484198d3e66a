-- `tally` meets what it asks of `print`: what was written is all that is printed of the list.
use Rattle.prelude.proofs.Kit.{◌∙◌}
use Rattle.text.proofs.Writing.{writes_all}
use Rattle.tally.proofs.tally.Goals as goal

pub print-requires : goal.print-requires
print-requires c = c.written.ensures ∙ writes_all c.new-text.ensures.at_front c.write_tally.ensures
