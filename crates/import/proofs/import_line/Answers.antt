-- `import_line` meets what it asks of `print`: what was written is all that is printed of the line.
use Rattle.prelude.proofs.Kit.{◌∙◌}
use Rattle.text.proofs.Writing.{writes_all}
use Rattle.import.proofs.import_line.Goals as goal

pub print-requires : goal.print-requires
print-requires c = (c.requires.0, c.written.ensures ∙ writes_all c.new-text.ensures.at_front c.write_line.ensures ∙ c.requires.1)
