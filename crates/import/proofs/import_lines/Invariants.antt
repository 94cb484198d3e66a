-- Each line is printed as the next of the input.
use Rattle.import.proofs.Splitting.{Splitting}
use Rattle.import.proofs.import_lines.Given as goal

abbrev pub invariant-loop-line : goal.invariant-loop-line
invariant-loop-line l = Splitting l.input l.line-iterator.left.now l.nth
