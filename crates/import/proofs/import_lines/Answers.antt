-- Each line is printed as the next of the input, and the last ends it.
use Rattle.std.proofs.Common.{rules}
use Rattle.prelude.proofs.Kit.{◌+◌, ap, arith}
use Rattle.import.specs.Report.{line_text}
use Rattle.import.proofs.Splitting.{splitting_begins, splitting_ends, splitting_goes_on, line_is, next_known, next_few}
use Rattle.import.proofs.import_lines.Goals as goal

pub loop-line-init : goal.loop-line-init
loop-line-init c = splitting_begins _ (search rules)

pub overflow_add-nth : goal.overflow_add-nth
overflow_add-nth c = let few = next_few _ c.loop-line.invariant c.in-Some.ensures.steps c.requires in search (rules, few)

pub import_line-requires : goal.import_line-requires
import_line-requires c = (
  (omega arith, next_known _ c.loop-line.invariant c.in-Some.ensures.steps),
  ap (line_text (c.loop-line.nth + 1) c.args.host c.args.names.now) (line_is _ c.loop-line.invariant c.in-Some.ensures.steps),
)

pub loop-line-preserved : goal.loop-line-preserved
loop-line-preserved c = splitting_goes_on _ c.loop-line.invariant c.in-Some.ensures.steps

pub returns : goal.returns
returns c = splitting_ends _ c.loop-line.invariant c.in-None.ensures.steps.0
