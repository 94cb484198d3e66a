-- `check::group_empty` meets its contract: the four pairs of rows are empty just where all eight rows are.
use Rattle.prelude.proofs.Bits.{or_zero}
use Rattle.labels.proofs.Below.{eight}
use Rattle.machine.specs.Policy.{empty_row}
use Rattle.policy.proofs.check.group_empty.Goals as goal

pub returns : goal.returns
returns c =
    rw (or_zero _ _, or_zero _ _, or_zero _ _, c.two_rows_left.ensures, c.two_rows_left-2.ensures, c.two_rows_left-3.ensures, c.two_rows_left-4.ensures)
    (eight c.args.first (empty_row c.args.policy.now))
