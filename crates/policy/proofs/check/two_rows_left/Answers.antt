-- `check::two_rows_left` meets its contract: the law of two rows that differ in nothing from empty ones.
use Rattle.prelude.proofs.Kit.{◌+◌, ◌*◌}
use Rattle.policy.proofs.Pairs.{two_rows}
use Rattle.policy.proofs.check.two_rows_left.Goals as goal

pub returns : goal.returns
returns c =
    let small = c.fits-policy in
    let u = c.args.first in
    rw (c.pair.ensures, c.pair-2.ensures, c.pair-3.ensures) (two_rows c.args.policy.now u (small (3 * u)) (small (3 * u + 2)) (small (3 * u + 4)))
