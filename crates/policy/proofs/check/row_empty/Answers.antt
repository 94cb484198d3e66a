-- `check::row_empty` meets its contract: its tests are those of the definition.
use Rattle.policy.proofs.Rows.{row_empty}
use Rattle.policy.proofs.check.row_empty.Goals as goal

pub returns : goal.returns
returns c = row_empty c.args.policy.now c.args.url
