-- `in_range` meets its contract.
use Rattle.prelude.proofs.Kit.{and_assoc, ltb}
use Rattle.machine.specs.Policy.{url_rows, is_connection}
use Rattle.machine.specs.Scripts.{is_script}
use Rattle.usage.proofs.in_range.Goals as goal

pub returns : goal.returns
returns c =
    let r = c.args.request in
    and_assoc (ltb r.url url_rows) (is_connection r.connection) (is_script r.script)
