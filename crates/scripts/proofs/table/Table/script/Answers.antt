-- `Table::script` meets its contract: the bytes are those of the script that is named.
use Rattle.prelude.proofs.Kit.{ℕ, ◌*◌, ◌∙◌, ap}
use Rattle.machine.specs.Scripts.{script_bytes}
use Rattle.scripts.proofs.Tables.{part_is}
use Rattle.scripts.proofs.table.Table.script.Goals as goal

pub returns-clause-code : goal.returns-clause-code
returns-clause-code c =
    c.new.ensures.code ∙ part_is c.args.self.bytes.now _ c.args.number (ap (λ (n : ℕ). script_bytes * n) c.from-start.ensures)
