-- `check::well_formed` meets its contract: the parts of the test.
use Rattle.prelude.proofs.Kit.{rules}
use Rattle.policy.proofs.Rows.{formed_last, formed_first}
use Rattle.policy.proofs.check.well_formed.Goals as goal

pub returns-then-rows_well_formed-connections_well_formed : goal.returns-then-rows_well_formed-connections_well_formed
returns-then-rows_well_formed-connections_well_formed g c =
    formed_last _ (search rules) _ _ c.rows_well_formed.ensures c.connections_well_formed.ensures _ c.if-rows_well_formed-connections_well_formed.true c.https_well_formed.ensures

pub returns-else-rows_well_formed-connections_well_formed : goal.returns-else-rows_well_formed-connections_well_formed
returns-else-rows_well_formed-connections_well_formed g c =
    formed_first _ (search rules) _ _ c.rows_well_formed.ensures c.connections_well_formed.ensures c.if-rows_well_formed-connections_well_formed.false
