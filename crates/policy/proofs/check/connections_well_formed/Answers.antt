-- `check::connections_well_formed` meets its contract: the flag is the test of the connections passed.
use Rattle.prelude.proofs.Kit.{arith, ◌≡◌}
use Rattle.labels.proofs.Below.{all_none, all_next}
use Rattle.machine.specs.Policy.{connections, connection_well_formed}
use Rattle.policy.proofs.check.connections_well_formed.Goals as goal

pub loop-connection-init : goal.loop-connection-init
loop-connection-init g c = all_none _

pub loop-connection-preserved : goal.loop-connection-preserved
unfolding connection_well_formed
loop-connection-preserved g c =
    rw (c.within-passed.ensures, c.script_readers.ensures, c.connection_readers-readers.ensures, c.loop-connection.invariant) (all_next _ _)

pub returns : goal.returns
returns g c = let past : c.loop-connection.connection ≡ connections = omega arith in rw past at c.loop-connection.invariant
