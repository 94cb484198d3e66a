use Rattle.prelude.proofs.Kit.{◌≡◌}
use Rattle.labels.specs.Membership.{all_below}
use Rattle.machine.specs.Policy.{connection_well_formed}
use Rattle.policy.proofs.check.connections_well_formed.Given as goal

-- the flag is the test of the connections passed
abbrev pub invariant-loop-connection : goal.invariant-loop-connection
invariant-loop-connection g l = l.passed ≡ all_below l.connection (connection_well_formed l.policy)
