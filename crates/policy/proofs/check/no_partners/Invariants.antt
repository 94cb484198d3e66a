use Rattle.prelude.proofs.Kit.{◌≡◌}
use Rattle.labels.specs.Membership.{all_below}
use Rattle.machine.specs.Policy.{partner_well_formed}
use Rattle.policy.proofs.check.no_partners.Given as goal

-- the flag is the test of the URLs passed
abbrev pub invariant-loop-url : goal.invariant-loop-url
invariant-loop-url l = l.passed ≡ all_below l.url (partner_well_formed l.policy)
