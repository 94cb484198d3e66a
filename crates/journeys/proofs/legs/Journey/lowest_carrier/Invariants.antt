-- `Journey::lowest_carrier` meets its contract: what is left of the connections leads to where all lead, and the places below one are taken.
use Rattle.std.proofs.Common.{◌≡◌, true}
use Rattle.prelude.proofs.Lowest.{lowest_from}
use Rattle.labels.specs.Membership.{all_below}
use Rattle.machine.specs.Policy.{connections}
use Rattle.journeys.specs.Journey.{takes, carries, carrier}
use Rattle.journeys.proofs.legs.Journey.lowest_carrier.Given as goal

abbrev pub invariant-search : goal.invariant-search
invariant-search g l =
    lowest_from connections (carries l.self.policy.words.now l.self.urls.now) l.connection ≡ carrier l.self.policy.words.now l.self.urls.now

abbrev pub invariant-loop-place : goal.invariant-loop-place
invariant-loop-place g l = true ≡ all_below l.place (takes l.self.policy.words.now l.self.urls.now l.connection)
