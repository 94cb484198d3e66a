-- The claims about whole lists at the lists of their examples: what they ask holds of these, so they speak of them.
use Rattle.std.specs.Prelude.{◌≡◌}
use Rattle.machine.specs.Policy.{cookie_index}
use Rattle.machine.specs.Session.{present, cookie_value, connection_word}
use Rattle.machine.specs.Secrecy.{observations}
use Rattle.machine.specs.Integrity.{guarded_requests}
use Rattle.machine_cases.specs.SecrecyExamples.{http_host_one, policy_two_hosts, with_hidden, without_hidden}
use Rattle.machine_cases.specs.SecrecyExamples.{ran as ran_two_hosts}
use Rattle.machine_cases.specs.IntegrityExamples.{forger, policy_top_up, forger_at_work, forger_elsewhere, ran, ran_refused}

-- the requests that the set sees
abbrev pub SecrecySpeaks : Type 0
SecrecySpeaks =
    observations http_host_one policy_two_hosts (ran_two_hosts with_hidden).requests
    ≡ observations http_host_one policy_two_hosts (ran_two_hosts without_hidden).requests

-- the guarded requests; and all requests, under the policy that 2 refuses
abbrev pub IntegritySpeaks : Type 0
IntegritySpeaks =
    (guarded_requests forger policy_top_up (ran forger_at_work).requests ≡ guarded_requests forger policy_top_up (ran forger_elsewhere).requests)
    × ((ran_refused forger_at_work).requests ≡ (ran_refused forger_elsewhere).requests)

-- of the states after, cookie (2,3) and connection 8; and all of them, under that policy
abbrev pub HonestStateSpeaks : Type 0
HonestStateSpeaks =
    (present (ran forger_at_work).state 2 3 ≡ present (ran forger_elsewhere).state 2 3)
    × (cookie_value (ran forger_at_work).state (cookie_index 2 3) ≡ cookie_value (ran forger_elsewhere).state (cookie_index 2 3))
    × (connection_word (ran forger_at_work).state 8 ≡ connection_word (ran forger_elsewhere).state 8)
    × ((ran_refused forger_at_work).state ≡ (ran_refused forger_elsewhere).state)
